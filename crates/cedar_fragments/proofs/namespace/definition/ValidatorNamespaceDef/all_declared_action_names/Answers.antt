use Rattle.std.proofs.Common.{◌∙◌, ap, map}
use Rattle.std.proofs.lemmas.Simd.{map-map}
use Rattle.cedar_ast.specs.EntityUID.{uid_of}
use Rattle.cedar_fragments.proofs.namespace.definition.ValidatorNamespaceDef.all_declared_action_names.Goals as goal

pub returns : goal.returns
returns g c =
    ap (λ rest. map (uid_of) (map (λ it. it.uid) rest)) (c.iter.ensures.rest ∙ c.deref.ensures.value) ∙ map-map (uid_of) (λ it. it.uid) _
