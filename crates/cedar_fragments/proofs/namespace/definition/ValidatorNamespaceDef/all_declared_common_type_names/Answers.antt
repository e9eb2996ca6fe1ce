use Rattle.std.proofs.Common.{◌∙◌, ap, map}
use Rattle.std.proofs.lemmas.Simd.{map-map}
use Rattle.cedar_ast.specs.InternalName.{name_of}
use Rattle.cedar_fragments.proofs.namespace.definition.ValidatorNamespaceDef.all_declared_common_type_names.Goals as goal

pub returns : goal.returns
returns g c =
    ap (λ rest. map (name_of) (map (λ it. it.name) rest)) (c.iter.ensures.rest ∙ c.deref.ensures.value) ∙ map-map (name_of) (λ it. it.name) _
