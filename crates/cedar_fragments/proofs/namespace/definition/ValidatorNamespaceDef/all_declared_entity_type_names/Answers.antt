use Rattle.std.proofs.Common.{◌∙◌, ap, map}
use Rattle.std.proofs.lemmas.Simd.{map-map}
use Rattle.cedar_ast.specs.EntityType.{type_name}
use Rattle.cedar_fragments.proofs.namespace.definition.ValidatorNamespaceDef.all_declared_entity_type_names.Goals as goal

pub returns : goal.returns
returns g c =
    ap (λ rest. map (type_name) (map (λ it. it.name) rest)) (c.iter.ensures.rest ∙ c.deref.ensures.value) ∙ map-map (type_name) (λ it. it.name) _
