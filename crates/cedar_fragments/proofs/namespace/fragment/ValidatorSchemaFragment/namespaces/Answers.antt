use Rattle.std.proofs.Common.{◌∙◌, ap, map}
use Rattle.std.proofs.lemmas.Simd.{map-map}
use Rattle.std.specs.Option.{option_map}
use Rattle.cedar_ast.specs.InternalName.{name_of}
use Rattle.cedar_fragments.proofs.namespace.fragment.ValidatorSchemaFragment.namespaces.Goals as goal

pub returns : goal.returns
returns g c =
    ap (λ rest. map (option_map name_of) (map (λ it. it.namespace) rest)) (c.iter.ensures.rest ∙ c.deref.ensures.value) ∙ map-map (option_map name_of) (λ it. it.namespace) _
