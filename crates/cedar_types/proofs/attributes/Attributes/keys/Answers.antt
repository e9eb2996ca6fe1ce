use Rattle.std.proofs.Common.{ap, sym, ◌∙◌, map, string_bytes}
use Rattle.std.proofs.lemmas.Simd.{map-map}
use Rattle.std.specs.Map.{keys_of}
use Rattle.cedar_types.proofs.attributes.Attributes.keys.Goals as goal
use Rattle.cedar_types.specs.Layers.{IsSortedByName-fields, field_names-pairs}

pub returns-clause-names : goal.returns-clause-names
returns-clause-names c =
    ap (map string_bytes) (c.new.ensures ∙ ap keys_of (c.as_slice.ensures ∙ ap (λ all. all.entries.items) c.deref.ensures))
    ∙ (map-map string_bytes (λ entry. entry.0) _ ∙ sym (field_names-pairs c.args.self.now))

pub returns-clause-sorted_by_name : goal.returns-clause-sorted_by_name
returns-clause-sorted_by_name c = IsSortedByName-fields c.args.self.now
