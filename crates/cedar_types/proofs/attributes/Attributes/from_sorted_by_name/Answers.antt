use Rattle.std.proofs.Common.{ap, ◌∙◌}
use Rattle.std.specs.Option.{option_map}
use Rattle.cedar_types.proofs.FieldLemmas.{pairs_of-made}
use Rattle.cedar_types.proofs.attributes.Attributes.from_sorted_by_name.Goals as goal
use Rattle.cedar_types.specs.Words.{fields_from, fields_of-pairs, located, plain_attributes, value_at}

pub returns-clause-attributes : goal.returns-clause-attributes
returns-clause-attributes c =
    fields_of-pairs _ ∙ ap (λ pairs. fields_from (plain_attributes pairs))
    (pairs_of-made c.in_ok-new.field-0 ∙ (ap (λ all. all.entries.items) c.in_ok-new.ensures.ok ∙ c.from_sorted_by_name.ensures))

pub returns-clause-located : goal.returns-clause-located
returns-clause-located c name =
    ap (λ pairs. option_map located (value_at name pairs))
    (pairs_of-made c.in_ok-new.field-0 ∙ (ap (λ all. all.entries.items) c.in_ok-new.ensures.ok ∙ c.from_sorted_by_name.ensures))
