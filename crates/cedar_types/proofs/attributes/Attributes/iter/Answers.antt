use Rattle.std.proofs.Common.{ap, sym, ◌∙◌}
use Rattle.cedar_types.proofs.attributes.Attributes.iter.Goals as goal
use Rattle.cedar_types.specs.Words.{IsSortedByName-fields, fields_from, fields_of-pairs, plain_attributes}

pub returns-clause-attributes : goal.returns-clause-attributes
returns-clause-attributes c =
    ap (λ entries. fields_from (plain_attributes entries)) (c.new.ensures ∙ (c.as_slice.ensures ∙ ap (λ all. all.entries.items) c.deref.ensures))
    ∙ sym (fields_of-pairs c.args.self.now)

pub returns-clause-sorted_by_name : goal.returns-clause-sorted_by_name
returns-clause-sorted_by_name c = IsSortedByName-fields c.args.self.now
