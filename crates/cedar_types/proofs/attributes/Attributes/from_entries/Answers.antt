use Rattle.cedar_types.proofs.FieldLemmas.{HoldsLast-made, KeepsLast-made}
use Rattle.cedar_types.proofs.attributes.Attributes.from_entries.Goals as goal
use Rattle.cedar_types.specs.Words.{IsSortedByName-fields}

pub returns-clause-attributes : goal.returns-clause-attributes
returns-clause-attributes c =
    HoldsLast-made c.args.entries.items c.in_ok-new.field-0 _ c.in_ok-new.ensures.ok c.in_ok-from_entries.ensures

pub returns-clause-located : goal.returns-clause-located
returns-clause-located c =
    KeepsLast-made c.args.entries.items c.in_ok-new.field-0 _ c.in_ok-new.ensures.ok c.in_ok-from_entries.ensures

pub returns-clause-sorted_by_name : goal.returns-clause-sorted_by_name
returns-clause-sorted_by_name c = IsSortedByName-fields _
