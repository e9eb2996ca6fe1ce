use Rattle.std.proofs.Common.{◌≡◌, map, take}
use Rattle.cedar_queries.proofs.BorrowedLemmas.{borrowed}
use Rattle.cedar_queries.proofs.completeness.names_in_order.Given as goal

abbrev pub invariant-loop-name : goal.invariant-loop-name
invariant-loop-name g l =
    map g.V.SchemaNode.key_name l.names.items ≡ map (borrowed g.V.SchemaNode.key_name) (take l.name-index l.name-items)
