use Rattle.std.proofs.Common.{◌≡◌, ◌++◌, length}
use Rattle.std.specs.List.{zip}
use Rattle.cedar_table.proofs.table.Table.from_map.Given as goal

abbrev pub invariant-loop-key : goal.invariant-loop-key
invariant-loop-key g l =
    (length l.values.items ≡ length l.keys.items) × (zip l.keys.items l.values.items ++ l.key-iterator ≡ l.fn.map.entries)
