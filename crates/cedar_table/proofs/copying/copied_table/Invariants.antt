use Rattle.std.proofs.Common.{◌≡◌, length}
use Rattle.std.specs.Fn.{FnReturnsAt}
use Rattle.std.specs.List.{zip}
use Rattle.cedar_table.proofs.CopiedLemmas.{CopiedSoFar}
use Rattle.cedar_table.proofs.copying.copied_table.Given as goal

abbrev pub invariant-loop-key : goal.invariant-loop-key
invariant-loop-key g l =
    (length l.values.items ≡ length l.keys.items)
    × CopiedSoFar g.K.Ord.cmp (FnReturnsAt g.F.Fn l.fn.copy_key) (FnReturnsAt g.G.Fn l.fn.copy_value) l.fn.table.entries
    (zip l.keys.items l.values.items) l.key-iterator
