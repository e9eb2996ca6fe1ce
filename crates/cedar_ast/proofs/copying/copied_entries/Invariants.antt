use Rattle.std.specs.Fn.{FnReturnsAt}
use Rattle.cedar_ast.proofs.EntryLemmas.{CopiedSoFar}
use Rattle.cedar_ast.proofs.copying.copied_entries.Given as goal

abbrev pub invariant-loop-key : goal.invariant-loop-key
invariant-loop-key g l =
    CopiedSoFar g.K.Ord.cmp (FnReturnsAt g.F.Fn l.fn.copy_key) (FnReturnsAt g.G.Fn l.fn.copy_value) l.fn.entries.entries
    l.copies.entries l.key-iterator
