use Rattle.std.proofs.Common.{drop}
use Rattle.cedar_ast.proofs.ValueCopies.{CopiedSoFar, EntriesSoFar}
use Rattle.cedar_ast.proofs.value_copies.+copying.Given as goal

abbrev pub invariant-copy_each-loop-value : goal.invariant-copy_each-loop-value
invariant-copy_each-loop-value l = CopiedSoFar l.values l.copies.items (drop l.value-index l.values)

abbrev pub invariant-copy_entries-loop-name : goal.invariant-copy_entries-loop-name
invariant-copy_entries-loop-name l = EntriesSoFar l.values.entries l.copies.entries l.name-iterator
