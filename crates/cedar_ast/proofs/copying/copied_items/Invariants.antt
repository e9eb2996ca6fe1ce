use Rattle.std.proofs.Common.{Ok, take}
use Rattle.std.specs.Fn.{FnReturnsAt}
use Rattle.cedar_ast.proofs.copying.copied_items.Given as goal
use Rattle.cedar_ast.specs.Lists.{HoldsPairwise}

abbrev pub invariant-loop-item : goal.invariant-loop-item
invariant-loop-item g l =
    HoldsPairwise (λ item other. FnReturnsAt g.F.Fn l.fn.copy item (Ok other)) (take l.item-index l.item-items) l.copies.items
