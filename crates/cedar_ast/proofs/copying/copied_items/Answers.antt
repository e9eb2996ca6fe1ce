use Rattle.std.proofs.Common.{◌++◌, ◌∷◌, [], Ok, ap, refl, sym, take, ◌∙◌}
use Rattle.std.proofs.lemmas.Fn.{says_at}
use Rattle.std.proofs.lemmas.List.{take_more}
use Rattle.std.specs.Fn.{FnReturnsAt}
use Rattle.cedar_ast.proofs.TurnLemmas.{turn_more}
use Rattle.cedar_ast.proofs.copying.copied_items.Goals as goal

pub loop-item-preserved : goal.loop-item-preserved
loop-item-preserved g c =
    let items = c.deref-item-items.result.now in
    let i = c.loop-item.item-index in
    let item = c.item-item.result in
    let IsCopy : g.row.V.Denot → g.row.V.Denot → Type 0 = λ one other. FnReturnsAt g.F.Fn c.args.copy one (Ok other) in
    let copied : IsCopy item c.in_ok-copy.field-0 = rw c.in_ok-copy.was at (says_at g.F.Fn c.copy.ensures refl) in
    rw (← c.in_ok-push.ensures.items, ap (λ one. take i items ++ one ∷ []) c.item-item.is ∙ sym (take_more items i item c.loop-item-test.true)) at (turn_more IsCopy (take i items) c.loop-item.copies.items item c.in_ok-copy.field-0 c.loop-item.invariant copied)
