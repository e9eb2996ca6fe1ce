use Rattle.std.proofs.Common.{ap, ◌∙◌, ◌++◌, ◌∷◌, []}
use Rattle.cedar_schema_text_layout.proofs.SoFar.{goes_on_brackets, on_both}
use Rattle.cedar_schema_text_layout.proofs.edited.Edited.push_in_brackets.Goals as goal

pub returns : goal.returns
returns c =
    on_both c.push_last.result c.push_last.ensures.items c.push_last.ensures.end
    (λ items end. goes_on_brackets c.args.self.now c.push_last.new.self c.added.result c.added-2.result c.args.item.now c.added.ensures c.added-2.ensures
    c.requires.some c.requires.is
    (items ∙ ap (λ xs. xs ++ c.added-2.result ∷ []) (c.in_ok-extend_from_slice.ensures.items ∙ ap (λ xs. xs ++ c.args.item.now) c.in_ok-push.ensures.items)) end)
