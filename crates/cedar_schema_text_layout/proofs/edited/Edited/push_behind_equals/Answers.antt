use Rattle.std.proofs.Common.{ap, ◌∙◌, ◌++◌, ◌∷◌, []}
use Rattle.cedar_schema_text_layout.proofs.SoFar.{goes_on_equals, on_both}
use Rattle.cedar_schema_text_layout.proofs.edited.Edited.push_behind_equals.Goals as goal

pub returns : goal.returns
returns c =
    on_both c.push_last.result c.push_last.ensures.items c.push_last.ensures.end
    (λ items end. goes_on_equals c.args.self.now c.push_last.new.self c.added.result c.args.brace c.added.ensures c.requires.is
    (items ∙ ap (λ xs. xs ++ c.args.brace ∷ []) c.in_ok-push.ensures.items) end)
