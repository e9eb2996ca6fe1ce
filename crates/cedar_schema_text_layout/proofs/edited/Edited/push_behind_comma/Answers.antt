use Rattle.std.proofs.Common.{ap, ◌∙◌, ◌++◌, ◌∷◌, []}
use Rattle.cedar_schema_text_layout.proofs.SoFar.{goes_on_comma, on_both}
use Rattle.cedar_schema_text_layout.proofs.edited.Edited.push_behind_comma.Goals as goal

pub returns : goal.returns
returns c =
    on_both c.push_last.result c.push_last.ensures.items c.push_last.ensures.end
    (λ items end. goes_on_comma c.args.self.now c.push_last.new.self c.added.result c.args.brace c.added.ensures c.requires.is
    (items ∙ ap (λ xs. xs ++ c.args.brace ∷ []) c.in_ok-insert.ensures.items) end)
