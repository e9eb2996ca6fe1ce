use Rattle.cedar_ast.proofs.Basics.{OnOk-map}
use Rattle.cedar_schema_text_layout.proofs.SoFar.{goes_on_token, on_both}
use Rattle.cedar_schema_text_layout.proofs.edited.Edited.push_token.Goals as goal

pub returns : goal.returns
returns c =
    on_both c.push_last.result c.push_last.ensures.items c.push_last.ensures.end
    (λ items end. goes_on_token c.args.self.now c.push_last.new.self c.args.token c.requires.is items end)
