use Rattle.std.proofs.Common.{refl}
use Rattle.cedar_schema_text_layout.proofs.SoFar.{goes_on_comment}
use Rattle.cedar_schema_text_layout.proofs.edited.Edited.push_comment.Goals as goal

pub returns : goal.returns
returns c = goes_on_comment c.args.self.now _ c.args.comment c.requires.is c.in_ok-push.ensures.items refl
