use Rattle.std.proofs.Common.{refl}
use Rattle.cedar_diagnosis.proofs.MentionLemmas.{adds_extension}
use Rattle.cedar_diagnosis.proofs.mentions.add_extension.Goals as goal

pub returns : goal.returns
returns c = adds_extension c.args.mentions.now _ _ c.in_ok-push.ensures.items refl refl
