use Rattle.std.proofs.Common.{ap, subst, sym}
use Rattle.std.proofs.lemmas.Option.{slice_get_within}
use Rattle.cedar_schema_text_layout.specs.Relaid.{Takes}
use Rattle.cedar_schema_text_layout.proofs.Before.{takes_one}
use Rattle.cedar_schema_text_layout.proofs.relaying.Relaying.take_token.Goals as goal

pub returns : goal.returns
returns c =
    let within = slice_get_within c.args.pieces.now c.args.at c.requires.is.0 c.requires.is.1 in
    subst (Takes c.args.pieces.now c.args.at _) (sym c.pass.ensures)
    (takes_one c.args.pieces.now c.args.at _ c.args.self.now.edited c.push_token.new.self within c.requires.so_far c.in_ok-push_token.ensures)
