use Rattle.std.proofs.Common.{sym, subst}
use Rattle.cedar_schema_text.proofs.TextLemmas.{tokens_exact}
use Rattle.cedar_schema_text.specs.TextFormat.{StandsForNone}
use Rattle.cedar_schema_text.proofs.text_reading.members_in.Goals as goal

-- a text without tokens stands for no fragment
pub returns-in-Err-clause-exact : goal.returns-in-Err-clause-exact
returns-in-Err-clause-exact c =
    subst (StandsForNone c.args.source c.args.text.now) (sym c.no_tokens.ensures)
    (tokens_exact c.args.source c.args.text.now c.in-Err.fault c.in-Err.ensures.fault c.in-Err.ensures.refused)
