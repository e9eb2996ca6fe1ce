use Rattle.std.proofs.Common.{map, sym, subst}
use Rattle.cedar_schema_grammar.specs.Exact.{Refuses}
use Rattle.cedar_schema_text.proofs.TextLemmas.{schema_exact}
use Rattle.cedar_schema_text.specs.TextFormat.{StandsForNone, highest_level}
use Rattle.cedar_schema_tokens.specs.Token.{token_of}
use Rattle.cedar_schema_text.proofs.text_reading.members_of.Goals as goal

-- a text whose tokens are refused stands for no fragment
pub returns-in-Err-clause-exact : goal.returns-in-Err-clause-exact
returns-in-Err-clause-exact c =
    let ts = map token_of c.args.tokens.now in
    subst (StandsForNone c.args.source c.args.text.now) (sym c.no_schema.ensures)
    (schema_exact c.args.source c.args.text.now ts c.in-Err.fault c.requires.tokens
    (subst (λ end. Refuses highest_level end ts c.in-Err.fault) c.end_of.ensures c.in-Err.ensures.refused))
