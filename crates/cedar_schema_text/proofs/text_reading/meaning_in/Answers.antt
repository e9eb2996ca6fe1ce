use Rattle.std.proofs.Common.{map, sym, subst}
use Rattle.cedar_schema_grammar.specs.Plain.{member_of}
use Rattle.cedar_schema_text.proofs.TextLemmas.{meaning_exact}
use Rattle.cedar_schema_text.specs.TextFormat.{StandsForNone}
use Rattle.cedar_schema_text.proofs.text_reading.meaning_in.Goals as goal

-- a text in whose members something is at fault stands for no fragment
pub returns-in-Err-clause-exact : goal.returns-in-Err-clause-exact
returns-in-Err-clause-exact c =
    subst (StandsForNone c.args.source c.args.text.now) (sym c.no_meaning.ensures)
    (meaning_exact c.args.source c.args.text.now (map member_of c.args.members.now) c.in-Err.fault c.requires.found c.in-Err.ensures.fault)
