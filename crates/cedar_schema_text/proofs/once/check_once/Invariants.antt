use Rattle.cedar_schema_text.proofs.RepeatLemmas.{OnceSoFar}
use Rattle.cedar_schema_text.proofs.once.check_once.Given as goal

abbrev pub invariant-loop-name : goal.invariant-loop-name
invariant-loop-name l =
    OnceSoFar l.what l.names l.name-index l.places
