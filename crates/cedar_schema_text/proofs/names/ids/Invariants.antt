use Rattle.cedar_schema_text.proofs.NameLemmas.{IdsSoFar}
use Rattle.cedar_schema_text.proofs.names.ids.Given as goal

abbrev pub invariant-loop-part : goal.invariant-loop-part
invariant-loop-part l =
    IdsSoFar l.written l.part-index l.found.items
