use Rattle.cedar_json.proofs.KeyLemmas.{Seen}
use Rattle.cedar_json.proofs.repeated_keys.repeated_key.Given as goal

abbrev pub invariant-loop-index : goal.invariant-loop-index
invariant-loop-index l = Seen l.members.items l.seen l.index
