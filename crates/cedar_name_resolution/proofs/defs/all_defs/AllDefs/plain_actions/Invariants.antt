use Rattle.cedar_name_resolution.proofs.ShadowLemmas.{PlainSoFar}
use Rattle.cedar_name_resolution.proofs.defs.all_defs.AllDefs.plain_actions.Given as goal

abbrev pub invariant-loop-uid : goal.invariant-loop-uid
invariant-loop-uid l = PlainSoFar l.self.action_defs.keys l.plain.entries l.uid-iterator
