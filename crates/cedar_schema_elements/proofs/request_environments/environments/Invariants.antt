use Rattle.std.proofs.Common.{[], map}
use Rattle.cedar_schema_elements.proofs.EnvironmentLemmas.{environments_under}
use Rattle.cedar_schema_elements.proofs.GivenLemmas.{GivenSoFar}
use Rattle.cedar_schema_elements.proofs.KeyLemmas.{under}
use Rattle.cedar_schema_elements.proofs.request_environments.environments.Given as goal
use Rattle.cedar_schema_elements.specs.Words.{owned_environment, plain_action_entry}

abbrev pub invariant-loop-uid : goal.invariant-loop-uid
invariant-loop-uid l =
    GivenSoFar environments_under under [] (map plain_action_entry l.actions.entries)
    (map owned_environment l.environments.items) (map plain_action_entry l.uid-iterator)
