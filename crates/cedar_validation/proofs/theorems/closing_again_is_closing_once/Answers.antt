use Rattle.cedar_validation.proofs.ClosedAgain.{closes_again, fault_back}
use Rattle.cedar_validation.proofs.theorems.closing_again_is_closing_once.Goals as goal

pub returns-clause-valid : goal.returns-clause-valid
returns-clause-valid c extensions schema closed closes valid fault at = valid fault (fault_back schema closed closes extensions fault at)

pub returns-clause-closed : goal.returns-clause-closed
returns-clause-closed c schema closed again closes onwards = closes_again schema closed closes again onwards
