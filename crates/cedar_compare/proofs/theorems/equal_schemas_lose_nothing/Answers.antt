use Rattle.cedar_compare.proofs.CompareLemmas.{no_losses}
use Rattle.cedar_compare.proofs.SameLemmas.{same_keep}
use Rattle.cedar_compare.proofs.theorems.equal_schemas_lose_nothing.Goals as goal

pub returns-clause-kept : goal.returns-clause-kept
returns-clause-kept c extensions old new same = (same_keep extensions old new same).0

pub returns-clause-lost : goal.returns-clause-lost
returns-clause-lost c extensions old new same reported =
    no_losses extensions old new (same_keep extensions old new same).0 reported

pub returns-clause-gained : goal.returns-clause-gained
returns-clause-gained c extensions old new same reported =
    no_losses extensions new old (same_keep extensions old new same).1 reported
