use Rattle.cedar_schema_elements.proofs.SetLemmas.{uids_collected}
use Rattle.cedar_schema_elements.proofs.sets.uid_set.Goals as goal

pub returns-clause-uids : goal.returns-clause-uids
returns-clause-uids g c =
    let ran = c.in_ok-from_iter.ensures.ran in
    let ends = ran.3.2 tt in
    (ran.0, ran.1, ran.2, (ends.0, (ran.3.0, ran.3.1, ends.1)), uids_collected c.in_ok-from_iter.field-0 ran.1 ran.4)
