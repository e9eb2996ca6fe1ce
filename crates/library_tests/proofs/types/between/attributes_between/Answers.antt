use Rattle.cedar_counterexample.specs.Words.{AreWellFormed-fields, fields_of}
use Rattle.library_tests.proofs.UidLemmas.{uids_exist_of}
use Rattle.library_tests.proofs.types.between.attributes_between.Goals as goal

pub attributes_outside_between-requires-clause-uids : goal.attributes_outside_between-requires-clause-uids
attributes_outside_between-requires-clause-uids c = uids_exist_of (fields_of c.in-Record.attrs) (AreWellFormed-fields c.in-Record.attrs)
