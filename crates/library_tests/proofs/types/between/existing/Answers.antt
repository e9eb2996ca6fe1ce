use Rattle.cedar_counterexample.specs.Words.{AreWellFormed-fields, IsWellFormed-type, fields_of, ty_of}
use Rattle.library_tests.proofs.UidLemmas.{uids_exist, uids_exist_of}
use Rattle.library_tests.proofs.types.between.existing.Goals as goal

pub existing_value-requires-clause-uids : goal.existing_value-requires-clause-uids
existing_value-requires-clause-uids c = uids_exist (ty_of c.args.ty.now) (IsWellFormed-type c.args.ty.now)

pub existing_attributes-requires-clause-uids : goal.existing_attributes-requires-clause-uids
existing_attributes-requires-clause-uids c = uids_exist_of (fields_of c.in-Record.attrs) (AreWellFormed-fields c.in-Record.attrs)
