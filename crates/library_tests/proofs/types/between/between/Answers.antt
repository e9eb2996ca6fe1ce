use Rattle.cedar_counterexample.specs.Words.{IsWellFormed-type, ty_of}
use Rattle.library_tests.proofs.UidLemmas.{uids_exist}
use Rattle.library_tests.proofs.types.between.between.Goals as goal

pub outside_between-requires-clause-uids : goal.outside_between-requires-clause-uids
outside_between-requires-clause-uids c = uids_exist (ty_of c.args.a.now) (IsWellFormed-type c.args.a.now)
