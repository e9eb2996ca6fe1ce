use Rattle.cedar_type_rules.proofs.JoinAnswers.{strict_is_permissive}
use Rattle.cedar_type_rules.proofs.JoinLemmas.{join_unique, join_least_clean, join_commutes}
use Rattle.cedar_types.proofs.theorems.joins_of_types_are_least_bounds.Goals as goal
use Rattle.cedar_types.specs.Words.{IsWellFormed-type, ty_of}

pub returns-clause-of_clean : goal.returns-clause-of_clean
returns-clause-of_clean c mode answer first second right =
    join_least_clean mode (ty_of c.args.a.now) (ty_of c.args.b.now) answer first second right

pub returns-clause-unique : goal.returns-clause-unique
returns-clause-unique c mode join other first second =
    join_unique mode (ty_of c.args.a.now) (ty_of c.args.b.now) (ty_of join) (ty_of other) (IsWellFormed-type join)
    (IsWellFormed-type other) first second

pub returns-clause-swapped : goal.returns-clause-swapped
returns-clause-swapped c mode join = (join_commutes mode (ty_of c.args.a.now) (ty_of c.args.b.now)).1 (ty_of join)

pub returns-clause-strict : goal.returns-clause-strict
returns-clause-strict c join =
    strict_is_permissive (ty_of c.args.a.now) (ty_of c.args.b.now) (ty_of join) (IsWellFormed-type c.args.a.now)
    (IsWellFormed-type c.args.b.now)
