use Rattle.cedar_types.proofs.UnionsAtOnce.{some_unions, unions_joined}
use Rattle.cedar_types.proofs.join.join_of_unions.Goals as goal

pub returns-in_ok-of_all-in-Some : goal.returns-in_ok-of_all-in-Some
returns-in_ok-of_all-in-Some c =
    let are = rw c.in-Some.is at c.in_ok-unions.ensures in
    unions_joined c.args.types.now c.in-Some.unions.items c.in_ok-of_all-in-Some.field-0
    (some_unions c.args.types.now c.in-Some.unions.items c.requires are) are c.in_ok-of_all-in-Some.ensures
