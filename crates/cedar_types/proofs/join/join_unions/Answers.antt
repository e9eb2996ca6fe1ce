use Rattle.cedar_types.proofs.KindJoins.{unions_join}
use Rattle.cedar_types.proofs.join.join_unions.Goals as goal
use Rattle.cedar_types.specs.EntityLUB.{lub_names}

pub returns-in_ok-least_upper_bound-in-Permissive : goal.returns-in_ok-least_upper_bound-in-Permissive
returns-in_ok-least_upper_bound-in-Permissive c =
    rw (c.in-Permissive.is)
    (unions_join (lub_names c.args.lub.now) (lub_names c.args.other.now) _ c.in_ok-least_upper_bound-in-Permissive.ensures)
