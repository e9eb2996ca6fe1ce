use Rattle.cedar_types.proofs.KindJoins.{unions_join}
use Rattle.cedar_types.proofs.join.permissive_kind.Goals as goal
use Rattle.cedar_types.specs.EntityLUB.{lub_names}

pub returns-in_ok-least_upper_bound-in-Entity-Entity :
    goal.returns-in_ok-least_upper_bound-in-Entity-Entity
returns-in_ok-least_upper_bound-in-Entity-Entity c =
    rw (c.in-Entity-Entity.is-0, c.in-Entity-Entity.is-1)
    (unions_join (lub_names c.in-Entity-Entity.lub) (lub_names c.in-Entity-Entity.other_lub) _
    c.in_ok-least_upper_bound-in-Entity-Entity.ensures)
