use Rattle.cedar_counterexample.proofs.naming.lost_of_kind.Goals as goal

-- of a union its entity types decide
pub returns-in-Entity-clause-none : goal.returns-in-Entity-clause-none
returns-in-Entity-clause-none g c = rw c.in-Entity.is c.lost_of_union.ensures.none
