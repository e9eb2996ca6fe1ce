use Rattle.std.proofs.Common.{sym, arith}
use Rattle.std.proofs.lemmas.Bool.{false≢true}
use Rattle.cedar_queries.proofs.LookupLemmas.{descendants_found, descendants_none}
use Rattle.cedar_queries.proofs.descent.is_descendant.Goals as goal

pub returns-in-Some : goal.returns-in-Some
returns-in-Some c =
    let found = descendants_found c.args.types.now c.args.upper.now c.in-Some.ty.now (sym c.in-Some.ensures.value) in
    rw found c.has_descendant_entity_type.ensures

pub returns-in-None : goal.returns-in-None
returns-in-None c =
    let none = descendants_none c.args.types.now c.args.upper.now (sym c.in-None.ensures.value) in (
      λ wrong. absurd (false≢true wrong),
      λ among. absurd (omega (arith, (rw none at among).1)),
    )
