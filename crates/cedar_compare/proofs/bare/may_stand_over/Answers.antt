use Rattle.std.proofs.Common.{subst, sym, ◌∙◌}
use Rattle.std.proofs.lemmas.Bool.{false≢true}
use Rattle.cedar_ast.proofs.Uids.{entity_uid_eq-same}
use Rattle.cedar_compare.proofs.bare.may_stand_over.Goals as goal
use Rattle.cedar_compare.specs.Words.{MayStandAbove, schema_of, uid_of}

-- a uid doesn't stand above itself
pub returns-then-eq : goal.returns-then-eq
returns-then-eq c = (
  λ wrong. absurd (false≢true wrong),
  λ over. absurd (over.0 ((entity_uid_eq-same c.args.upper.now c.args.lower.now).0 (sym c.eq.ensures ∙ c.if-eq.true))),
)

-- another one does where it may stand above entities of the type
pub returns : goal.returns
returns c =
    let schema = schema_of c.args.schema.now in
    let upper = uid_of c.args.upper.now in (
      λ yes. (
        λ same. false≢true (sym c.if-eq.false ∙ (c.eq.ensures ∙ (entity_uid_eq-same c.args.upper.now c.args.lower.now).1 same)),
        subst (λ n. MayStandAbove schema n upper) c.entity_type.ensures.name (c.may_stand_above.ensures.0 yes),
      ),
      λ over. c.may_stand_above.ensures.1 (subst (λ n. MayStandAbove schema n upper) (sym c.entity_type.ensures.name) over.1),
    )
