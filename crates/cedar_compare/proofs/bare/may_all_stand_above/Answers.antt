use Rattle.std.proofs.Common.{ap, map, refl, subst, sym, ◌∙◌}
use Rattle.std.proofs.lemmas.Bool.{false≢true}
use Rattle.cedar_compare.proofs.BareLemmas.{ancestors_of_each, each_of_ancestors}
use Rattle.cedar_compare.proofs.LeftLemmas.{sure_all, sure_here, sure_more, sure_none}
use Rattle.cedar_compare.proofs.bare.may_all_stand_above.Goals as goal
use Rattle.cedar_compare.specs.Words.{MayStandOver, PlainUid, entity_ancestors, entity_uid, plain_action_entity, schema_of, uid_of}

pub loop-upper-init : goal.loop-upper-init
loop-upper-init c =
    sure_none (MayStandOver (schema_of c.args.schema.now) (entity_uid c.args.entity.now)) (entity_ancestors c.args.entity.now) _
    (ap (map uid_of) c.into_iter-upper-iterator.ensures.into_iter_gives ∙ c.ancestors-upper-items.ensures.ancestors)

pub returns-then-not-may_stand_over : goal.returns-then-not-may_stand_over
returns-then-not-may_stand_over c =
    let schema = schema_of c.args.schema.now in
    let upper = uid_of c.in-Some.upper.now in
    let P = MayStandOver schema (entity_uid c.args.entity.now) in
    let here = sure_here P (entity_ancestors c.args.entity.now) _ _ upper (ap (map uid_of) c.in-Some.ensures.steps) c.loop-upper.invariant in (
      λ wrong. absurd (false≢true wrong),
      λ all. absurd (false≢true (sym c.if-not-may_stand_over.true
          ∙ c.may_stand_over.ensures.1 (subst (λ (u : PlainUid). MayStandOver schema u upper) (sym c.uid.ensures.uid)
          (each_of_ancestors schema (plain_action_entity c.args.entity.now) all upper here)))),
    )

pub loop-upper-preserved : goal.loop-upper-preserved
loop-upper-preserved c =
    let schema = schema_of c.args.schema.now in
    let upper = uid_of c.in-Some.upper.now in
    let P = MayStandOver schema (entity_uid c.args.entity.now) in
    sure_more P P (entity_ancestors c.args.entity.now) _ _ upper (ap (map uid_of) c.in-Some.ensures.steps) (λ other may. may)
    (subst (λ (u : PlainUid). MayStandOver schema u upper) c.uid.ensures.uid (c.may_stand_over.ensures.0 c.if-not-may_stand_over.false))
    c.loop-upper.invariant

pub returns : goal.returns
returns c =
    let schema = schema_of c.args.schema.now in
    let P = MayStandOver schema (entity_uid c.args.entity.now) in (
      λ _. ancestors_of_each schema (plain_action_entity c.args.entity.now)
          (sure_all P (entity_ancestors c.args.entity.now) _ (ap (map uid_of) c.in-None.ensures.steps.0) c.loop-upper.invariant),
      λ _. refl,
    )
