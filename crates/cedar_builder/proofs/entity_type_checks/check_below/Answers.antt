use Rattle.std.proofs.Common.{◌≡◌, map, sym, inr, ◌∙◌, rules, Contains}
use Rattle.std.proofs.lemmas.Bool.{false≢true}
use Rattle.std.proofs.lemmas.List.Elements.{All-contains_itself}
use Rattle.std.proofs.lemmas.Map.Iter.{iter_end}
use Rattle.std.proofs.lemmas.Map.Views.{All-turn}
use Rattle.std.specs.Map.Iter.{deref}
use Rattle.cedar_builder.proofs.EntityTypeChecks.{shown_more}
use Rattle.cedar_builder.proofs.entity_type_checks.check_below.Goals as goal
use Rattle.cedar_builder.specs.Words.{IsExternalAt, external_below_enumerated, node_at}

pub returns-then-is_external_at-clause-fault : goal.returns-then-is_external_at-clause-fault
returns-then-is_external_at-clause-fault c =
    let keys = c.args.descendants.now.keys in
    let among : Contains keys c.in-Some.lower.now =
    All-turn deref (Contains keys) keys c.loop-lower.yielded _ _ _ _ c.in-Some.lower (All-contains_itself keys)
    c.into_iter-lower-iterator.ensures.into_iter_gives.0 c.loop-lower.yielded_by c.in-Some.is c.next.ensures.steps in
    inr (
      c.in-Some.lower.now,
      among,
      c.is_external_at.ensures.0 c.if-is_external_at.true,
      λ i. external_below_enumerated (c.in_ok-clone.ensures.name i) (c.in_ok-clone-2.ensures.name i),
    )

pub loop-lower-preserved : goal.loop-lower-preserved
loop-lower-preserved c =
    shown_more deref (λ lower. ¬ IsExternalAt (node_at c.args.nodes.now.entries lower)) c.loop-lower.yielded c.in-Some.lower
    c.loop-lower.invariant (λ is. false≢true (sym c.if-is_external_at.false ∙ c.is_external_at.ensures.1 is))

pub returns-clause-sound : goal.returns-clause-sound
returns-clause-sound c =
    let all : map deref c.loop-lower.yielded ≡ c.args.descendants.now.keys = search (rules, iter_end) in
    rw all at c.loop-lower.invariant
