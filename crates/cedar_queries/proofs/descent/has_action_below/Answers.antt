use Rattle.std.proofs.Common.{ap, map, sym, refl, ◌∙◌}
use Rattle.std.proofs.lemmas.Bool.{false≢true}
use Rattle.cedar_ast.proofs.Names.{entity_type_eq-same}
use Rattle.cedar_queries.proofs.AnyLemmas.{any_finds, any_skips}
use Rattle.cedar_queries.proofs.descent.has_action_below.Goals as goal
use Rattle.cedar_queries.proofs.descent.has_action_below.Goals.{else-eq-via-then-eq+else-has_descendant_of, else-eq-via-else-eq}
use Rattle.cedar_queries.specs.Words.{HasBelow, plain_action_entry, type_name}

pub returns-then-has_descendant_of : goal.returns-then-has_descendant_of
returns-then-has_descendant_of c =
    let upper = type_name c.args.upper.now in
    let lower = type_name c.args.lower.now in
    let so_far = rw (ap (map plain_action_entry) c.in-Some.ensures.steps) at c.loop-uid.invariant in
    let same = sym c.entity_type.ensures.name
    ∙ (entity_type_eq-same c.entity_type.result.now c.args.upper.now).0 (sym c.eq.ensures ∙ c.if-eq.true) in
    let below = c.has_descendant_of.ensures.0 c.if-has_descendant_of.true in (
      λ _. any_finds (HasBelow upper lower) (plain_action_entry (c.in-Some.uid.now, c.in-Some.action.now))
          (map plain_action_entry c.next.new.self) so_far (same, below),
      λ _. refl,
    )

pub loop-uid-preserved : goal.loop-uid-preserved
loop-uid-preserved c =
    let upper = type_name c.args.upper.now in
    let lower = type_name c.args.lower.now in
    let so_far = rw (ap (map plain_action_entry) c.in-Some.ensures.steps) at c.loop-uid.invariant in
    any_skips (HasBelow upper lower) (plain_action_entry (c.in-Some.uid.now, c.in-Some.action.now))
    (map plain_action_entry c.next.new.self) so_far
    (λ both. elim c.else-eq.branch [
      | else-eq-via-then-eq+else-has_descendant_of w ↦
          false≢true (sym w.if-has_descendant_of.false ∙ w.has_descendant_of.ensures.1 both.1)
      | else-eq-via-else-eq w ↦ false≢true (sym w.if-eq.false ∙ (c.eq.ensures
          ∙ (entity_type_eq-same c.entity_type.result.now c.args.upper.now).1 (c.entity_type.ensures.name ∙ both.0)))
    ])
