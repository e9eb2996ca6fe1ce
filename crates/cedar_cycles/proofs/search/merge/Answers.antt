use Rattle.std.proofs.Common.{◌≡◌, ◌++◌, ◌+◌, ◌-◌, ◌<◌, Contains, take, drop, ap, sym, subst, ◌∙◌, arith}
use Rattle.std.proofs.lemmas.List.{take-append-drop}
use Rattle.cedar_cycles.proofs.Reading.{first_by, later_at}
use Rattle.cedar_cycles.proofs.search.merge.Goals as goal
use Rattle.cedar_cycles.proofs.search.merge.Goals.{then-loop-kept-test+else-index-place, else-loop-kept-test}
use Rattle.cedar_cycles.specs.declared.search.Group.{Group}

pub returns-clause-merged : goal.returns-clause-merged
returns-clause-merged c =
    let groups = c.args.groups.now.items in
    let kept = c.loop-kept.kept in (
      drop kept groups,
      sym (take-append-drop kept groups) ∙ ap (λ front. front ++ drop kept groups) (sym c.truncate.ensures.items),
      λ group among.
          let at = later_at groups kept group c.loop-kept.invariant.within among in
          subst (λ (each : Group). c.args.place < each.path) at.3 (c.loop-kept.invariant.later at.0 group at.1 at.2),
    )

pub returns-clause-kept : goal.returns-clause-kept
returns-clause-kept c group among =
    let groups = c.args.groups.now.items in
    let kept = c.loop-kept.kept in
    let first : Contains (take kept groups) group = subst (λ each. Contains each group) c.truncate.ensures.items among in
    elim c.loop-kept-test.branch [
      | then-loop-kept-test+else-index-place w ↦
          let one : kept - 1 + 1 ≡ kept = omega (arith, w.loop-kept-test.true) in
          first_by groups (kept - 1) c.args.place w.index.result.now c.requires (omega (arith, one, c.loop-kept.invariant.within)) w.index.ensures w.if-index-place.false group
          (subst (λ each. Contains (take each groups) group) (sym one) first)
      | else-loop-kept-test w ↦
          let none : kept ≡ 0 = omega (arith, w.loop-kept-test.false) in
          let wrong : Contains (take 0 groups) group = subst (λ each. Contains (take each groups) group) none first in
          absurd (omega (arith, wrong.1))
    ]
