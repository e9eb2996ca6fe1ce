use Rattle.std.proofs.Common.{◌≡◌, ◌∷◌, [], Contains, sym, ◌∙◌, ap, subst, inl, inr}
use Rattle.std.proofs.lemmas.Bool.{or_cases, or_left, or_right}
use Rattle.std.proofs.lemmas.List.Elements.{Contains-push, Contains-push_cases, Contains-append_left}
use Rattle.std.proofs.lemmas.Map.Iter.{rest_more}
use Rattle.std.specs.List.{list_any}
use Rattle.std.specs.Map.Iter.{deref}
use Rattle.cedar_graph.proofs.Numbers.{number_alike}
use Rattle.cedar_graph.proofs.targets.targets_of.Goals as goal
use Rattle.cedar_graph.specs.Numbering.{IsNumbered}

-- one more target is numbered, whose number is the last: names keep their numbers, each number is
-- an edge's, each edge has its number or waits, and what waits is an edge
pub loop-target-preserved : goal.loop-target-preserved
loop-target-preserved g c =
    let eq = g.K.PartialEq.eq in
    let old = c.loop-target.invariant in
    let target = c.in-Some.target.now in
    let number = c.in_ok-number_of.field-0 in
    let names = c.number_of.new.numbering.names.items in
    let targets = c.loop-target.targets.items in
    let kept = c.in_ok-number_of.ensures.kept in
    let numbered = c.in_ok-number_of.ensures.numbered in
    let pushed = c.in_ok-push.ensures.items in
    let turn : c.loop-target.target-iterator ≡ target ∷ c.next.new.self =
    rest_more deref c.loop-target.target-iterator c.next.new.self c.next.result c.in-Some.target c.in-Some.is
    c.next.ensures.steps in
    let here = old.rest target (ap (list_any (eq target)) turn ∙ or_left _ _ (g.met.K.Eq.laws.refl target)) in
    record {
      numbers = c.in_ok-number_of.ensures.numbers;
      kept = λ key n stands. kept key n (old.kept key n stands);
      sound = λ n inside. elim (Contains-push_cases targets number n (subst (λ xs. Contains xs n) pushed inside)) [ inl before ↦ let it = old.sound n before in (it.0, kept it.0 n it.1, it.2) | inr last ↦ (target, subst (IsNumbered eq names target) last numbered, here) ];
      complete = λ key edge. elim (old.complete key edge) [
        | inl it ↦ inl (
          it.0,
          kept key it.0 it.1,
          subst (λ xs. Contains xs it.0) (sym pushed)
              (Contains-append_left targets (number ∷ []) it.0 it.2),
        )
        | inr waits ↦ elim (or_cases _ _ (sym (ap (list_any (eq key)) turn) ∙ waits)) [
          | inl same ↦ inl (
            number,
            number_alike g.met.K.Eq.laws names key target number same numbered,
            subst
                (λ xs. Contains xs number) (sym pushed) (Contains-push targets number),
          )
          | inr later ↦ inr later
        ]
      ];
      rest = λ key later. old.rest key (ap (list_any (eq key)) turn ∙ or_right _ _ later);
    }
