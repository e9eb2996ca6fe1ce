use Rattle.std.proofs.Common.{◌≡◌, ◌∷◌, [], Contains, sym, ◌∙◌, ap, subst, inl, inr}
use Rattle.std.proofs.lemmas.Bool.{or_cases, or_left, or_right}
use Rattle.std.proofs.lemmas.List.Elements.{Contains-push, Contains-push_cases, Contains-append_left}
use Rattle.std.proofs.lemmas.Map.Iter.{rest_more}
use Rattle.std.specs.List.{list_any}
use Rattle.std.specs.Map.{keys_of}
use Rattle.std.specs.Map.Iter.{deref}
use Rattle.cedar_graph.proofs.Numbers.{number_alike}
use Rattle.cedar_graph.proofs.places.places_of.Goals as goal
use Rattle.cedar_graph.specs.Numbering.{IsNumbered}

-- one more key is passed, whose place is the last: each place is an edge's, each edge has its place
-- or waits, and what waits is an edge
pub loop-key-preserved : goal.loop-key-preserved
loop-key-preserved g c =
    let eq = g.K.PartialEq.eq in
    let old = c.loop-key.invariant in
    let key = c.in-Some.key.now in
    let place = c.in_ok-place_of.field-0 in
    let keys = keys_of c.args.nodes.now.entries in
    let places = c.loop-key.places.items in
    let numbered = c.in_ok-place_of.ensures.place in
    let pushed = c.in_ok-push.ensures.items in
    let turn : c.loop-key.key-iterator ≡ key ∷ c.next.new.self =
    rest_more deref c.loop-key.key-iterator c.next.new.self c.next.result c.in-Some.key c.in-Some.is c.next.ensures.steps in
    let here = old.rest key (ap (list_any (eq key)) turn ∙ or_left _ _ (g.met.K.Eq.laws.refl key)) in
    record {
      sound = λ n inside. elim (Contains-push_cases places place n (subst (λ xs. Contains xs n) pushed inside)) [
        | inl before ↦ old.sound n before
        | inr last ↦ (key, subst (IsNumbered eq keys key) last numbered, here)
      ];
      complete = λ other edge. elim (old.complete other edge) [
        | inl it ↦ inl (
          it.0,
          it.1,
          subst (λ xs. Contains xs it.0) (sym pushed) (Contains-append_left places (place ∷ []) it.0 it.2),
        )
        | inr waits ↦ elim (or_cases _ _ (sym (ap (list_any (eq other)) turn) ∙ waits)) [
          | inl same ↦ inl (
            place,
            number_alike g.met.K.Eq.laws keys other key place same numbered,
            subst (λ xs. Contains xs place) (sym pushed) (Contains-push places place),
          )
          | inr later ↦ inr later
        ]
      ];
      rest = λ other later. old.rest other (ap (list_any (eq other)) turn ∙ or_right _ _ later);
    }
