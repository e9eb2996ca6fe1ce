use Rattle.std.proofs.Common.{◌≡◌, Some, true, [], ◌∷◌, ◌++◌, ◌||◌, false, IsTrue, get_or, length, slice_get, subst, sym, ◌∙◌, ap, refl, inl, inr, arith}
use Rattle.std.proofs.lemmas.Bool.{cases_eq, false≢true, or_cases, or_left, or_right}
use Rattle.std.proofs.lemmas.List.Elements.{Contains-get_or}
use Rattle.std.proofs.lemmas.List.Folds.{list_any-append}
use Rattle.std.proofs.lemmas.Option.{slice_get_read}
use Rattle.std.specs.List.{list_any}
use Rattle.cedar_graph.proofs.Gathering.{read_at}
use Rattle.cedar_graph.proofs.Numbers.{eq_back, eq_trans, name_from_numbered, numbered_from_name}
use Rattle.cedar_graph.proofs.list_edges.named.Goals as goal
use Rattle.cedar_graph.proofs.list_edges.named.Goals.{After-index}
use Rattle.cedar_graph.specs.Words.{IsNumbered}

pub index-requires : goal.index-requires
index-requires g c = c.requires (get_or c.args.numbers.now c.loop-number.number-index 0)
    (Contains-get_or c.args.numbers.now c.loop-number.number-index 0 c.loop-number-test.true)

-- the name of this turn stands at its number
found : (g : _) (c : After-index g) → slice_get c.args.names.now.items (get_or c.args.numbers.now c.loop-number.number-index 0)
    ≡ Some c.index.result.now
found g c =
    let number = get_or c.args.numbers.now c.loop-number.number-index 0 in
    let below = c.requires number (Contains-get_or c.args.numbers.now c.loop-number.number-index 0 c.loop-number-test.true) in
    slice_get_read c.args.names.now.items (length c.args.names.now.items) number c.index.result.now refl
    (omega (arith, below, c.args.names.now.ok.0)) c.index.ensures

-- one more name is copied, at its number
pub loop-number-preserved : goal.loop-number-preserved
loop-number-preserved g c =
    let d = (goal.at.loop-number-preserved g c).After-index in
    let laws = g.met.K.Eq.laws in
    let eq = g.K.PartialEq.eq in
    let names = c.args.names.now.items in
    let numbers = c.args.numbers.now in
    let place = c.loop-number.number-index in
    let number = get_or numbers place 0 in
    let name = c.index.result.now in
    let copy = c.in_ok-copy_key.field-0 in
    let keys = c.loop-number.keys.items in
    let old = c.loop-number.invariant in
    let same : eq name copy ≡ true = c.in_ok-copy_key.ensures in
    let more : (to : g.row.K.Denot) → list_any (eq to) c.push.new.self.items ≡ (list_any (eq to) keys || (eq to copy || false)) =
    λ to. ap (list_any (eq to)) c.in_ok-push.ensures.items ∙ list_any-append (eq to) keys (copy ∷ []) in
    record {
      sound = λ to among. elim (or_cases _ _ (sym (more to) ∙ among)) [
        | inl before ↦ old.sound to before
        | inr last ↦ elim (or_cases _ _ last) [
          | inl equal ↦ (
            number,
            Contains-get_or numbers place 0 c.loop-number-test.true,
            numbered_from_name eq names name to number (found g d) (eq_trans laws to copy name equal (eq_back laws name copy same)),
          )
          | inr nothing ↦ absurd (false≢true nothing)
        ]
      ];
      complete = λ k to below numbered. more to ∙ elim (cases_eq k place) [
        | inl here ↦ or_right (list_any (eq to) keys) _ (or_left (eq to copy) false (eq_trans laws to name copy
            (name_from_numbered eq names name to number (found g d)
            (subst (λ n. IsNumbered eq names to (get_or numbers n 0)) here numbered)) same))
        | inr apart ↦ or_left _ _ (old.complete k to (omega (arith, below, apart)) numbered)
      ];
    }

pub returns-clause-complete : goal.returns-clause-complete
returns-clause-complete g c = λ to it.
    let among = it.1 in
    c.loop-number.invariant.complete among.0 to (omega (arith, among.1, c.loop-number-test.false))
    (subst (IsNumbered g.K.PartialEq.eq c.args.names.now.items to)
    (sym (read_at c.args.numbers.now among.0 it.0 among.1 among.2)) it.2)
