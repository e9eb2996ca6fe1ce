-- Members of which some are taken out.
use Rattle.std.proofs.Common.{◌≡◌, ℕ, zero, suc, ◌+◌, ◌<◌, List, [], ◌∷◌, ◌++◌, length, Bool, false, cond, drop, get_or, take, Some, None, Bor, Global, add-one, arith, ap, refl, sym, ◌∙◌}
use Rattle.std.proofs.Math.ListN.{set}
use Rattle.std.proofs.lemmas.List.{drop-set-lt, drop_more}
use Rattle.std.specs.Str.{bytes_eq}
use Rattle.cedar_json.proofs.DefinitionLemmas.{get_member-push, left_after}
use Rattle.cedar_json.specs.Words.{Text}
use Rattle.json.specs.Find.{get_member, later_or}
use Rattle.json.specs.Value.{members_view, value_view}
use Rattle.json.specs.declared.value.Value.{Value}

abbrev MaybeShared : Type 0
MaybeShared = Bor Text × Value Global

-- a member with another value under the same name is found by no other name
pub found_by_others : (name other : Text) (members : List MaybeShared) (index : ℕ) (x d : MaybeShared) → bytes_eq name other ≡ false → x.0.now ≡ name
    → (get_or members index d).0.now ≡ name
    → get_member other (members_view (set members index x)) ≡ get_member other (members_view members)
found_by_others name other [] index x d differs is was = refl
found_by_others name other (m ∷ members) zero x d differs is was =
    ap (later_or (get_member other (members_view members))) (no_match x is ∙ sym (no_match m was))
  where
    no_match : (y : MaybeShared) → y.0.now ≡ name → cond (bytes_eq y.0.now other) (Some (value_view y.1)) None ≡ None
    no_match y called = ap (λ b. cond b (Some (value_view y.1)) None) (ap (λ key. bytes_eq key other) called ∙ differs)
found_by_others name other (m ∷ members) (suc index) x d differs is was =
    ap (λ later. later_or later (cond (bytes_eq m.0.now other) (Some (value_view m.1)) None))
    (found_by_others name other members index x d differs is was)

-- up to behind a member that is left first stand those before it, and then the member
take_from : (all : List MaybeShared) (index : ℕ) (x : MaybeShared) (after : List MaybeShared) → drop index all ≡ x ∷ after
    → take (suc index) all ≡ take index all ++ x ∷ []
take_from [] zero x after e = absurd (cc)
take_from [] (suc index) x after e = absurd (cc)
take_from (m ∷ all) zero x after e = let same : m ≡ x = cc in ap (λ y. y ∷ []) same
take_from (m ∷ all) (suc index) x after e = ap (λ ys. m ∷ ys) (take_from all index x after e)

-- at a member, where those from it on are as they were
module _ (name : Text) (now all : List MaybeShared) (index : ℕ) (x : MaybeShared) (within : index < length now) (is : x ≡ get_or now index x)
    (left : drop index now ≡ drop index all) where
  here : drop index all ≡ x ∷ drop (index + 1) now
  here = sym left ∙ drop_more now index x within ∙ ap (λ y. y ∷ drop (index + 1) now) (sym is)

  -- those behind the member are as they were, whatever it holds
  pub left_more : (y : MaybeShared) → drop (index + 1) (set now index y) ≡ drop (index + 1) all
  left_more y =
      drop-set-lt (index + 1) now index y (omega arith)
      ∙ sym (left_after all (drop index all) (drop (index + 1) now) index (index + 1) x refl here refl)

  -- the last member of the name is the member, or one before it
  pub held_more : (b : Bool) → bytes_eq x.0.now name ≡ b
      → cond b (Some (value_view x.1)) (get_member name (members_view (take index all)))
      ≡ get_member name (members_view (take (index + 1) all))
  held_more b test =
      ap (λ c. cond c (Some (value_view x.1)) (get_member name (members_view (take index all)))) (sym test)
      ∙ sym (get_member-push name (take index all) x)
      ∙ ap (λ ys. get_member name (members_view ys))
      (sym (take_from all index x (drop (index + 1) now) here) ∙ ap (λ n. take n all) (sym (add-one index)))
