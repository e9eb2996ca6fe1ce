-- Names that are gone through one after another, of which none may stand again.
use Rattle.std.proofs.Common.{◌≡◌, ℕ, ◌+◌, ◌<◌, ◌≤◌, List, [], ◌∷◌, ◌++◌, length, map, take, drop, get_or, Bool, true, false, cond, BTreeMap, Option, Some, None, option_map, Bor, Contains, bytes_eq, nat_cmp, refl, ap, ap₂, sym, subst, ◌∙◌, arith}
use Rattle.std.specs.BTreeMap.{get_by}
use Rattle.std.specs.Cmp.Lexicographic.{slice_cmp}
use Rattle.std.specs.List.{find}
use Rattle.std.specs.Option.{option_or}
use Rattle.std.proofs.lemmas.List.{drop_all, drop_more, take_all}
use Rattle.std.proofs.lemmas.List.Elements.{Contains-append_left}
use Rattle.std.proofs.lemmas.List.Folds.{find-append}
use Rattle.std.proofs.lemmas.Slice.Eq.{bytes_eq-Decides}
use Rattle.cedar_ast.specs.Words.{Text}
use Rattle.cedar_ast.specs.declared.loc.Loc.{Loc}
use Rattle.cedar_schema_grammar.specs.Tree.{Name}
use Rattle.cedar_schema_text.proofs.SoFar.{plain_more}
use Rattle.cedar_schema_text.specs.Faults.{Fault, first_named, repeat_of, repeats, repeats_behind, twice}
use Rattle.cedar_schema_text.specs.Named.{named}
use Rattle.cedar_schema_text.specs.declared.fault.Repeated.{Repeated}
use Rattle.cedar_schema_text.specs.declared.once.Named.{Named}

abbrev pub Places : Type 0
Places = BTreeMap (Bor Text) Loc

-- the place that a map has for a text
abbrev pub place_of : Places → Text → Option Loc
place_of places text = get_by (λ k. slice_cmp nat_cmp text k.now) places

-- the place of the first of some names with a text
abbrev pub first_place : Text → List Name → Option Loc
first_place text names = option_map (λ x. x.loc) (first_named text names)

-- the map has the first place of each name so far, and the repeats are those of the names to come
pub record OnceSoFar (what : Repeated) (names : List Named) (i : ℕ) (places : Places) : Type 0 where
  pub held : (text : Text) → place_of places text ≡ first_place text (map named (take i names))
  pub rest : repeats what (map named names) ≡ repeats_behind what (map named (take i names)) (map named (drop i names))

-- at first no place is held
pub once_none : (what : Repeated) (names : List Named) (places : Places) → ((text : Text) → place_of places text ≡ None)
    → OnceSoFar what names 0 places
once_none what names places empty = record { held = empty; rest = refl }

-- the names to come, the first of them by itself
rest_more : (what : Repeated) (names : List Named) (i : ℕ) (x : Named) (before : List Name) → i < length names → x ≡ get_or names i x
    → repeats_behind what before (map named (drop i names))
    ≡ repeat_of what (first_named (named x).text before) (named x) ++ repeats_behind what (before ++ named x ∷ []) (map named (drop (i + 1) names))
rest_more what names i x before lt is =
    ap (λ xs. repeats_behind what before (map named xs)) (drop_more names i x lt)
    ∙ ap (λ y. repeats_behind what before (named y ∷ map named (drop (i + 1) names))) (sym is)

some_loc : (o : Option Name) (loc : Loc) → option_map (λ x. x.loc) o ≡ Some loc → (x : Name) × (o ≡ Some x) × (x.loc ≡ loc)
some_loc None loc e = absurd cc
some_loc (Some x) loc e = (x, refl, cc)

no_loc : (o : Option Name) → option_map (λ (x : Name). x.loc) o ≡ None → o ≡ None
no_loc None e = refl
no_loc (Some x) e = absurd cc

-- a name whose text the map has stands again
pub once_again : (what : Repeated) (names : List Named) (i : ℕ) (x : Named) (places : Places) (first : Loc) → i < length names → x ≡ get_or names i x
    → place_of places x.text.now ≡ Some first → OnceSoFar what names i places
    → Contains (repeats what (map named names)) (twice what x.text.now first x.loc)
once_again what names i x places first lt is found so_far =
    let before = map named (take i names) in
    let was = some_loc (first_named x.text.now before) first (sym (so_far.held x.text.now) ∙ found) in
    let later = repeats_behind what (before ++ named x ∷ []) (map named (drop (i + 1) names)) in
    let here : repeats what (map named names) ≡ twice what x.text.now was.0.loc x.loc ∷ later =
    so_far.rest ∙ rest_more what names i x before lt is ∙ ap (λ o. repeat_of what o (named x) ++ later) was.1 in
    subst (λ faults. Contains faults (twice what x.text.now first x.loc)) (sym here)
    (subst (λ loc. Contains (twice what x.text.now was.0.loc x.loc ∷ later) (twice what x.text.now loc x.loc)) was.2 (0, omega arith, refl))

-- the first of some names and of one more
first_more : (text : Text) (before : List Name) (x : Name)
    → first_named text (before ++ x ∷ []) ≡ option_or (first_named text before) (cond (bytes_eq x.text text) (Some x) None)
first_more text before x = find-append (λ y. bytes_eq y.text text) before (x ∷ [])

or_none : (o : Option Name) → option_or o None ≡ o
or_none None = refl
or_none (Some x) = refl

held_by : (b : Bool) (text : Text) (before : List Name) (x : Name) (old : Option Loc) → bytes_eq x.text text ≡ b → first_named x.text before ≡ None
    → old ≡ first_place text before
    → cond b (Some x.loc) old ≡ option_map (λ y. y.loc) (option_or (first_named text before) (cond b (Some x) None))
held_by true text before x old same none e =
    let is = (bytes_eq-Decides x.text text).0 same in
    let absent : first_named text before ≡ None = subst (λ t. first_named t before ≡ None) is none in
    ap (λ o. option_map (λ y. y.loc) (option_or o (Some x))) (sym absent)
held_by false text before x old other none e = e ∙ ap (option_map (λ y. y.loc)) (sym (or_none (first_named text before)))

-- a name that the map has not is put into it
pub once_more : (what : Repeated) (names : List Named) (i : ℕ) (x : Named) (places new : Places) → i < length names → x ≡ get_or names i x
    → place_of places x.text.now ≡ None
    → ((text : Text) → place_of new text ≡ cond (bytes_eq x.text.now text) (Some x.loc) (place_of places text))
    → OnceSoFar what names i places → OnceSoFar what names (i + 1) new
once_more what names i x places new lt is none after so_far =
    let before = map named (take i names) in
    let absent = no_loc (first_named x.text.now before) (sym (so_far.held x.text.now) ∙ none) in
    let more = plain_more named names i x lt is in
    let later = map named (drop (i + 1) names) in
    record {
      held = λ text. after text
          ∙ held_by (bytes_eq x.text.now text) text before (named x) (place_of places text) refl absent (so_far.held text)
          ∙ ap (option_map (λ y. y.loc)) (sym (first_more text before (named x)))
          ∙ ap (first_place text) (sym more);
      rest = so_far.rest ∙ rest_more what names i x before lt is
          ∙ ap (λ o. repeat_of what o (named x) ++ repeats_behind what (before ++ named x ∷ []) later) absent
          ∙ ap (λ done. repeats_behind what done later) (sym more);
    }

-- where none is left, no name stands again
pub once_all : (what : Repeated) (names : List Named) (i : ℕ) (places : Places) → length names ≤ i → OnceSoFar what names i places
    → repeats what (map named names) ≡ []
once_all what names i places end so_far =
    so_far.rest ∙ ap (λ xs. repeats_behind what (map named (take i names)) (map named xs)) (drop_all i names end)

-- fewer than two names stand once
pub few_once : (what : Repeated) (names : List Name) → length names < 2 → repeats what names ≡ []
few_once what [] few = refl
few_once what (x ∷ []) few = refl
few_once what (x ∷ y ∷ names) few = absurd (too_many few) where
  too_many : length (x ∷ y ∷ names) < 2 → ⊥
  too_many below = omega arith
