-- Look-up in attributes, and tests that decide subtyping.
use Rattle.std.proofs.Common.{◌≡◌, inl, inr, Bool, true, false, refl, sym, ap, ◌∙◌, List, [], ◌∷◌, map, Some, None, if◌then◌else◌}
use Rattle.std.proofs.lemmas.Bool.Decides.{Decides-and, Decides-like}
use Rattle.std.proofs.lemmas.Slice.Eq.{bytes_eq-Decides}
use Rattle.std.specs.Bool.{Decides}
use Rattle.std.specs.Cmp.{tied_itself}
use Rattle.std.specs.Cmp.Lexicographic.{pointwise}
use Rattle.std.specs.List.{AllByRecursion}
use Rattle.std.specs.List.Sorted.{IsStrictlySortedBy}
use Rattle.std.specs.Str.{bytes_eq}
use Rattle.std.specs.declared.cmp.Ordering.TheVariants.{Less, Equal}
use Rattle.cedar_ast.proofs.Texts.{text_cmp-total}
use Rattle.cedar_type_rules.specs.Words.{AttributeBelow, Below, Fields, FlagsBelow, HasField, IsSortedByName, Text, Ty, ValidationMode, end, field, field_at, field_names, text_cmp}

-- where a test decides whether two elements give the same, the test of lists decides whether they
-- give the same lists
pub pointwise-map_Decides : {X B : Type 0} (f : X → B) (test : X → X → Bool)
    → ((x y : X) → Decides (test x y) (f x ≡ f y)) → (xs ys : List X) → Decides (pointwise test xs ys) (map f xs ≡ map f ys)
pointwise-map_Decides f test same [] [] = (λ _. refl, λ _. refl)
pointwise-map_Decides f test same [] (y ∷ ys) = (λ e. absurd cc, λ e. absurd cc)
pointwise-map_Decides f test same (x ∷ xs) [] = (λ e. absurd cc, λ e. absurd cc)
pointwise-map_Decides f test same (x ∷ xs) (y ∷ ys) =
    Decides-like
    _ (λ both i. both.0 i ∷ both.1 i)
    (λ (e : f x ∷ map f xs ≡ f y ∷ map f ys). let first : f x ≡ f y = cc in let rest : map f xs ≡ map f ys = cc in (first, rest))
    (Decides-and _ _ (same x y) (pointwise-map_Decides f test same xs ys))

-- what a choice between an attribute and the rest gives
HasField-chosen : (b : Bool) (name other : Text) (required : Bool) (ty : Ty) (rest : Fields) (own : Bool × Ty)
    → (b ≡ true → name ≡ other) → (field_at name rest ≡ Some own → HasField rest name own.0 own.1)
    → (if b then Some (required, ty) else field_at name rest) ≡ Some own → HasField (field other required ty rest) name own.0 own.1
HasField-chosen true name other required ty rest own same before e =
    let pair : (required, ty) ≡ own = cc in
    inl (sym (same refl), ap (λ (p : Bool × Ty). p.0) pair, ap (λ (p : Bool × Ty). p.1) pair)
HasField-chosen false name other required ty rest own same before e = inr (before e)

-- an attribute that is found is one of them
pub HasField-found : (name : Text) (fields : Fields) (own : Bool × Ty) → field_at name fields ≡ Some own → HasField fields name own.0 own.1
HasField-found name end own e = absurd cc
HasField-found name (field other required ty rest) own e =
    HasField-chosen (bytes_eq name other) name other required ty rest own (bytes_eq-Decides name other).0 (HasField-found name rest own) e

-- what holds of each name holds of an attribute's
pub HasField-all : (P : Text → Type 0) (name : Text) (fields : Fields) (required : Bool) (ty : Ty)
    → HasField fields name required ty → AllByRecursion P (field_names fields) → P name
HasField-all P name end required ty has all = absurd has
HasField-all P name (field other flag of rest) required ty (inl same) all = rw same.0 at all.0
HasField-all P name (field other flag of rest) required ty (inr there) all = HasField-all P name rest required ty there all.1

-- a name above another is another
above_differs : (name other : Text) → text_cmp other name ≡ Less → ¬ (bytes_eq name other ≡ true)
above_differs name other less e =
    let same : name ≡ other = (bytes_eq-Decides name other).0 e in
    let tied : text_cmp name name ≡ Equal = tied_itself text_cmp-total name in
    let again : text_cmp name name ≡ Less = rw (← same) at less in
    cc

-- a choice that isn't made
pub unchosen : {A : Type 0} (b : Bool) (x y : A) → ¬ (b ≡ true) → (if b then x else y) ≡ y
unchosen true x y never = absurd (never refl)
unchosen false x y never = refl

-- a choice that is made
pub chosen_first : {A : Type 0} (b : Bool) (x y : A) → b ≡ true → (if b then x else y) ≡ x
chosen_first true x y made = refl
chosen_first false x y made = absurd cc

-- where the names are sorted without duplicates, each attribute is found
pub found-HasField : (name : Text) (fields : Fields) (required : Bool) (ty : Ty) → IsSortedByName fields
    → HasField fields name required ty → field_at name fields ≡ Some (required, ty)
unfolding IsStrictlySortedBy
found-HasField name end required ty sorted_by_name has = absurd has
found-HasField name (field other flag of rest) required ty sorted_by_name (inl same) =
    chosen_first (bytes_eq name other) (Some (flag, of)) (field_at name rest) ((bytes_eq-Decides name other).1 (sym same.0))
    ∙ λ i. Some (same.1 i, same.2 i)
found-HasField name (field other flag of rest) required ty sorted_by_name (inr there) =
    unchosen (bytes_eq name other) (Some (flag, of)) (field_at name rest)
    (above_differs name other (HasField-all (λ x. text_cmp other x ≡ Less) name rest required ty there sorted_by_name.0))
    ∙ found-HasField name rest required ty sorted_by_name.1 there

-- a record that has an attribute of that name below an upper one
abbrev pub HasBelow : ValidationMode → Fields → Text → Bool → Ty → Type 0
HasBelow mode lower name required ty =
    (own_required : Bool) × (own : Ty) × HasField lower name own_required own × FlagsBelow mode own_required required × Below mode own ty

-- whether the attribute that is found is below decides whether there is one below
pub HasBelow-Decides : (mode : ValidationMode) (lower : Fields) (name : Text) (upper own : Bool × Ty) (b : Bool)
    → IsSortedByName lower → field_at name lower ≡ Some own → Decides b (AttributeBelow mode own upper)
    → Decides b (HasBelow mode lower name upper.0 upper.1)
HasBelow-Decides mode lower name upper own b sorted_by_name found decides = (
  λ e. let below = decides.0 e in (own.0, own.1, HasField-found name lower own found, below.0, below.1),
  λ has. let again : field_at name lower ≡ Some (has.0, has.1) = found-HasField name lower has.0 has.1 sorted_by_name has.2 in
      let same : (has.0, has.1) ≡ own = cc in
      decides.1 (rw (← same) (has.3, has.4)),
)

-- where no attribute is found there is none below
pub HasBelow-none : (mode : ValidationMode) (lower : Fields) (name : Text) (upper : Bool × Ty) → IsSortedByName lower
    → field_at name lower ≡ None → ¬ HasBelow mode lower name upper.0 upper.1
HasBelow-none mode lower name upper sorted_by_name none has =
    let again : field_at name lower ≡ Some (has.0, has.1) = found-HasField name lower has.0 has.1 sorted_by_name has.2 in
    cc
