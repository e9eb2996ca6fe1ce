-- Names of records that are listed.
use Rattle.std.proofs.Common.{◌≡◌, refl, ap, sym, subst, ◌∙◌, inl, inr, Bool, List, [], ◌∷◌, Option, Some, None, Contains, arith}
use Rattle.std.specs.Option.{option_map}
use Rattle.cedar_ast.proofs.Lists.{Contains-cons, Contains-cons_cases}
use Rattle.cedar_ast.specs.Words.{Included, Text}
use Rattle.cedar_type_rules.proofs.InclusionLemmas.{field_at-Decides}
use Rattle.cedar_type_rules.specs.Words.{Fields, Ty, field_at, field_names}

-- a walk over names: those that are left decide whether all are listed
pub record NamesSoFar (listed all left : List Text) : Type 0 where
  pub before : Included left listed → Included all listed
  pub within : Included left all

-- an attribute that isn't found isn't listed
pub not_listed : {A : Type 0} (of : A → Bool × Ty) (name : Text) (fields : Fields) (found : Option A) → option_map of found ≡ field_at name fields
    → found ≡ None → ¬ Contains (field_names fields) name
not_listed of name fields found is none there =
    let none_there : field_at name fields ≡ None = sym is ∙ ap (option_map of) none in
    let some = (field_at-Decides name fields).1 there in
    let wrong = rw none_there at some in cc

-- one that is found is listed
pub is_listed : {A : Type 0} (of : A → Bool × Ty) (name : Text) (fields : Fields) (found : Option A) (it : A) → option_map of found ≡ field_at name fields
    → found ≡ Some it → Contains (field_names fields) name
is_listed of name fields found it is some =
    (field_at-Decides name fields).0 (rw (sym is ∙ ap (option_map of) some) refl)

module _ (listed all : List Text) where
  -- at first all are left
  pub names_start : NamesSoFar listed all all
  names_start = record { before = λ each. each; within = λ name among. among }

  -- past one that is listed the others decide
  pub names_next : (name : Text) (rest : List Text) → NamesSoFar listed all (name ∷ rest) → Contains listed name → NamesSoFar listed all rest
  names_next name rest so_far there = record {
    before = λ each. so_far.before (λ n among. elim (Contains-cons_cases name rest n among) [
      | inl same ↦ subst (Contains listed) same there
      | inr later ↦ each n later
    ]);
    within = λ n among. so_far.within n (Contains-cons name rest n (inr among));
  }

  -- where none is left, all are listed
  pub names_none : (left : List Text) → left ≡ [] → NamesSoFar listed all left → Included all listed
  names_none left nothing so_far = so_far.before (λ name among. absurd (let e = rw nothing at among in omega (arith, e.1)))
