-- What is found of a written name is what the reference that it is resolves to.
use Rattle.std.proofs.Common.{◌≡◌, List, [], ◌∷◌, Option, None, Some, Result, Ok, Err, IfOk, MatchOption, sym, subst, refl, inl, Contains}
use Rattle.cedar_ast.proofs.Basics.{Contains-single}
use Rattle.cedar_name_resolution.specs.Words.{IsDefined, IsFirst, Names, PlainName, ReferenceType, StandsWhere, Text}
use Rattle.cedar_schema_ast.specs.Reference.{name_within, names_within}

module _ {A : Type 0} (f : A → PlainName) (names : Names) (kind : ReferenceType) where
  -- what is found of names is the first of them that is defined, or none is
  abbrev pub IsFound : List PlainName → Option A → Type 0
  IsFound possible found = MatchOption found
      ((name : PlainName) → Contains possible name → ¬ IsDefined names kind name)
      (λ it. IsFirst (IsDefined names kind) possible (f it))

  -- what is found of a name alone
  pub found_alone : (name : PlainName) (found : Option A) → StandsWhere f name (IsDefined names kind name) found
      → IsFound (name ∷ []) found
  found_alone name None none = λ other among defined.
      none (subst (IsDefined names kind) (sym (Contains-single name other among)) defined)
  found_alone name (Some it) stands = inl (sym stands.0, stands.1)

  -- the same of what a look-up answers
  pub answer_alone : {E : Type 0} (name : PlainName) (answer : Result (Option A) E)
      → IfOk answer (StandsWhere f name (IsDefined names kind name)) → IfOk answer (IsFound (name ∷ []))
  answer_alone name (Ok found) stands = found_alone name found stands
  answer_alone name (Err error) stands = tt

-- a name with a path may stand for itself alone, also in a namespace
pub with_path_alone : (namespace : PlainName) (base : Text) (path : List Text) → ¬ (path ≡ [])
    → names_within namespace base path ≡ record { base = base; path = path } ∷ []
with_path_alone namespace base [] some = absurd (some refl)
with_path_alone namespace base (part ∷ path) some = refl

-- one without a path may stand for the name in the namespace, and then for itself
pub without_path_twice : (namespace : PlainName) (base : Text) (path : List Text) → path ≡ []
    → names_within namespace base path ≡ name_within (Some namespace) base ∷ record { base = base; path = path } ∷ []
without_path_twice namespace base [] none = refl
without_path_twice namespace base (part ∷ path) none = cc
