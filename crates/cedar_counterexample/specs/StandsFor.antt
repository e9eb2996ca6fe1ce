-- Uids that stand for others where a fact is to hold of them.
use Rattle.std.specs.Prelude.{◌≡◌, ◌<◌, ◌≤◌, ◌⊎◌, ℕ, length}
use Rattle.cedar_ast.specs.Words.{IsValue, PlainName, PlainUid, uid_value}
use Rattle.cedar_entities.specs.Inclusion.{HasUidOf}

-- a uid of the same type, and the same where the fact holds of that one
pub record IsExistingFor (Is : PlainUid → Type 0) (uid it : PlainUid) : Type 0 where
  pub holds : Is it
  pub same_type : it.ty ≡ uid.ty
  pub itself : Is uid → it ≡ uid

-- a real uid of the same type where the fact holds of some uid of that one, and else of a type with
-- a base name longer than a given length; and the same where the fact holds of that one
pub record StandsFor (Is : PlainUid → Type 0) (longest : ℕ) (uid it : PlainUid) : Type 0 where
  pub holds : Is it
  pub real : IsValue (uid_value it)
  pub same_type : HasUidOf Is uid.ty → it.ty ≡ uid.ty
  pub apart : (it.ty ≡ uid.ty) ⊎ (longest < length it.ty.base)
  pub itself : Is uid → it ≡ uid

-- the base name of each entity type of which a fact holds is no longer than that
abbrev pub AreNoLonger : (PlainName → Type 0) → ℕ → Type 0
AreNoLonger Is longest = (name : PlainName) → Is name → length name.base ≤ longest
