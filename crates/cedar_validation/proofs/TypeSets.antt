-- Entity types in sets.
use Rattle.std.proofs.Common.{◌≡◌, true, cond, List, ◌∷◌, map, sym, ◌∙◌, inl, inr, ⊎_elim, Contains}
use Rattle.std.specs.List.{list_any}
use Rattle.cedar_schema_elements.proofs.NamedTypes.{inserted_cases, inserted_kept, inserted_new, same_type}
use Rattle.cedar_validation.proofs.Checking.{Checking, checking_more}
use Rattle.cedar_validation.specs.Words.{EntityType, EntityUID, PlainName, PlainUid, type_name, uid_of}

-- of some uids the types are collected, and others are left
pub record TypesSoFar (Has : PlainUid → Type 0) (all : List EntityUID) (names : List PlainName) (left : List EntityUID) : Type 0 where
  pub sound : (name : PlainName) → Contains names name → (uid : PlainUid) × Has uid × (uid.ty ≡ name)
  pub collected : Checking (λ uid. Contains names (uid_of uid).ty) all left

-- the type of one more is
pub types_more : (Has : PlainUid → Type 0) (all left rest : List EntityUID) (old new : List EntityType) (key : EntityType) (uid : EntityUID)
    → left ≡ uid ∷ rest → type_name key ≡ (uid_of uid).ty → Has (uid_of uid)
    → ((q : EntityType) → list_any (same_type q) new ≡ cond (same_type key q) true (list_any (same_type q) old))
    → TypesSoFar Has all (map type_name old) left → TypesSoFar Has all (map type_name new) rest
types_more Has all left rest old new key uid is named has updates so_far =
    let kept : Checking (λ each. Contains (map type_name new) (uid_of each).ty) all left = record {
      checked = λ x among. elim (so_far.collected.checked x among) [ inl before ↦ inl (inserted_kept old new key updates (uid_of x).ty before) | inr later ↦ inr later ];
      among = so_far.collected.among;
    } in
    record {
      sound = λ name among. ⊎_elim
          (so_far.sound name)
          (λ same. (uid_of uid, has, sym named ∙ same))
          (inserted_cases old new key updates name among);
      collected =
          checking_more (λ each. Contains (map type_name new) (uid_of each).ty) all left rest uid is kept
          (rw named at (inserted_new old new key updates));
    }
