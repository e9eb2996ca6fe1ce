use Rattle.std.proofs.Common.{◌≡◌, [], ◌∷◌, true, Some, ap, codes, refl, inl, inr, arith}
use Rattle.declaration_examples.proofs.converted_back.names_that_name_others.Goals as goal
use Rattle.declaration_examples.specs.Words.{ClosedAttributes, PlainName, PlainUid, action_named, action_within, action_word, alias_name, end, external_action, field, record_of, sample_namespace, type_entry, union_of, with_attribute, within_sample}

-- the bare name of a type names the one of the namespace, which is another
pub returns-clause-type_name : goal.returns-clause-type_name
returns-clause-type_name c writable =
    let ty = union_of (alias_name action_word ∷ []) in
    let same : within_sample action_word ≡ alias_name action_word =
    writable.names (Some sample_namespace) (alias_name action_word) (inl (
      record_of (field (codes "a") true ty end) ClosedAttributes,
      inl (type_entry (within_sample (codes "U")) (with_attribute ty) [], (0, omega arith, refl), refl, inl refl),
      inl (0, omega arith, refl),
    )) (within_sample action_word) (inl (refl, inr (tt, (2, omega arith, refl)))) in
    let path : codes "N" ∷ [] ≡ [] = ap (λ (name : PlainName). name.path) same in
    cc

-- so it is with the bare uid of an action
pub returns-clause-uid : goal.returns-clause-uid
returns-clause-uid c writable =
    let same : action_within (codes "b") ≡ action_named (codes "b") =
    writable.uids (Some sample_namespace) (action_named (codes "b")) (
      action_within (codes "c"),
      refl,
      (
        record { uid = action_named (codes "b"); kind = external_action; descendants = action_within (codes "c") ∷ [] },
        (0, omega arith, refl),
        (0, omega arith, refl),
      ),
    ) (action_within (codes "b")) (inl (refl, (1, omega arith, refl)), refl) in
    let path : codes "N" ∷ [] ≡ [] = ap (λ (uid : PlainUid). uid.ty.path) same in
    cc
