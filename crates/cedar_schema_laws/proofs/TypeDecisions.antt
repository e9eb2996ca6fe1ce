-- Whether two plain types, or two names, uids or texts, are the same is decided.
use Rattle.std.proofs.Common.{◌≡◌, List, [], ◌∷◌, inl, inr, refl, ap}
use Rattle.cedar_ast.proofs.PlainNames.{uid_cmp-Equal}
use Rattle.cedar_schema_laws.specs.Words.{BoolType, Fields, OpenTag, PlainUid, Ty, any_entity, any_set, end, extension_of, field, long, never, record_of, set_of, text, truth, uid_cmp, union_of}
use Rattle.cedar_type_rules.proofs.AnsweredLemmas.{decide_names}
use Rattle.cedar_type_rules.proofs.Decisions.{IsDecided, decide_both, decide_flags, decide_same}
use Rattle.cedar_type_rules.proofs.RecordAnswers.{decide_texts}
use Rattle.cedar_type_rules.specs.declared.bool_type.BoolType.TheVariants as truth_value
use Rattle.cedar_type_rules.specs.declared.open_tag.OpenTag.TheVariants as openness

-- facts that follow of each other are decided alike
pub decide_like : {A B : Type 0} → (A → B) → (B → A) → IsDecided A → IsDecided B
decide_like to back (inl a) = inl (to a)
decide_like to back (inr none) = inr (λ b. none (back b))

-- lists are the same or not, where their items are
decide_lists : {A : Type 0} → ((x y : A) → IsDecided (x ≡ y)) → (xs ys : List A) → IsDecided (xs ≡ ys)
decide_lists decide [] [] = inl refl
decide_lists decide [] (y ∷ ys) = inr (λ e. absurd cc)
decide_lists decide (x ∷ xs) [] = inr (λ e. absurd cc)
decide_lists decide (x ∷ xs) (y ∷ ys) =
    decide_like (λ both i. both.0 i ∷ both.1 i) (λ e. (cc, cc)) (decide_both (decide x y) (decide_lists decide xs ys))

-- uids are the same or not
pub decide_uids : (a b : PlainUid) → IsDecided (a ≡ b)
decide_uids = decide_same uid_cmp uid_cmp-Equal

-- what is known of a truth value is the same or not
decide_truths : (a b : BoolType) → IsDecided (a ≡ b)
decide_truths truth_value.AnyBool truth_value.AnyBool = inl refl
decide_truths truth_value.True truth_value.True = inl refl
decide_truths truth_value.False truth_value.False = inl refl
decide_truths a b = inr (λ e. absurd cc)

-- opennesses are the same or not
decide_openness : (a b : OpenTag) → IsDecided (a ≡ b)
decide_openness openness.OpenAttributes openness.OpenAttributes = inl refl
decide_openness openness.ClosedAttributes openness.ClosedAttributes = inl refl
decide_openness a b = inr (λ e. absurd cc)

mutual
  -- types are the same or not
  pub decide_types : (a b : Ty) → IsDecided (a ≡ b)
  decide_types never never = inl refl
  decide_types (truth a) (truth b) = decide_like (ap truth) (λ e. cc) (decide_truths a b)
  decide_types long long = inl refl
  decide_types text text = inl refl
  decide_types any_entity any_entity = inl refl
  decide_types (union_of a) (union_of b) = decide_like (ap union_of) (λ e. cc) (decide_lists decide_names a b)
  decide_types any_set any_set = inl refl
  decide_types (set_of a) (set_of b) = decide_like (ap set_of) (λ e. cc) (decide_types a b)
  decide_types (record_of a tag) (record_of b other) =
      decide_like (λ both i. record_of (both.0 i) (both.1 i)) (λ e. (cc, cc)) (decide_both (decide_fields a b) (decide_openness tag other))
  decide_types (extension_of a) (extension_of b) = decide_like (ap extension_of) (λ e. cc) (decide_names a b)
  decide_types a b = inr (λ e. absurd cc)

  -- attributes are the same or not
  decide_fields : (a b : Fields) → IsDecided (a ≡ b)
  decide_fields end end = inl refl
  decide_fields end (field name required ty rest) = inr (λ e. absurd cc)
  decide_fields (field name required ty rest) end = inr (λ e. absurd cc)
  decide_fields (field a required ty rest) (field b other_required other_ty other_rest) =
      decide_like (λ all i. field (all.0 i) (all.1.0 i) (all.1.1.0 i) (all.1.1.1 i)) (λ e. (cc, (cc, (cc, cc))))
      (decide_both (decide_texts a b) (decide_both (decide_flags required other_required)
      (decide_both (decide_types ty other_ty) (decide_fields rest other_rest))))
