-- Texts that are longer than all of some.
use Rattle.std.proofs.Common.{◌≡◌, ◌≤◌, ◌⊎◌, ◌+◌, inl, inr, refl, ap, subst, ℕ, zero, suc, Bool, List, ◌∷◌, length, Contains, arith, add-one}
use Rattle.std.proofs.Math.ListN.{replicate}
use Rattle.cedar_ast.proofs.Lists.{Contains-cons_cases}
use Rattle.cedar_ast.proofs.ValueLemmas.{stretch}
use Rattle.cedar_counterexample.specs.Words.{AreNoLonger, Fields, FieldsMentionEntity, MentionsEntity, PlainName, Text, Ty, end, field}
use Rattle.cedar_type_rules.proofs.SubtypeLaws.{FieldsWithin}

-- many `_` are a text of that many
replicate-stretch : (k : ℕ) → replicate k 95 ≡ stretch k
replicate-stretch zero = refl
replicate-stretch (suc k) = ap (λ text. 95 ∷ text) (replicate-stretch k)

-- one `_` more is a text of one more
pub underscores-stretch : (count : ℕ) → replicate (count + 1) 95 ≡ stretch (suc count)
underscores-stretch count = rw add-one (replicate-stretch (suc count))

-- each text is one of those that are left, or no longer than the longest so far
abbrev pub LongestSoFar : {A : Type 0} → (A → Text) → List A → List A → ℕ → Type 0
LongestSoFar {A} f all left longest = (x : A) → Contains all x → Contains left x ⊎ (length (f x) ≤ longest)

-- past one that is no longer than the next longest
pub longest_next : {A : Type 0} (f : A → Text) (all rest : List A) (first : A) (longest next : ℕ) → longest ≤ next
    → length (f first) ≤ next → LongestSoFar f all (first ∷ rest) longest → LongestSoFar f all rest next
longest_next f all rest first longest next more long so_far x among =
    elim (so_far x among) [
      | inl still ↦
          elim (Contains-cons_cases first rest x still) [
            | inl same ↦ inr (subst (λ y. length (f y) ≤ next) same long)
            | inr there ↦ inl there
          ]
      | inr less ↦ inr (omega (arith, less, more))
    ]

-- each entity type that attributes mention is mentioned by those that are left, or its base name is
-- no longer than the longest so far
pub record MentionedSoFar (all left : Fields) (longest : ℕ) : Type 0 where
  pub before : (name : PlainName) → FieldsMentionEntity all name → FieldsMentionEntity left name ⊎ (length name.base ≤ longest)
  pub within : FieldsWithin left all

-- past one of which no name is longer than the next longest
pub mentioned_next : (all rest : Fields) (text : Text) (required : Bool) (ty : Ty) (longest next : ℕ) → longest ≤ next
    → AreNoLonger (MentionsEntity ty) next → MentionedSoFar all (field text required ty rest) longest → MentionedSoFar all rest next
mentioned_next all rest text required ty longest next more short so_far = record {
  before = λ name among. elim (so_far.before name among) [
    | inl still ↦ elim still [ inl here ↦ inr (short name here) | inr later ↦ inl later ]
    | inr less ↦ inr (omega (arith, less, more))
  ];
  within = λ n r t has. so_far.within n r t (inr has);
}

-- at first all are left
pub mentioned_start : (all : Fields) (longest : ℕ) → MentionedSoFar all all longest
mentioned_start all longest = record { before = λ name among. inl among; within = λ n r t has. has }

-- where none is left, none is longer
pub mentioned_all : (all left : Fields) (longest : ℕ) → left ≡ end → MentionedSoFar all left longest → AreNoLonger (FieldsMentionEntity all) longest
mentioned_all all left longest nothing so_far name among = elim (so_far.before name among) [
  | inl still ↦ absurd (subst (λ fields. FieldsMentionEntity fields name) nothing still)
  | inr less ↦ less
]
