-- Comparisons of truth values and of openness, by their variants in order.
use Rattle.std.proofs.Common.{◌≡◌, ◌↔◌, Bool, true, false, refl, sym, ap, ◌∙◌, IsTrue}
use Rattle.std.proofs.lemmas.Bool.{false≢true}
use Rattle.std.specs.Bool.{Decides}
use Rattle.std.specs.Hash.{le_bytes}
use Rattle.std.specs.Ordering.{is_eq}
use Rattle.std.specs.declared.cmp.Ordering.{Ordering}
use Rattle.std.specs.declared.cmp.Ordering.TheVariants.{Equal}
use Rattle.cedar_ast.proofs.Basics.{is_eq-Equal}
use Rattle.cedar_type_rules.specs.Words.{AnyBool, BoolType, ClosedAttributes, ComparesBy, False, FeedsVariantFirst, OpenAttributes, OpenTag, True, is_open, openness_cmp, truth_cmp}
use Rattle.cedar_type_rules.specs.contracts.bool_type.BoolTypeHash.TheImpl as bool_hash
use Rattle.cedar_type_rules.specs.contracts.bool_type.BoolTypeOrd.TheImpl as bool_ord
use Rattle.cedar_type_rules.specs.contracts.bool_type.BoolTypePartialEq.TheImpl as bool_eq
use Rattle.cedar_type_rules.specs.contracts.open_tag.OpenTagHash.TheImpl as open_tag_hash
use Rattle.cedar_type_rules.specs.contracts.open_tag.OpenTagOrd.TheImpl as open_tag_ord
use Rattle.cedar_type_rules.specs.contracts.open_tag.OpenTagPartialEq.TheImpl as open_tag_eq

-- an order that agrees with equality ties exactly where two stand for the same
pub ties_from : {A P : Type 0} (stands_for : A → P) (eq : A → A → Bool) (cmp : A → A → Ordering)
    → ((a b : A) → IsTrue (eq a b) ↔ (stands_for a ≡ stands_for b)) → ((a b : A) → eq a b ≡ is_eq (cmp a b)) → (a b : A)
    → (cmp a b ≡ Equal) ↔ (stands_for a ≡ stands_for b)
ties_from stands_for eq cmp same matches a b =
    (λ e. (same a b).0 (matches a b ∙ ap is_eq e), λ e. is_eq-Equal (cmp a b) (sym (matches a b) ∙ (same a b).1 e))

-- an answer is refused and what it would say fails
pub none : {P : Type 0} → ¬ P → Decides false P
none fails = (λ e. absurd (false≢true e), λ holds. absurd (fails holds))

-- truth values are equal exactly where they are the same
pub bool_eq-same : (a b : BoolType) → IsTrue ((bool_eq.ghosts).eq a b) ↔ (a ≡ b)
bool_eq-same AnyBool AnyBool = (λ _. refl, λ _. refl)
bool_eq-same AnyBool True = (λ e. absurd cc, λ e. absurd cc)
bool_eq-same AnyBool False = (λ e. absurd cc, λ e. absurd cc)
bool_eq-same True AnyBool = (λ e. absurd cc, λ e. absurd cc)
bool_eq-same True True = (λ _. refl, λ _. refl)
bool_eq-same True False = (λ e. absurd cc, λ e. absurd cc)
bool_eq-same False AnyBool = (λ e. absurd cc, λ e. absurd cc)
bool_eq-same False True = (λ e. absurd cc, λ e. absurd cc)
bool_eq-same False False = (λ _. refl, λ _. refl)

-- truth values are ordered by their variants
pub bool_cmp-is : (a b : BoolType) → (bool_ord.ghosts).cmp a b ≡ truth_cmp a b
bool_cmp-is AnyBool AnyBool = refl
bool_cmp-is AnyBool True = refl
bool_cmp-is AnyBool False = refl
bool_cmp-is True AnyBool = refl
bool_cmp-is True True = refl
bool_cmp-is True False = refl
bool_cmp-is False AnyBool = refl
bool_cmp-is False True = refl
bool_cmp-is False False = refl

-- tests of openness decide whether it is the same
pub open_tag-Decides : (a b : OpenTag) → Decides ((open_tag_eq.ghosts).eq a b) (a ≡ b)
open_tag-Decides OpenAttributes OpenAttributes = (λ _. refl, λ _. refl)
open_tag-Decides OpenAttributes ClosedAttributes = none (λ e. cc)
open_tag-Decides ClosedAttributes OpenAttributes = none (λ e. cc)
open_tag-Decides ClosedAttributes ClosedAttributes = (λ _. refl, λ _. refl)

-- a test decides whether a record is open
pub is_open-eq : (a : OpenTag) → is_open a ≡ (open_tag_eq.ghosts).eq a OpenAttributes
is_open-eq OpenAttributes = refl
is_open-eq ClosedAttributes = refl

-- openness is ordered by its variants
pub open_tag_cmp-is : (a b : OpenTag) → (open_tag_ord.ghosts).cmp a b ≡ openness_cmp a b
open_tag_cmp-is OpenAttributes OpenAttributes = refl
open_tag_cmp-is OpenAttributes ClosedAttributes = refl
open_tag_cmp-is ClosedAttributes OpenAttributes = refl
open_tag_cmp-is ClosedAttributes ClosedAttributes = refl

-- comparisons of truth values agree
pub truths_compare : ComparesBy (λ (known : BoolType). known) truth_cmp (bool_eq.ghosts).eq (bool_ord.ghosts).cmp
    (bool_hash.ghosts).hash_input
truths_compare = record {
  equality = bool_eq-same;
  order = bool_cmp-is;
  total = bool_ord.Laws.total-law;
  ties = ties_from (λ known. known) (bool_eq.ghosts).eq (bool_ord.ghosts).cmp bool_eq-same bool_ord.Laws.matches_eq-law;
  hash = λ a b e. bool_hash.Laws.respects_eq-law a b ((bool_eq-same a b).1 e);
}

-- comparisons of openness agree
pub openness_compare : ComparesBy (λ (openness : OpenTag). openness) openness_cmp (open_tag_eq.ghosts).eq
    (open_tag_ord.ghosts).cmp (open_tag_hash.ghosts).hash_input
openness_compare = record {
  equality = open_tag-Decides;
  order = open_tag_cmp-is;
  total = open_tag_ord.Laws.total-law;
  ties = ties_from (λ openness. openness) (open_tag_eq.ghosts).eq
      (open_tag_ord.ghosts).cmp open_tag-Decides open_tag_ord.Laws.matches_eq-law;
  hash = λ a b e. open_tag_hash.Laws.respects_eq-law a b ((open_tag-Decides a b).1 e);
}

-- a truth value is fed as its variant
pub truths_feed : FeedsVariantFirst (λ (known : BoolType). known) (bool_hash.ghosts).hash_input
unfolding le_bytes
truths_feed AnyBool AnyBool same = refl
truths_feed True True same = refl
truths_feed False False same = refl
truths_feed _ _ same = absurd cc

-- openness is fed as its variant
pub openness_feeds : FeedsVariantFirst (λ (openness : OpenTag). openness) (open_tag_hash.ghosts).hash_input
unfolding le_bytes
openness_feeds OpenAttributes OpenAttributes same = refl
openness_feeds ClosedAttributes ClosedAttributes same = refl
openness_feeds _ _ same = absurd cc
