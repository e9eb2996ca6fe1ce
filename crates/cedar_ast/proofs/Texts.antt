-- The order and the equality of texts, and of lists of texts.
use Rattle.std.proofs.Common.{◌≡◌, ◌↔◌, List, ap, sym, ◌∙◌}
use Rattle.std.specs.Bool.{Decides}
use Rattle.std.specs.Cmp.{IsTotalOrder, tied_itself}
use Rattle.std.specs.Cmp.Lexicographic.{slice_cmp, pointwise, pointwise_decides, bytes_decides, lists_total, nat_list_cmp_total}
use Rattle.std.specs.FinMap.{IsAntisymmetric, nat_cmp-IsAntisymmetric, slice_cmp-IsAntisymmetric}
use Rattle.std.specs.Prelude.{nat_eq}
use Rattle.std.specs.declared.cmp.Ordering.{Ordering}
use Rattle.std.specs.declared.cmp.Ordering.TheVariants.{Equal}
use Rattle.cedar_ast.specs.Text.{Text, text_cmp}

-- texts are totally ordered
pub text_cmp-total : IsTotalOrder text_cmp
text_cmp-total = nat_list_cmp_total

-- lists of texts are totally ordered
pub texts_cmp-total : IsTotalOrder (slice_cmp text_cmp)
texts_cmp-total = lists_total text_cmp-total

-- an order in which only equal values tie answers `Equal` exactly at those
pub Equal_is_same : {K : Type 0} {R : K → K → Ordering} → IsTotalOrder R → IsAntisymmetric R → (a b : K) → (R a b ≡ Equal) ↔ (a ≡ b)
Equal_is_same {R = R} total same a b = (same a b, λ e. ap (R a) (sym e) ∙ tied_itself total a)

-- only equal texts tie
pub text_cmp-IsAntisymmetric : IsAntisymmetric text_cmp
text_cmp-IsAntisymmetric = slice_cmp-IsAntisymmetric nat_cmp-IsAntisymmetric

-- only equal lists of texts tie
pub texts_cmp-IsAntisymmetric : IsAntisymmetric (slice_cmp text_cmp)
texts_cmp-IsAntisymmetric = slice_cmp-IsAntisymmetric text_cmp-IsAntisymmetric

-- texts tie exactly where they are equal
pub text_cmp-Equal : (a b : Text) → (text_cmp a b ≡ Equal) ↔ (a ≡ b)
text_cmp-Equal = Equal_is_same text_cmp-total text_cmp-IsAntisymmetric

-- the test of two texts, byte by byte, decides whether they are equal
pub text_eq-Decides : (a b : Text) → Decides (pointwise nat_eq a b) (a ≡ b)
text_eq-Decides = bytes_decides

-- the test of two lists of texts decides whether they are equal
pub texts_eq-Decides : (a b : List Text) → Decides (pointwise (pointwise nat_eq) a b) (a ≡ b)
texts_eq-Decides = pointwise_decides text_eq-Decides
