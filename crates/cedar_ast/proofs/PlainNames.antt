-- The orders of plain names and of plain uids.
use Rattle.std.proofs.Common.{◌≡◌, ◌↔◌, refl}
use Rattle.std.specs.Cmp.{IsTotalOrder, on_total, then_total}
use Rattle.std.specs.FinMap.{IsAntisymmetric}
use Rattle.std.specs.Ordering.{ordering_then}
use Rattle.std.specs.declared.cmp.Ordering.{Ordering}
use Rattle.std.specs.declared.cmp.Ordering.TheVariants.{Less, Equal, Greater}
use Rattle.cedar_ast.proofs.Texts.{text_cmp-total, texts_cmp-total, text_cmp-IsAntisymmetric, texts_cmp-IsAntisymmetric, Equal_is_same}
use Rattle.cedar_ast.specs.Words.{PlainName, PlainUid, name_cmp, uid_cmp}

-- an order by two keys in turn ties only where both do
pub ordering_then-Equal : (r s : Ordering) → ordering_then r s ≡ Equal → (r ≡ Equal) × (s ≡ Equal)
ordering_then-Equal Less s e = cc
ordering_then-Equal Equal s e = (refl, e)
ordering_then-Equal Greater s e = cc

-- names are totally ordered
pub name_cmp-total : IsTotalOrder name_cmp
name_cmp-total = then_total (on_total (λ (name : PlainName). name.base) text_cmp-total)
    (on_total (λ (name : PlainName). name.path) texts_cmp-total)

-- only equal names tie
pub name_cmp-IsAntisymmetric : IsAntisymmetric name_cmp
name_cmp-IsAntisymmetric a b e =
    let ties = ordering_then-Equal _ _ e in
    let base : a.base ≡ b.base = text_cmp-IsAntisymmetric a.base b.base ties.0 in
    let path : a.path ≡ b.path = texts_cmp-IsAntisymmetric a.path b.path ties.1 in
    λ i. record { base = base i; path = path i }

-- names tie exactly where they are equal
pub name_cmp-Equal : (a b : PlainName) → (name_cmp a b ≡ Equal) ↔ (a ≡ b)
name_cmp-Equal = Equal_is_same name_cmp-total name_cmp-IsAntisymmetric

-- uids are totally ordered
pub uid_cmp-total : IsTotalOrder uid_cmp
uid_cmp-total = then_total (on_total (λ (uid : PlainUid). uid.ty) name_cmp-total) (on_total (λ (uid : PlainUid). uid.eid) text_cmp-total)

-- only equal uids tie
pub uid_cmp-IsAntisymmetric : IsAntisymmetric uid_cmp
uid_cmp-IsAntisymmetric a b e =
    let ties = ordering_then-Equal _ _ e in
    let ty : a.ty ≡ b.ty = name_cmp-IsAntisymmetric a.ty b.ty ties.0 in
    let eid : a.eid ≡ b.eid = text_cmp-IsAntisymmetric a.eid b.eid ties.1 in
    λ i. record { ty = ty i; eid = eid i }

-- uids tie exactly where they are equal
pub uid_cmp-Equal : (a b : PlainUid) → (uid_cmp a b ≡ Equal) ↔ (a ≡ b)
uid_cmp-Equal = Equal_is_same uid_cmp-total uid_cmp-IsAntisymmetric
