use Rattle.std.specs.Cmp.{IsTotalOrder}
use Rattle.std.specs.Prelude.{◌≡◌, ◌↔◌, Bool, IsTrue}
use Rattle.std.specs.declared.cmp.Ordering.{Ordering}
use Rattle.std.specs.declared.cmp.Ordering.TheVariants.{Equal}

-- equality, order and hash go by what values stand for: two are equal exactly where they stand for
-- the same, they are ordered as what they stand for, the order is total and ties exactly where they
-- stand for the same, and there the hash reads the same
pub record ComparesBy {A P H : Type 0} (stands_for : A → P) (plain_cmp : P → P → Ordering)
    (eq : A → A → Bool)
    (cmp : A → A → Ordering) (hash_input : A → H) : Type 0 where
  pub equality : (a b : A) → IsTrue (eq a b) ↔ (stands_for a ≡ stands_for b)
  pub order : (a b : A) → cmp a b ≡ plain_cmp (stands_for a) (stands_for b)
  pub total : IsTotalOrder cmp
  pub ties : (a b : A) → (cmp a b ≡ Equal) ↔ (stands_for a ≡ stands_for b)
  pub hash : (a b : A) → stands_for a ≡ stands_for b → hash_input a ≡ hash_input b
