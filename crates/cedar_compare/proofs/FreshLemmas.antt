-- Uids that a schema doesn't name.
use Rattle.std.proofs.Common.{◌≡◌, ◌≤◌, ◌+◌, ℕ, arith, length, subst}
use Rattle.cedar_compare.specs.Words.{HasAction, IsFreshIn, NoLongerChoice, PlainName, PlainSchema, PlainUid, Text}

-- the uid is of another type, or its id is no longer than a number says
abbrev pub IsNoLonger : PlainName → ℕ → PlainUid → Type 0
IsNoLonger name longest uid = uid.ty ≡ name → length uid.eid ≤ longest

-- a uid whose id is longer than those of all actions of its type, and than all choices of it, is
-- fresh
pub fresh_of : (schema : PlainSchema) (name : PlainName) (uid : PlainUid) (longest chosen count : ℕ) → uid.ty ≡ name
    → length uid.eid ≡ count + 1 → longest ≤ count → chosen ≤ count
    → ((id : Text) → HasAction schema (record { ty = name; eid = id }) → length id ≤ longest)
    → NoLongerChoice schema name chosen → IsFreshIn schema name uid
fresh_of schema name uid longest chosen count named long below below' actions choices = record {
  ty = named;
  no_action = λ has.
      let less = actions uid.eid (subst (λ n. HasAction schema (record { ty = n; eid = uid.eid })) named has) in
      omega (arith, less, long, below);
  no_choice = λ it all there are among.
      let less = choices it all uid.eid there are among in
      omega (arith, less, long, below');
}
