use Rattle.std.specs.Hash.{HashWrites}
use Rattle.std.specs.Prelude.{◌≡◌, slice_get}

-- the hash of a value is fed its variant first: two values that feed the same first item are of the
-- same variant
abbrev pub FeedsVariantFirst : {A V : Type 0} → (A → V) → (A → HashWrites) → Type 0
FeedsVariantFirst variant hash_input =
    (a b : _) → slice_get (hash_input a) 0 ≡ slice_get (hash_input b) 0 → variant a ≡ variant b
