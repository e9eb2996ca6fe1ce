-- Values that are put into records.
use Rattle.std.proofs.Common.{◌≡◌, Bool, true, false, refl, ap, sym, ◌∙◌, [], ◌∷◌, Some, string_bytes, string_cmp, if◌then◌else◌, Global}
use Rattle.std.proofs.lemmas.Slice.Eq.{bytes_eq-Decides}
use Rattle.std.specs.BTreeMap.{insert_entry}
use Rattle.std.specs.Ordering.{match_ordering}
use Rattle.std.specs.Str.{bytes_eq}
use Rattle.std.specs.declared.cmp.Ordering.{Ordering}
use Rattle.std.specs.declared.cmp.Ordering.TheVariants.{Less, Equal, Greater}
use Rattle.std.specs.declared.string.String.{String}
use Rattle.cedar_ast.proofs.Texts.{text_cmp-Equal}
use Rattle.cedar_ast.proofs.ValueCopies.{AreReal, Pairs, plain_pairs}
use Rattle.cedar_counterexample.specs.Words.{IsValue, RestrictedExpr, Text, entries_from, entry_at, tree_of}

-- a choice under the same test
chosen_again : {X : Type 0} (b : Bool) (x y z : X) → (if b then x else z) ≡ (if b then x else (if b then y else z))
chosen_again true x y z = refl
chosen_again false x y z = refl

-- choices under tests that don't both hold
chosen_apart : {X : Type 0} (b c : Bool) (x y z : X) → (b ≡ true → c ≡ true → ⊥)
    → (if b then x else (if c then y else z)) ≡ (if c then y else (if b then x else z))
chosen_apart true true x y z apart = absurd (apart refl refl)
chosen_apart true false x y z apart = refl
chosen_apart false true x y z apart = refl
chosen_apart false false x y z apart = refl

module _ (key : String Global) (value : RestrictedExpr) where
  -- what is found at a name after a value is put under a key
  abbrev Finds : Text → Pairs → Pairs → Type 0
  Finds name old new = entry_at name (entries_from (plain_pairs new))
      ≡ (if bytes_eq name (string_bytes key) then Some (tree_of value) else entry_at name (entries_from (plain_pairs old)))

  found_at : (name : Text) (pair : String Global × RestrictedExpr) (rest later : Pairs) (answer : Ordering) → string_cmp key pair.0 ≡ answer
      → Finds name rest later → Finds name (pair ∷ rest) (match_ordering answer ((key, value) ∷ pair ∷ rest) ((pair.0, value) ∷ rest) (pair ∷ later))
  found_at name pair rest later Less is before = refl
  found_at name pair rest later Equal is before =
      let same : string_bytes key ≡ string_bytes pair.0 = (text_cmp-Equal (string_bytes key) (string_bytes pair.0)).0 is in
      let others = entry_at name (entries_from (plain_pairs rest)) in
      rw (← same) (chosen_again (bytes_eq name (string_bytes key)) (Some (tree_of value)) (Some (tree_of pair.1)) others)
  found_at name pair rest later Greater is before =
      ap (λ others. if bytes_eq name (string_bytes pair.0) then Some (tree_of pair.1) else others) before
      ∙ chosen_apart (bytes_eq name (string_bytes pair.0)) (bytes_eq name (string_bytes key)) (Some (tree_of pair.1)) (Some (tree_of value))
      (entry_at name (entries_from (plain_pairs rest)))
      (λ first second. (let same : string_bytes key ≡ string_bytes pair.0 = sym ((bytes_eq-Decides name (string_bytes key)).0 second)
      ∙ (bytes_eq-Decides name (string_bytes pair.0)).0 first in
      let tied = (text_cmp-Equal (string_bytes key) (string_bytes pair.0)).1 same in
      let wrong : Greater ≡ Equal = sym is ∙ tied in
      cc))

  -- after it is put there, it is found under its name, and all else as before
  pub found_put : (name : Text) (old : Pairs) → Finds name old (insert_entry string_cmp old key value)
  found_put name [] = refl
  found_put name (pair ∷ rest) = found_at name pair rest (insert_entry string_cmp rest key value) (string_cmp key pair.0) refl (found_put name rest)

  real_at : (pair : String Global × RestrictedExpr) (rest later : Pairs) (answer : Ordering) → AreReal (pair ∷ rest) → IsValue (tree_of value)
      → AreReal later → AreReal (match_ordering answer ((key, value) ∷ pair ∷ rest) ((pair.0, value) ∷ rest) (pair ∷ later))
  real_at pair rest later Less real one before = (one, real)
  real_at pair rest later Equal real one before = (one, real.1)
  real_at pair rest later Greater real one before = (real.0, before)

  -- real values with a real one put there are real
  pub real_put : (old : Pairs) → AreReal old → IsValue (tree_of value) → AreReal (insert_entry string_cmp old key value)
  real_put [] real one = (one, tt)
  real_put (pair ∷ rest) real one =
      real_at pair rest (insert_entry string_cmp rest key value) (string_cmp key pair.0) real one (real_put rest real.1 one)
