-- Base names that stand alone among others.
use Rattle.std.proofs.Common.{◌≡◌, ◌↔◌, Bool, true, List, IsTrue, Contains, refl}
use Rattle.std.specs.Cmp.{both_ways}
use Rattle.std.specs.Ordering.{is_eq}
use Rattle.cedar_name_resolution.specs.Words.{PlainName, SameItems, Text, alias_name, is_taken, name_cmp}
use Rattle.cedar_schema_semantics.proofs.OccurrenceLemmas.{any_of, name_test, some_of}

-- a base name is taken where it is among the names alone
pub taken_is : (names : List PlainName) (word : Text) (answer : Bool) → IsTrue answer ↔ Contains names (alias_name word)
    → is_taken names word ≡ answer
taken_is names word answer is =
    let test : PlainName → Bool = λ name. is_eq (name_cmp (alias_name word) name) in
    both_ways (is_taken names word) answer
    (λ taken.
    let found = some_of test names taken in
    is.1 (rw ((name_test (alias_name word) found.0).0 found.2) found.1))
    (λ told. any_of test names (alias_name word) (is.0 told) ((name_test (alias_name word) (alias_name word)).1 refl))

-- a base name is taken by the one names where it is by others, the same ones
taken_included : (names others : List PlainName) → SameItems names others → (word : Text) → is_taken names word ≡ true
    → is_taken others word ≡ true
taken_included names others same word taken =
    let test : PlainName → Bool = λ name. is_eq (name_cmp (alias_name word) name) in
    let found = some_of test names taken in
    any_of test others found.0 ((same found.0).0 found.1) found.2

-- the same base names are taken by the same names
pub taken_same : (names others : List PlainName) → SameItems names others → (word : Text) → is_taken names word ≡ is_taken others word
taken_same names others same word =
    both_ways (is_taken names word) (is_taken others word) (taken_included names others same word)
    (taken_included others names (λ name. ((same name).1, (same name).0)) word)
