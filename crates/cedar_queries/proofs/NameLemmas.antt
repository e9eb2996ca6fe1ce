-- Whether a name is one of some, and whether there are any.
use Rattle.std.proofs.Common.{◌≡◌, ◌↔◌, Bool, IsTrue, List, refl, Contains}
use Rattle.std.specs.Bool.{Decides, one_answer}
use Rattle.std.specs.Ordering.{is_eq}
use Rattle.cedar_queries.specs.Words.{PlainName, has_name, name_cmp}
use Rattle.cedar_schema_semantics.proofs.OccurrenceLemmas.{any_of, name_test, some_of}

-- a name is one of some exactly where they contain it
pub has_name-Decides : (names : List PlainName) (name : PlainName) → Decides (has_name names name) (Contains names name)
has_name-Decides names name = (
  λ found.
      let some = some_of (λ other. is_eq (name_cmp name other)) names found in
      rw ((name_test name some.0).0 some.2) some.1,
  λ among. any_of (λ other. is_eq (name_cmp name other)) names name among ((name_test name name).1 refl),
)

-- what decides whether names contain one is whether it is one of them
pub is_has_name : (b : Bool) (names : List PlainName) (name : PlainName) → (IsTrue b ↔ Contains names name) → b ≡ has_name names name
is_has_name b names name decides = one_answer b (has_name names name) decides (has_name-Decides names name)
