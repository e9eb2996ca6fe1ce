-- Common types in an order in which each comes after those that it refers to.
use Rattle.std.specs.Prelude.{◌≡◌, ◌↔◌, ◌<◌, ◌++◌, ◌∷◌, ℕ, List, Some, Contains, length, slice_get}
use Rattle.cedar_ast.specs.Words.{Chain, PlainName, Twice}
use Rattle.cedar_elaboration.specs.Indices.{NamesItems, defined_over, item_names}
use Rattle.cedar_schema_ast.specs.Words.{Expr, Reference}
use Rattle.cedar_schema_semantics.specs.Words.{Fault, MayNameCommon, Names, Refers, RefersToCommon, ResolvesTo, common_type_cycle, duplicate_common_type, out_of_memory}

-- the indices are just those of the items, and each comes after those of the common types that its
-- item refers to
pub record IsElaborationOrder (names : Names) (items : List (PlainName × Expr))
    (order : List ℕ) : Type 0 where
  pub indices : (item_index : ℕ) → Contains order item_index ↔ (item_index < length items)
  pub after : (before rest : List ℕ) (item_index : ℕ) (item : PlainName × Expr)
      → order ≡ before ++ item_index ∷ rest
      → slice_get items item_index ≡ Some item → (reference : Reference) → Refers item.1 reference
      → MayNameCommon reference.kind
      → (name : PlainName) → ResolvesTo names reference name
      → Contains (item_names items) name
      → (to : ℕ) × Contains before to × (slice_get (item_names items) to ≡ Some name)

-- no common type is on a cycle, where the names are those of the items
abbrev pub HasNoCycle : Names → List (PlainName × Expr) → Type 0
HasNoCycle names items = NamesItems names items
    → (name : PlainName) → ¬ Chain (RefersToCommon (defined_over items names)) name name

-- why common types have no order: a name stands twice, or it is on a cycle, where the names are
-- those of the items; or memory ran out
abbrev pub IsOrderFault : Names → List (PlainName × Expr) → Fault → Type 0
IsOrderFault names items (duplicate_common_type name) = Twice (item_names items) name
IsOrderFault names items (common_type_cycle name) =
    NamesItems names items → Chain (RefersToCommon (defined_over items names)) name name
IsOrderFault names items out_of_memory = Unit {0}
IsOrderFault names items _ = ⊥
