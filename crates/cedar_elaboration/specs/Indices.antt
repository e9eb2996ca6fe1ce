-- Common types by their indices among those that are declared.
use Rattle.std.specs.BTreeMap.{BTreeMap}
use Rattle.std.specs.Prelude.{◌≡◌, ◌⊎◌, ℕ, List, Some, map, Contains, slice_get}
use Rattle.cedar_ast.specs.Words.{Included, PlainName, SameItems, name_of}
use Rattle.cedar_ast.specs.declared.internal_name.InternalName.{InternalName}
use Rattle.cedar_schema_ast.specs.Words.{Expr, Reference}
use Rattle.cedar_schema_semantics.specs.Words.{Defined, MayNameCommon, Names, ResolvesTo}

-- the names of some items
abbrev pub item_names : List (PlainName × Expr) → List PlainName
item_names items = map (λ it. it.0) items

-- what is defined by common types, beside the entity types and the actions of some names
abbrev pub defined_over : List (PlainName × Expr) → Names → Defined
defined_over items names = record {
  common = items;
  entities = names.entities;
  actions = names.actions;
}

-- the common types among the names are just those of the items
abbrev pub NamesItems : Names → List (PlainName × Expr) → Type 0
NamesItems names items = SameItems names.common (item_names items)

-- the indices of a map, each with the name that it stands under
abbrev pub indexed_names : BTreeMap InternalName ℕ → List (PlainName × ℕ)
indexed_names indices = map (λ entry. (name_of entry.0, entry.1)) indices.entries

-- each of the names has an index, and what has an index is the name at that index
pub record AreIndices (names : List PlainName) (indices : List (PlainName × ℕ)) : Type 0 where
  pub each : Included names (map (λ it. it.0) indices)
  pub sound : (name : PlainName) (item_index : ℕ) → Contains indices (name, item_index)
      → slice_get names item_index ≡ Some name

-- the reference may name common types, and the name that it resolves to is that of the one at the
-- index
abbrev pub NamesIndex : Names → List (PlainName × ℕ) → Reference → ℕ → Type 0
NamesIndex names indices reference item_index =
    MayNameCommon reference.kind × (name : PlainName) × ResolvesTo names reference name
    × Contains indices (name, item_index)

-- after as before, but for indices of common types that some references name, of each name one
pub record AddsIndices (names : Names) (indices : List (PlainName × ℕ))
    (Refers : Reference → Type 0) (before after : List ℕ) : Type 0 where
  pub kept : Included before after
  pub only : (item_index : ℕ) → Contains after item_index
      → Contains before item_index ⊎ ((reference : Reference) × Refers reference
      × NamesIndex names indices reference item_index)
  pub each : (reference : Reference) → Refers reference → MayNameCommon reference.kind
      → (name : PlainName)
      → ResolvesTo names reference name → Contains (map (λ it. it.0) indices) name
      → (item_index : ℕ) × Contains indices (name, item_index) × Contains after item_index
