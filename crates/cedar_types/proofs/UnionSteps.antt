-- Halving, and places, among the entity types of unions, which rise by their names.
use Rattle.std.proofs.Common.{◌≡◌, ◌<◌, ◌+◌, ◌↔◌, ℕ, refl, sym, ap, ◌∙◌, List, [], ◌∷◌, length, map, Contains, get_or, arith, Result, Ok, Err, inl, inr}
use Rattle.std.proofs.lemmas.Bool.{cases_lt, false≢true}
use Rattle.std.proofs.lemmas.List.{get_or_default}
use Rattle.std.proofs.lemmas.List.Sorted.{searchable_from_sorted}
use Rattle.std.specs.Bool.{Decides}
use Rattle.std.specs.List.Sorted.{IsStrictlySortedBy, IsSortedBy, IsBinarySearchResult, IsSearchInRange}
use Rattle.std.specs.Ordering.{is_lt, ordering_reverse}
use Rattle.std.specs.Result.{is_ok}
use Rattle.std.specs.declared.cmp.Ordering.{Ordering}
use Rattle.std.specs.declared.cmp.Ordering.TheVariants.{Equal}
use Rattle.cedar_ast.proofs.Inclusion.{Included-none}
use Rattle.cedar_ast.proofs.Lists.{Contains-preimage}
use Rattle.cedar_ast.proofs.Names.{entity_type_ord-name_cmp, entity_type_ord-Equal}
use Rattle.cedar_ast.proofs.PlainNames.{name_cmp-total, name_cmp-Equal}
use Rattle.cedar_ast.specs.contracts.entity_type.EntityTypeOrd.TheImpl as entity_type_ord
use Rattle.cedar_name_map.proofs.RisingLemmas.{seen_at-rises, Contains-seen_at}
use Rattle.cedar_types.specs.Words.{EntityType, Included, PlainName, name_cmp, type_name}

module _ (types : List EntityType) (up : IsStrictlySortedBy name_cmp (map type_name types)) (ty : EntityType) where
  -- entity types that rise by their names are sorted
  sorted : IsSortedBy (λ a b. is_lt ((entity_type_ord.ghosts).cmp a b)) types
  sorted k d low high =
      ap is_lt (entity_type_ord-name_cmp (get_or types (k + 1) d) (get_or types k d)
      ∙ (name_cmp-total.antisymm (type_name (get_or types (k + 1) d)) (type_name (get_or types k d))
      ∙ ap ordering_reverse (seen_at-rises type_name name_cmp types up k (k + 1) d (omega arith) high)))

  -- whether a search by halving finds an entity type decides whether its name is among the names
  pub searched-Decides : (r : Result ℕ ℕ) → IsSearchInRange r (length types)
      → IsBinarySearchResult (λ y. (entity_type_ord.ghosts).cmp y ty) types r
      → Decides (is_ok r) (Contains (map type_name types) (type_name ty))
  searched-Decides (Ok k) range holds = (
    λ _. rw ((entity_type_ord-Equal (get_or types k ty) ty).0 (holds ty)) at (Contains-seen_at type_name types k ty range),
    λ _. refl,
  )
  searched-Decides (Err i) range gap = (
    λ e. absurd (false≢true e),
    λ among.
        let (x, inside, same) = Contains-preimage type_name types (type_name ty) among in
        let k = inside.0 in
        let parts = gap (searchable_from_sorted entity_type_ord.Laws.total-law (λ y. y) types ty sorted) in
        let equal : (entity_type_ord.ghosts).cmp (get_or types k x) ty ≡ Equal =
        (entity_type_ord-Equal (get_or types k x) ty).1 (ap type_name inside.2 ∙ same) in
        elim (cases_lt k i) [
          | inl low ↦ let less = parts.0 k x (omega arith) low in absurd cc
          | inr high ↦ let greater = parts.1 k x high inside.1 in absurd cc
        ],
  )

-- a name is at a place
abbrev pub IsTypeAt : List EntityType → ℕ → PlainName → Type 0
IsTypeAt types place name = (place < length types) × ((d : EntityType) → type_name (get_or types place d) ≡ name)

-- the names of no entity types are among any
pub Included-empty : (types : List EntityType) (names : List PlainName) → length types ≡ 0 → Included (map type_name types) names
Included-empty [] names none = Included-none names
Included-empty (ty ∷ types) names none = absurd (omega (arith, none))

-- the name at a place is that of the entity type there
name_at : (types : List EntityType) (place : ℕ) (x : EntityType) → x ≡ get_or types place x → place < length types
    → (d : EntityType) → type_name (get_or types place d) ≡ type_name x
name_at types place x is within d = ap type_name (get_or_default types place d x within ∙ sym is)

module _ (types : List EntityType) (place : ℕ) (x ty : EntityType) (order : Ordering) (is : x ≡ get_or types place x)
    (within : place < length types) (answer : order ≡ (entity_type_ord.ghosts).cmp x ty) where
  -- how an entity type at a place compares is how the name there does
  pub order_at : (d : EntityType) → name_cmp (type_name (get_or types place d)) (type_name ty) ≡ order
  order_at d =
      ap (λ name. name_cmp name (type_name ty)) (name_at types place x is within d)
      ∙ (sym (entity_type_ord-name_cmp x ty) ∙ sym answer)

  -- it ties exactly where the name is at the place
  pub stands_where_tied : (order ≡ Equal) ↔ IsTypeAt types place (type_name ty)
  stands_where_tied =
      let ties = λ (d : EntityType). name_cmp-Equal (type_name (get_or types place d)) (type_name ty) in
      (λ equal. (within, λ d. (ties d).0 (order_at d ∙ equal)), λ here. sym (order_at x) ∙ (ties x).1 (here.1 x))
