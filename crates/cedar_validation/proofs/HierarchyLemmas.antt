-- Entity types one below the other, as they stand in a map that is in order.
use Rattle.std.proofs.Common.{◌≡◌, ◌⊎◌, List, [], ◌∷◌, ap, inl, inr, subst, sym, ◌∙◌, Contains}
use Rattle.std.proofs.lemmas.Cmp.{eq_by_cmp_equiv}
use Rattle.std.proofs.lemmas.Map.Keys.{IsDistinct-from_sorted}
use Rattle.std.proofs.lemmas.Map.Views.{lookup-from_Contains}
use Rattle.std.specs.BTreeMap.{is_at}
use Rattle.std.specs.List.Sorted.{IsStrictlySortedBy}
use Rattle.std.specs.Map.{keys_of}
use Rattle.std.specs.Ordering.{is_eq}
use Rattle.cedar_ast.proofs.Basics.{Contains-image}
use Rattle.cedar_ast.proofs.Lists.{Contains-preimage}
use Rattle.cedar_ast.proofs.Names.{entity_type_ord-Equal}
use Rattle.cedar_ast.specs.contracts.entity_type.EntityTypeOrd.TheImpl as entity_type_ord
use Rattle.cedar_graph.proofs.Numbers.{lookup_agree}
use Rattle.cedar_types.proofs.MemberLemmas.{Contains-named}
use Rattle.cedar_validation.proofs.Keyed.{type_found}
use Rattle.cedar_validation.proofs.RequestTypeLemmas.{one_unknown}
use Rattle.cedar_validation.specs.Words.{EntityType, EntityTypeKind, Fault, HasEntityType, IsBelowFault, IsBelowSound, IsEnumerated, IsExternal, IsOfKind, IsPairSound, IsValidationFault, IsSchemaFault, ListsDescendant, Parts, PlainName, SchemaEntityType, StandsAt, ValidatorEntityType, descendant_names, entity_type_of, enumerated_below, external_below_enumerated, one, out_of_memory, plain_entry, plain_parts, type_name, undeclared_entity_types}

abbrev pub Item : Type 0
Item = EntityType × ValidatorEntityType

-- the descendants of an entity type are of the schema and of kinds that may stand below
abbrev pub IsCheckedBelow : Parts → Item → Type 0
IsCheckedBelow parts entry =
    ((lower : PlainName) → Contains (descendant_names entry.1) lower → HasEntityType (plain_parts parts) lower)
    × IsBelowSound parts entry.1

module _ (parts : Parts) where
  -- an entry of a kind is one of the schema
  kind_there : (P : EntityTypeKind → Type 0) (entry : Item) (name : PlainName) → Contains parts.entity_types.entries entry
      → type_name entry.0 ≡ name → P (entity_type_of entry.1).kind → IsOfKind (plain_parts parts) name P
  kind_there P entry name among same is =
      let it = (plain_entry entry).1 in
      (it, rw same at (Contains-image plain_entry parts.entity_types.entries entry among), is)

  -- and the other way round
  kind_here : (P : EntityTypeKind → Type 0) (name : PlainName) → IsOfKind (plain_parts parts) name P
      → (entry : Item) × Contains parts.entity_types.entries entry × (type_name entry.0 ≡ name) × P (entity_type_of entry.1).kind
  kind_here P name of =
      let entry = Contains-preimage plain_entry parts.entity_types.entries (name, of.0) of.1 in (
        entry.0,
        entry.1,
        ap (λ (it : PlainName × SchemaEntityType). it.0) entry.2,
        rw (sym (ap (λ (it : PlainName × SchemaEntityType). it.1) entry.2)) at of.2,
      )

  -- an entry lists its descendants
  lists_its : (entry : Item) (lower : PlainName) → Contains parts.entity_types.entries entry
      → Contains (descendant_names entry.1) lower → ListsDescendant (plain_parts parts) lower (type_name entry.0)
  lists_its entry lower among below =
      ((plain_entry entry).1, Contains-image plain_entry parts.entity_types.entries entry among, below)

  module _ (sorted : IsStrictlySortedBy ((entity_type_ord.ghosts).cmp) (keys_of parts.entity_types.entries)) where
    -- an entry stands at each key of its name
    stands_at : (entry : Item) (key : EntityType) → Contains parts.entity_types.entries entry → type_name entry.0 ≡ type_name key
        → StandsAt parts key entry.1
    stands_at entry key among same =
        let types = parts.entity_types.entries in
        let cmp = (entity_type_ord.ghosts).cmp in
        let total = entity_type_ord.Laws.total-law in
        lookup_agree (is_at (cmp key)) (is_at (cmp entry.0))
        (λ k. ap is_eq (total.congr key entry.0 k ((entity_type_ord-Equal key entry.0).1 (sym same)))) types
        ∙ lookup-from_Contains (eq_by_cmp_equiv total) entry.0 entry.1 types (IsDistinct-from_sorted cmp (keys_of types) sorted) among

    -- where each entry is checked, each two of which the one lists the other are sound
    pub pair_sound : ((entry : Item) → Contains parts.entity_types.entries entry → IsCheckedBelow parts entry)
        → (lower upper : PlainName) → ListsDescendant (plain_parts parts) lower upper → IsPairSound (plain_parts parts) lower upper
    pair_sound each lower upper lists =
        let types = parts.entity_types.entries in
        let entry = Contains-preimage plain_entry types (upper, lists.0) lists.1 in
        let below = rw (sym (ap (λ (it : PlainName × SchemaEntityType). it.1) entry.2)) at lists.2 in
        let named : type_name entry.0.0 ≡ upper = ap (λ (it : PlainName × SchemaEntityType). it.0) entry.2 in
        let key = Contains-named entry.0.1.descendants.keys lower below in
        let checked = each entry.0 entry.1 in
        record {
          declared = checked.0 lower below;
          not_enumerated = λ of.
              let it = kind_here IsEnumerated lower of in
              (checked.1 key.0 it.0.1 key.1 (stands_at it.0 key.0 it.1 (it.2 ∙ sym key.2))).not_enumerated it.3;
          not_external = λ above of.
              let it = kind_here IsExternal lower of in
              let over = kind_here IsEnumerated upper above in
              let first = stands_at entry.0 entry.0.0 entry.1 (λ i. type_name entry.0.0) in
              let second = stands_at over.0 entry.0.0 over.1 (over.2 ∙ sym named) in
              let same : over.0.1 ≡ entry.0.1 = cc in
              (checked.1 key.0 it.0.1 key.1 (stands_at it.0 key.0 it.1 (it.2 ∙ sym key.2))).not_external (rw same at over.3) it.3;
        }

  module _ (entry : Item) (among : Contains parts.entity_types.entries entry) (fault : Fault) where
    -- why the descendants of an entry are refused is why the schema is
    pub below_fault : (fault ≡ out_of_memory) ⊎ IsBelowFault parts (type_name entry.0) entry.1 fault → IsValidationFault (plain_parts parts) fault
    below_fault why =
        elim why [
          | inl wanting ↦ inl wanting
          | inr of ↦ inr (λ extensions.
              let schema = plain_parts parts in
              let P : Fault → Type 0 = IsSchemaFault extensions schema in
              let lower = type_name of.0 in
              let found = type_found parts.entity_types.entries of.0 of.1 of.3 in
              let chain = one (lists_its entry lower among (Contains-image type_name entry.1.descendants.keys of.0 of.2)) in
              elim of.4 [
                | inl kind ↦ let here : IsSchemaFault extensions schema (enumerated_below lower (type_name entry.0)) =
                    (kind_there IsEnumerated (found.0, of.1) lower found.1 found.2 kind.1, chain) in
                    subst P (sym kind.0) here
                | inr kind ↦ let here : IsSchemaFault extensions schema (external_below_enumerated lower (type_name entry.0)) = (
                  kind_there IsExternal (found.0, of.1) lower found.1 found.2 kind.1,
                  kind_there IsEnumerated entry (type_name entry.0) among (λ i. type_name entry.0) kind.2,
                  chain,
                ) in
                    subst P (sym kind.0) here
              ])
        ]

    -- a descendant that isn't declared is a fault
    pub undeclared_fault : (names : List PlainName) → names ≡ descendant_names entry.1
        → (fault ≡ out_of_memory) ⊎ ((name : PlainName) × (fault ≡ undeclared_entity_types (name ∷ [])) × Contains names name
        × ¬ HasEntityType (plain_parts parts) name) → IsValidationFault (plain_parts parts) fault
    undeclared_fault names same why =
        elim why [
          | inl wanting ↦ inl wanting
          | inr of ↦ inr (λ extensions.
              let P : Fault → Type 0 = IsSchemaFault extensions (plain_parts parts) in
              let Q : List PlainName → Type 0 = λ items. Contains items of.0 in
              subst P (sym of.1)
              (one_unknown extensions (plain_parts parts) of.0
              (inr (inl (type_name entry.0, lists_its entry of.0 among (subst Q same of.2), of.3)))))
        ]
