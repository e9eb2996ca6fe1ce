-- Names of principals and resources, as they are looked up one after another.
use Rattle.std.proofs.Common.{◌≡◌, ◌++◌, Bool, List, [], ◌∷◌, is_some, Contains, inl, inr, sym, subst}
use Rattle.std.proofs.lemmas.List.Elements.{Contains-append_cases, Contains-append_left, Contains-append_right}
use Rattle.std.proofs.lemmas.Map.Made.{is_some-lookup}
use Rattle.std.proofs.lemmas.Simd.{map-map}
use Rattle.std.specs.BTreeMap.{is_at}
use Rattle.std.specs.Bool.{Decides}
use Rattle.std.specs.Map.{keys_of}
use Rattle.cedar_ast.proofs.Basics.{Contains-single}
use Rattle.cedar_ast.proofs.Lists.{Contains-cons}
use Rattle.cedar_ast.proofs.Names.{entity_type_ord-Equal}
use Rattle.cedar_ast.specs.contracts.entity_type.EntityTypeOrd.TheImpl as order
use Rattle.cedar_builder.specs.Words.{AreNamed, EntityType, Entries, IsDefined, Names, PlainName, Reference, ResolvesTo, ValidatorEntityType, get_by, names_in, type_name}
use Rattle.cedar_name_resolution.proofs.SetLemmas.{found-Decides}
use Rattle.cedar_schema_semantics.proofs.ResolutionLemmas.{IsFirst-same}

-- a map has an entity type exactly where its name is among those of the map
pub has_name : (types : Entries EntityType ValidatorEntityType) (ty : EntityType) (found : Bool)
    → found ≡ is_some (get_by ((order.ghosts).cmp ty) types) → Decides found (Contains (names_in types) (type_name ty))
has_name types ty found is =
    rw (← is_some-lookup (is_at ((order.ghosts).cmp ty)) types.entries, ← is, map-map _ _ types.entries) at
    (found-Decides ((order.ghosts).cmp) type_name entity_type_ord-Equal (keys_of types.entries) ty)

-- the references resolve to some of these names
abbrev pub AllPlaced : Names → List PlainName → List Reference → Type 0
AllPlaced names types references = (reference : Reference) → Contains references reference
    → (name : PlainName) × ResolvesTo names reference name × Contains types name

-- one item stands in the list of it alone
alone : {A : Type 0} (x : A) → Contains (x ∷ []) x
alone x = Contains-cons x [] x (inl (λ i. x))

module _ (names : Names) (references : List Reference) (reference : Reference) (name : PlainName)
    (resolves : ResolvesTo names reference name) where
  -- the names of references are, with that of one more, those of all
  pub named_more : (found : List PlainName) → AreNamed names references found
      → AreNamed names (references ++ reference ∷ []) (found ++ name ∷ [])
  named_more found named each = (
    λ among. elim (Contains-append_cases found (name ∷ []) each among) [
      | inl here ↦
          let by = (named each).0 here in (by.0, Contains-append_left references (reference ∷ []) by.0 by.1, by.2)
      | inr last ↦ (
        reference,
        Contains-append_right references (reference ∷ []) reference (alone reference),
        subst (ResolvesTo names reference) (Contains-single name each last) resolves,
      )
    ],
    λ by. elim (Contains-append_cases references (reference ∷ []) by.0 by.1) [
      | inl here ↦ Contains-append_left found (name ∷ []) each ((named each).1 (by.0, here, by.2))
      | inr last ↦
          let same : reference ≡ by.0 = Contains-single reference by.0 last in
          let others : ResolvesTo names reference each = subst (λ it. ResolvesTo names it each) (sym same) by.2 in
          let one : name ≡ each = IsFirst-same (IsDefined names reference.kind) reference.possibilities name each resolves others in
          subst (Contains (found ++ name ∷ [])) one (Contains-append_right found (name ∷ []) name (alone name))
    ],
  )

  -- references that resolve to some names do so with one more
  pub placed_more : (types : List PlainName) → AllPlaced names types references → Contains types name
      → AllPlaced names types (references ++ reference ∷ [])
  placed_more types placed among each there = elim (Contains-append_cases references (reference ∷ []) each there) [
    | inl here ↦ placed each here
    | inr last ↦ (
      name,
      subst (λ it. ResolvesTo names it name) (Contains-single reference each last) resolves,
      among,
    )
  ]
