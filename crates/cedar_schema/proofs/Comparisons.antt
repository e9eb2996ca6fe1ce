-- Types, common types and namespaces with locations are equal exactly where they are the same.
use Rattle.std.proofs.Common.{◌≡◌, Option, Some, None, refl, ap, string_bytes}
use Rattle.std.proofs.lemmas.Bool.Decides.{Decides-and, Decides-eqb, Decides-like}
use Rattle.std.specs.Bool.{Decides}
use Rattle.std.specs.Option.{option_eq}
use Rattle.cedar_ast.proofs.Names.{internal_name_eq-same}
use Rattle.cedar_ast.proofs.Texts.{text_eq-Decides}
use Rattle.cedar_ast.specs.contracts.loc.LocPartialEq.TheImpl as loc_eq
use Rattle.cedar_schema.specs.Words.{Loc, LocatedCommonType, LocatedNamespace, LocatedType, loc_at, name_of, ty_of, type_at}
use Rattle.cedar_schema.specs.contracts.located_common_type.LocatedCommonTypeHash.TheImpl as common_type_hash
use Rattle.cedar_schema.specs.contracts.located_common_type.LocatedCommonTypePartialEq.TheImpl as common_type_eq
use Rattle.cedar_schema.specs.contracts.located_namespace.LocatedNamespaceHash.TheImpl as namespace_hash
use Rattle.cedar_schema.specs.contracts.located_namespace.LocatedNamespacePartialEq.TheImpl as namespace_eq
use Rattle.cedar_schema.specs.contracts.located_type.LocatedTypePartialEq.TheImpl as located_type_eq
use Rattle.cedar_types.proofs.EqualityLaws.{none, types-Decides}

-- places are equal exactly where they are the same
loc-Decides : (a b : Loc) → Decides ((loc_eq.ghosts).eq a b) (a ≡ b)
loc-Decides a b =
    Decides-like _
    (λ all i. record { source = all.0 i; start = all.1.0 i; stop = all.1.1 i })
    (λ e. (ap (λ (it : Loc). it.source) e, (ap (λ (it : Loc). it.start) e, ap (λ (it : Loc). it.stop) e)))
    (Decides-and _ _ (Decides-eqb a.source b.source)
    (Decides-and _ _ (Decides-eqb a.start b.start) (Decides-eqb a.stop b.stop)))

-- places that may not be known are
type_locations-Decides : (a b : Option Loc) → Decides (option_eq (loc_eq.ghosts).eq a b) (a ≡ b)
type_locations-Decides None None = (λ _. refl, λ _. refl)
type_locations-Decides None (Some b) = none (λ e. cc)
type_locations-Decides (Some a) None = none (λ e. cc)
type_locations-Decides (Some a) (Some b) = Decides-like _ (ap Some) (λ e. cc) (loc-Decides a b)

-- types with a location are equal exactly where they stand for the same type and have the same
-- location
pub located_types-Decides : (a b : LocatedType) → Decides ((located_type_eq.ghosts).eq a b)
    ((ty_of (type_at a) ≡ ty_of (type_at b)) × (loc_at a ≡ loc_at b))
located_types-Decides a b = Decides-and _ _ (types-Decides a.ty b.ty) (type_locations-Decides a.loc b.loc)

-- common types are equal exactly where both their names are
pub common_types-Decides : (a b : LocatedCommonType) → Decides ((common_type_eq.ghosts).eq a b)
    ((string_bytes a.name ≡ string_bytes b.name) × (name_of a.full_name ≡ name_of b.full_name))
common_types-Decides a b =
    Decides-and _ _ (text_eq-Decides (string_bytes a.name) (string_bytes b.name)) (internal_name_eq-same a.full_name b.full_name)

-- the hash reads no more than the names
pub common_types-hash : (a b : LocatedCommonType) → string_bytes a.name ≡ string_bytes b.name → name_of a.full_name ≡ name_of b.full_name
    → (common_type_hash.ghosts).hash_input a ≡ (common_type_hash.ghosts).hash_input b
common_types-hash a b base full = common_type_hash.Laws.respects_eq-law a b ((common_types-Decides a b).1 (base, full))

-- namespaces are equal exactly where their names are
pub namespaces-Decides : (a b : LocatedNamespace) → Decides ((namespace_eq.ghosts).eq a b) (string_bytes a.name ≡ string_bytes b.name)
namespaces-Decides a b = text_eq-Decides (string_bytes a.name) (string_bytes b.name)

-- the hash reads no more than the name
pub namespaces-hash : (a b : LocatedNamespace) → string_bytes a.name ≡ string_bytes b.name
    → (namespace_hash.ghosts).hash_input a ≡ (namespace_hash.ghosts).hash_input b
namespaces-hash a b same = namespace_hash.Laws.respects_eq-law a b ((namespaces-Decides a b).1 same)
