-- What holds of parts of a fragment, over what its maps hold.
use Rattle.std.proofs.Common.{◌≡◌, List, [], ◌∷◌, map, None, String, Global, string_bytes, refl, ap, sym, subst}
use Rattle.std.proofs.lemmas.Simd.{map-map}
use Rattle.std.specs.declared.cmp.Ordering.{Ordering}
use Rattle.std.specs.List.Sorted.{IsStrictlySortedBy}
use Rattle.std.specs.Map.{keys_of}
use Rattle.std.specs.String.{string_cmp}
use Rattle.cedar_ast.proofs.Ordered.{IsStrictlySortedBy-map}
use Rattle.cedar_ast.specs.Words.{text_cmp}
use Rattle.cedar_schema_ast.proofs.ExprLemmas.{raw_record-entries}
use Rattle.cedar_schema_ast.specs.Words.{members_from, plain_members, raw_record}
use Rattle.cedar_schema_ast.specs.declared.json_schema.raw_name.RawName.{RawName}
use Rattle.cedar_schema_ast.specs.declared.json_schema.type_of.RecordType.{RecordType, out-RecordType}
use Rattle.cedar_schema_ast.specs.declared.json_schema.type_of.TypeOfAttribute.{TypeOfAttribute}
use Rattle.cedar_schema_text_laws.specs.Sayable.{Sayable, SayableMembers, names_of_members}

abbrev pub Attributes : Type 0
Attributes = List (String Global × TypeOfAttribute RawName)

-- the names of attributes are those that a map holds them under
names-keys : (entries : Attributes) → names_of_members (members_from (plain_members None entries)) ≡ map string_bytes (keys_of entries)
names-keys [] = refl
names-keys (entry ∷ rest) = ap (λ names. string_bytes entry.0 ∷ names) (names-keys rest)

-- what holds of the attributes of a record holds of it
pub record_sayable : (it : RecordType RawName) → IsStrictlySortedBy string_cmp (keys_of (out-RecordType RawName it).attributes.entries)
    → SayableMembers (members_from (plain_members None (out-RecordType RawName it).attributes.entries)) → Sayable (raw_record None it)
record_sayable it sorted each =
    let entries = (out-RecordType RawName it).attributes.entries in
    subst Sayable (sym (raw_record-entries None it)) (
      subst (IsStrictlySortedBy text_cmp) (sym (names-keys entries)) (IsStrictlySortedBy-map string_cmp text_cmp string_bytes (λ a b. refl) (keys_of entries) sorted),
      each,
    )

-- the keys of a map stand in order, also as they are shown
pub shown_sorted : {K V L : Type 0} (R : K → K → Ordering) (order : L → L → Ordering) (shown : K → L) → ((a b : K) → R a b ≡ order (shown a) (shown b))
    → (entries : List (K × V)) → IsStrictlySortedBy R (keys_of entries) → IsStrictlySortedBy order (map (λ entry. shown entry.0) entries)
shown_sorted {K = K} {V = V} R order shown same entries sorted =
    subst (IsStrictlySortedBy order) (map-map shown (λ (entry : K × V). entry.0) entries) (IsStrictlySortedBy-map R order shown same (keys_of entries) sorted)
