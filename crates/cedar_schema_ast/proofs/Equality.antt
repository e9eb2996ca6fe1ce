-- Equality of names, by what they stand for.
use Rattle.std.proofs.Common.{◌≡◌, List, [], ◌∷◌, map, refl}
use Rattle.std.proofs.lemmas.Bool.Decides.{Decides-and, Decides-like}
use Rattle.std.specs.Bool.{Decides}
use Rattle.std.specs.Cmp.Lexicographic.{pointwise, bytes_decides}
use Rattle.cedar_ast.proofs.Names.{internal_name_eq-same}
use Rattle.cedar_ast.specs.contracts.internal_name.InternalNamePartialEq.TheImpl as internal_name_eq
use Rattle.cedar_schema_ast.specs.Words.{Common, CommonOrEntity, CommonTypeId, ConditionalName, Entity, InternalName, RawName, ReferenceType, common_type_text, name_of, possibilities_of, raw_name, reference_type_of}
use Rattle.cedar_schema_ast.specs.contracts.json_schema.common_type_id.CommonTypeIdHash.TheImpl as common_type_id_hash
use Rattle.cedar_schema_ast.specs.contracts.json_schema.common_type_id.CommonTypeIdPartialEq.TheImpl as common_type_id_eq
use Rattle.cedar_schema_ast.specs.contracts.json_schema.conditional_name.ConditionalNameHash.TheImpl as conditional_name_hash
use Rattle.cedar_schema_ast.specs.contracts.json_schema.conditional_name.ConditionalNamePartialEq.TheImpl as conditional_name_eq
use Rattle.cedar_schema_ast.specs.contracts.json_schema.raw_name.RawNameHash.TheImpl as raw_name_hash
use Rattle.cedar_schema_ast.specs.contracts.json_schema.raw_name.RawNamePartialEq.TheImpl as raw_name_eq
use Rattle.cedar_schema_ast.specs.contracts.json_schema.reference_type.ReferenceTypePartialEq.TheImpl as reference_type_eq

-- lists of names are equal exactly where they stand for the same names in order
pub internal_names-Decides : (xs ys : List InternalName) → Decides (pointwise (internal_name_eq.ghosts).eq xs ys)
    (map name_of xs ≡ map name_of ys)
internal_names-Decides [] [] = (λ _. refl, λ _. refl)
internal_names-Decides [] (y ∷ ys) = (λ e. cc, λ e. cc)
internal_names-Decides (x ∷ xs) [] = (λ e. cc, λ e. cc)
internal_names-Decides (x ∷ xs) (y ∷ ys) =
    Decides-like
    _
    (λ both i. both.0 i ∷ both.1 i)
    (λ e. (cc, cc))
    (Decides-and _ _ (internal_name_eq-same x y) (internal_names-Decides xs ys))

-- raw names are equal exactly where they stand for the same name
pub raw_name-Decides : (a b : RawName) → Decides ((raw_name_eq.ghosts).eq a b) (raw_name a ≡ raw_name b)
raw_name-Decides a b = internal_name_eq-same a.0 b.0

-- the hash reads no more than what the raw name stands for
pub raw_name_hash-same : (a b : RawName) → raw_name a ≡ raw_name b
    → (raw_name_hash.ghosts).hash_input a ≡ (raw_name_hash.ghosts).hash_input b
raw_name_hash-same a b e = raw_name_hash.Laws.respects_eq-law a b ((raw_name-Decides a b).1 e)

-- base names of common types are equal exactly where their texts are
pub common_type_id-Decides : (a b : CommonTypeId) → Decides ((common_type_id_eq.ghosts).eq a b) (common_type_text a ≡ common_type_text b)
common_type_id-Decides a b = bytes_decides (common_type_text a) (common_type_text b)

-- the hash reads the text alone
pub common_type_id_hash-same : (a b : CommonTypeId) → common_type_text a ≡ common_type_text b
    → (common_type_id_hash.ghosts).hash_input a ≡ (common_type_id_hash.ghosts).hash_input b
common_type_id_hash-same a b e = common_type_id_hash.Laws.respects_eq-law a b ((common_type_id-Decides a b).1 e)

-- the test of two reference types decides whether they are equal
pub reference_type-Decides : (a b : ReferenceType) → Decides ((reference_type_eq.ghosts).eq a b) (a ≡ b)
reference_type-Decides Common Common = (λ _. refl, λ _. refl)
reference_type-Decides Common Entity = (λ e. cc, λ e. cc)
reference_type-Decides Common CommonOrEntity = (λ e. cc, λ e. cc)
reference_type-Decides Entity Common = (λ e. cc, λ e. cc)
reference_type-Decides Entity Entity = (λ _. refl, λ _. refl)
reference_type-Decides Entity CommonOrEntity = (λ e. cc, λ e. cc)
reference_type-Decides CommonOrEntity Common = (λ e. cc, λ e. cc)
reference_type-Decides CommonOrEntity Entity = (λ e. cc, λ e. cc)
reference_type-Decides CommonOrEntity CommonOrEntity = (λ _. refl, λ _. refl)

-- conditional names are equal exactly where their possibilities and their reference types are
pub conditional_name-Decides : (a b : ConditionalName) → Decides ((conditional_name_eq.ghosts).eq a b)
    ((possibilities_of a ≡ possibilities_of b) × (reference_type_of a ≡ reference_type_of b))
conditional_name-Decides a b =
    Decides-and
    _
    _
    (internal_names-Decides (a.possibilities.head ∷ a.possibilities.tail.items) (b.possibilities.head ∷ b.possibilities.tail.items))
    (reference_type-Decides a.reference_type b.reference_type)

-- the hash reads no more than the possibilities and the reference type
pub conditional_name_hash-same : (a b : ConditionalName) → possibilities_of a ≡ possibilities_of b
    → reference_type_of a ≡ reference_type_of b → (conditional_name_hash.ghosts).hash_input a
    ≡ (conditional_name_hash.ghosts).hash_input b
conditional_name_hash-same a b names kinds = conditional_name_hash.Laws.respects_eq-law a b
    ((conditional_name-Decides a b).1 (names, kinds))
