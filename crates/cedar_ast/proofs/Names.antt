-- Comparisons of names and of entity types, by the plain names that they stand for.
use Rattle.std.proofs.Common.{◌≡◌, ◌↔◌, IsTrue, ◌&&◌, List, ap, sym}
use Rattle.std.proofs.lemmas.Bool.Decides.{Decides-and, Decides-at, Decides-like}
use Rattle.std.proofs.lemmas.Map.Steps.{list_any_congr}
use Rattle.std.specs.Bool.{Decides}
use Rattle.std.specs.Cmp.Derive.Mapped.{pointwise-map, lex_map}
use Rattle.std.specs.Cmp.Lexicographic.{pointwise}
use Rattle.std.specs.List.{list_any}
use Rattle.std.specs.Ordering.{ordering_then}
use Rattle.std.specs.Prelude.{nat_eq}
use Rattle.std.specs.declared.cmp.Ordering.TheVariants.{Equal}
use Rattle.cedar_ast.proofs.PlainNames.{name_cmp-Equal}
use Rattle.cedar_ast.proofs.Texts.{text_eq-Decides, texts_eq-Decides}
use Rattle.cedar_ast.specs.Words.{EntityType, InternalName, Name, NameParts, PlainName, id_text, name_cmp, name_of, parts_of, plain_name, text_cmp, type_name}
use Rattle.cedar_ast.specs.contracts.entity_type.EntityTypeEq.TheImpl as entity_type_equal
use Rattle.cedar_ast.specs.contracts.entity_type.EntityTypeHash.TheImpl as entity_type_hash
use Rattle.cedar_ast.specs.contracts.entity_type.EntityTypeOrd.TheImpl as entity_type_ord
use Rattle.cedar_ast.specs.contracts.entity_type.EntityTypePartialEq.TheImpl as entity_type_eq
use Rattle.cedar_ast.specs.contracts.internal_name.InternalNameHash.TheImpl as internal_name_hash
use Rattle.cedar_ast.specs.contracts.internal_name.InternalNameOrd.TheImpl as internal_name_ord
use Rattle.cedar_ast.specs.contracts.internal_name.InternalNamePartialEq.TheImpl as internal_name_eq
use Rattle.cedar_ast.specs.contracts.internal_name.NamePartsOrd.TheImpl as name_parts_ord
use Rattle.cedar_ast.specs.contracts.internal_name.NamePartsPartialEq.TheImpl as name_parts_eq
use Rattle.cedar_ast.specs.contracts.name.NameHash.TheImpl as name_hash
use Rattle.cedar_ast.specs.contracts.name.NameOrd.TheImpl as name_ord
use Rattle.cedar_ast.specs.contracts.name.NamePartialEq.TheImpl as name_eq

-- two names are equal exactly where their base names are and their paths are
same_parts : (a b : PlainName) → Decides (pointwise nat_eq a.base b.base && pointwise (pointwise nat_eq) a.path b.path) (a ≡ b)
same_parts a b =
    Decides-like
    _ (λ both i. record { base = both.0 i; path = both.1 i })
    (λ e. (ap (λ (name : PlainName). name.base) e, ap (λ (name : PlainName). name.path) e))
    (Decides-and _ _ (text_eq-Decides a.base b.base) (texts_eq-Decides a.path b.path))

-- the parts of names are equal exactly where they stand for the same name
name_parts_eq-same : (a b : NameParts) → IsTrue ((name_parts_eq.ghosts).eq a b) ↔ (parts_of a ≡ parts_of b)
name_parts_eq-same a b =
    Decides-at
    _
    _ (ap (λ paths. pointwise nat_eq (id_text a.id) (id_text b.id) && paths)
    (sym (pointwise-map id_text (pointwise nat_eq) a.path.items b.path.items))) (same_parts (parts_of a) (parts_of b))

-- the parts of names order as what they stand for
name_parts_ord-name_cmp : (a b : NameParts) → (name_parts_ord.ghosts).cmp a b ≡ name_cmp (parts_of a) (parts_of b)
name_parts_ord-name_cmp a b =
    ap (λ paths. ordering_then (text_cmp (id_text a.id) (id_text b.id)) paths) (sym (lex_map id_text text_cmp a.path.items b.path.items))

-- names are equal exactly where they stand for the same name
pub internal_name_eq-same : (a b : InternalName) → IsTrue ((internal_name_eq.ghosts).eq a b) ↔ (name_of a ≡ name_of b)
internal_name_eq-same a b = name_parts_eq-same a.parts.value b.parts.value

-- names order as what they stand for
pub internal_name_ord-name_cmp : (a b : InternalName) → (internal_name_ord.ghosts).cmp a b ≡ name_cmp (name_of a) (name_of b)
internal_name_ord-name_cmp a b = name_parts_ord-name_cmp a.parts.value b.parts.value

-- names tie exactly where they stand for the same name
pub internal_name_ord-Equal : (a b : InternalName) → ((internal_name_ord.ghosts).cmp a b ≡ Equal) ↔ (name_of a ≡ name_of b)
internal_name_ord-Equal a b = rw (internal_name_ord-name_cmp a b) (name_cmp-Equal (name_of a) (name_of b))

-- the hash reads no more than what the name stands for
pub internal_name_hash-same : (a b : InternalName) → name_of a ≡ name_of b
    → (internal_name_hash.ghosts).hash_input a ≡ (internal_name_hash.ghosts).hash_input b
internal_name_hash-same a b e = internal_name_hash.Laws.respects_eq-law a b ((internal_name_eq-same a b).1 e)

-- names that aren't reserved are equal exactly where they stand for the same name
pub name_eq-same : (a b : Name) → IsTrue ((name_eq.ghosts).eq a b) ↔ (plain_name a ≡ plain_name b)
name_eq-same a b = internal_name_eq-same a.name b.name

-- names that aren't reserved order as what they stand for
pub name_ord-name_cmp : (a b : Name) → (name_ord.ghosts).cmp a b ≡ name_cmp (plain_name a) (plain_name b)
name_ord-name_cmp a b = internal_name_ord-name_cmp a.name b.name

-- names that aren't reserved tie exactly where they stand for the same name
pub name_ord-Equal : (a b : Name) → ((name_ord.ghosts).cmp a b ≡ Equal) ↔ (plain_name a ≡ plain_name b)
name_ord-Equal a b = internal_name_ord-Equal a.name b.name

-- the hash reads no more than what the name stands for
pub name_hash-same : (a b : Name) → plain_name a ≡ plain_name b → (name_hash.ghosts).hash_input a ≡ (name_hash.ghosts).hash_input b
name_hash-same a b e = name_hash.Laws.respects_eq-law a b ((name_eq-same a b).1 e)

-- entity types are equal exactly where their names are the same
pub entity_type_eq-same : (a b : EntityType) → IsTrue ((entity_type_eq.ghosts).eq a b) ↔ (type_name a ≡ type_name b)
entity_type_eq-same a b = name_eq-same a.0 b.0

-- equal entity types are found alike
pub entity_type_searches-respect_eq : (types : List EntityType) (a b : EntityType) → IsTrue ((entity_type_eq.ghosts).eq a b)
    → list_any ((entity_type_eq.ghosts).eq a) types ≡ list_any ((entity_type_eq.ghosts).eq b) types
entity_type_searches-respect_eq types a b same = list_any_congr entity_type_equal.Laws.laws-law a b types same

-- entity types order as their names
pub entity_type_ord-name_cmp : (a b : EntityType) → (entity_type_ord.ghosts).cmp a b ≡ name_cmp (type_name a) (type_name b)
entity_type_ord-name_cmp a b = name_ord-name_cmp a.0 b.0

-- entity types tie exactly where their names are the same
pub entity_type_ord-Equal : (a b : EntityType) → ((entity_type_ord.ghosts).cmp a b ≡ Equal) ↔ (type_name a ≡ type_name b)
entity_type_ord-Equal a b = name_ord-Equal a.0 b.0

-- the hash reads no more than the type's name
pub entity_type_hash-same : (a b : EntityType) → type_name a ≡ type_name b
    → (entity_type_hash.ghosts).hash_input a ≡ (entity_type_hash.ghosts).hash_input b
entity_type_hash-same a b e = entity_type_hash.Laws.respects_eq-law a b ((entity_type_eq-same a b).1 e)
