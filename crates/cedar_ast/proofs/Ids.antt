-- Comparisons of identifiers and of entity ids, by their texts.
use Rattle.std.proofs.Common.{◌≡◌, ◌↔◌, IsTrue, refl}
use Rattle.std.specs.declared.cmp.Ordering.TheVariants.{Equal}
use Rattle.cedar_ast.proofs.Texts.{text_cmp-Equal, text_eq-Decides}
use Rattle.cedar_ast.specs.Words.{Eid, Id, UnreservedId, eid_text, id_text, text_cmp, unreserved_id_text}
use Rattle.cedar_ast.specs.contracts.eid.EidHash.TheImpl as eid_hash
use Rattle.cedar_ast.specs.contracts.eid.EidOrd.TheImpl as eid_ord
use Rattle.cedar_ast.specs.contracts.eid.EidPartialEq.TheImpl as eid_eq
use Rattle.cedar_ast.specs.contracts.id.IdHash.TheImpl as id_hash
use Rattle.cedar_ast.specs.contracts.id.IdOrd.TheImpl as id_ord
use Rattle.cedar_ast.specs.contracts.id.IdPartialEq.TheImpl as id_eq
use Rattle.cedar_ast.specs.contracts.unreserved_id.UnreservedIdHash.TheImpl as unreserved_id_hash
use Rattle.cedar_ast.specs.contracts.unreserved_id.UnreservedIdOrd.TheImpl as unreserved_id_ord
use Rattle.cedar_ast.specs.contracts.unreserved_id.UnreservedIdPartialEq.TheImpl as unreserved_id_eq

-- identifiers are equal exactly where their texts are
pub id_eq-same : (a b : Id) → IsTrue ((id_eq.ghosts).eq a b) ↔ (id_text a ≡ id_text b)
id_eq-same a b = text_eq-Decides (id_text a) (id_text b)

-- identifiers order by their texts
pub id_ord-text_cmp : (a b : Id) → (id_ord.ghosts).cmp a b ≡ text_cmp (id_text a) (id_text b)
id_ord-text_cmp a b = refl

-- the hash reads the text alone
pub id_hash-same : (a b : Id) → id_text a ≡ id_text b → (id_hash.ghosts).hash_input a ≡ (id_hash.ghosts).hash_input b
id_hash-same a b e = id_hash.Laws.respects_eq-law a b ((id_eq-same a b).1 e)

-- identifiers that aren't reserved are equal exactly where their texts are
pub unreserved_id_eq-same : (a b : UnreservedId) → IsTrue ((unreserved_id_eq.ghosts).eq a b) ↔ (unreserved_id_text a ≡ unreserved_id_text b)
unreserved_id_eq-same a b = text_eq-Decides (unreserved_id_text a) (unreserved_id_text b)

-- identifiers that aren't reserved order by their texts
pub unreserved_id_ord-text_cmp : (a b : UnreservedId) → (unreserved_id_ord.ghosts).cmp a b
    ≡ text_cmp (unreserved_id_text a) (unreserved_id_text b)
unreserved_id_ord-text_cmp a b = refl

-- identifiers that aren't reserved tie exactly where their texts are equal
pub unreserved_id_ord-Equal : (a b : UnreservedId) → ((unreserved_id_ord.ghosts).cmp a b ≡ Equal)
    ↔ (unreserved_id_text a ≡ unreserved_id_text b)
unreserved_id_ord-Equal a b = text_cmp-Equal (unreserved_id_text a) (unreserved_id_text b)

-- the hash reads the text alone
pub unreserved_id_hash-same : (a b : UnreservedId) → unreserved_id_text a ≡ unreserved_id_text b
    → (unreserved_id_hash.ghosts).hash_input a ≡ (unreserved_id_hash.ghosts).hash_input b
unreserved_id_hash-same a b e = unreserved_id_hash.Laws.respects_eq-law a b ((unreserved_id_eq-same a b).1 e)

-- entity ids are equal exactly where their texts are
pub eid_eq-same : (a b : Eid) → IsTrue ((eid_eq.ghosts).eq a b) ↔ (eid_text a ≡ eid_text b)
eid_eq-same a b = text_eq-Decides (eid_text a) (eid_text b)

-- entity ids order by their texts
pub eid_ord-text_cmp : (a b : Eid) → (eid_ord.ghosts).cmp a b ≡ text_cmp (eid_text a) (eid_text b)
eid_ord-text_cmp a b = refl

-- the hash reads the text alone
pub eid_hash-same : (a b : Eid) → eid_text a ≡ eid_text b → (eid_hash.ghosts).hash_input a ≡ (eid_hash.ghosts).hash_input b
eid_hash-same a b e = eid_hash.Laws.respects_eq-law a b ((eid_eq-same a b).1 e)
