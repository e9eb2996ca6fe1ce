-- Comparisons of uids, by the plain uids that they stand for.
use Rattle.std.proofs.Common.{◌≡◌, ◌↔◌, IsTrue, List, ap}
use Rattle.std.proofs.lemmas.Bool.Decides.{Decides-and, Decides-like}
use Rattle.std.proofs.lemmas.Map.Steps.{list_any_congr}
use Rattle.std.specs.List.{list_any}
use Rattle.std.specs.Ordering.{ordering_then}
use Rattle.std.specs.declared.cmp.Ordering.TheVariants.{Equal}
use Rattle.cedar_ast.proofs.Ids.{eid_eq-same}
use Rattle.cedar_ast.proofs.Names.{entity_type_eq-same, entity_type_ord-name_cmp}
use Rattle.cedar_ast.proofs.PlainNames.{uid_cmp-Equal}
use Rattle.cedar_ast.specs.Words.{EntityUID, PlainUid, eid_text, text_cmp, uid_cmp, uid_of}
use Rattle.cedar_ast.specs.contracts.entity_uid.EntityUIDEq.TheImpl as entity_uid_equal
use Rattle.cedar_ast.specs.contracts.entity_uid.EntityUIDHash.TheImpl as entity_uid_hash
use Rattle.cedar_ast.specs.contracts.entity_uid.EntityUIDOrd.TheImpl as entity_uid_ord
use Rattle.cedar_ast.specs.contracts.entity_uid.EntityUIDPartialEq.TheImpl as entity_uid_eq

-- uids are equal exactly where they stand for the same uid
pub entity_uid_eq-same : (a b : EntityUID) → IsTrue ((entity_uid_eq.ghosts).eq a b) ↔ (uid_of a ≡ uid_of b)
entity_uid_eq-same a b =
    Decides-like
    _ (λ both i. record { ty = both.0 i; eid = both.1 i })
    (λ e. (ap (λ (uid : PlainUid). uid.ty) e, ap (λ (uid : PlainUid). uid.eid) e))
    (Decides-and _ _ (entity_type_eq-same a.ty b.ty) (eid_eq-same a.eid.value b.eid.value))

-- equal uids are found alike
pub entity_uid_searches-respect_eq : (uids : List EntityUID) (a b : EntityUID) → IsTrue ((entity_uid_eq.ghosts).eq a b)
    → list_any ((entity_uid_eq.ghosts).eq a) uids ≡ list_any ((entity_uid_eq.ghosts).eq b) uids
entity_uid_searches-respect_eq uids a b same = list_any_congr entity_uid_equal.Laws.laws-law a b uids same

-- uids order as what they stand for
pub entity_uid_ord-uid_cmp : (a b : EntityUID) → (entity_uid_ord.ghosts).cmp a b ≡ uid_cmp (uid_of a) (uid_of b)
entity_uid_ord-uid_cmp a b =
    ap (λ types. ordering_then types (text_cmp (eid_text a.eid.value) (eid_text b.eid.value))) (entity_type_ord-name_cmp a.ty b.ty)

-- uids tie exactly where they stand for the same uid
pub entity_uid_ord-Equal : (a b : EntityUID) → ((entity_uid_ord.ghosts).cmp a b ≡ Equal) ↔ (uid_of a ≡ uid_of b)
entity_uid_ord-Equal a b = rw (entity_uid_ord-uid_cmp a b) (uid_cmp-Equal (uid_of a) (uid_of b))

-- the hash reads no more than what the uid stands for
pub entity_uid_hash-same : (a b : EntityUID) → uid_of a ≡ uid_of b
    → (entity_uid_hash.ghosts).hash_input a ≡ (entity_uid_hash.ghosts).hash_input b
entity_uid_hash-same a b e = entity_uid_hash.Laws.respects_eq-law a b ((entity_uid_eq-same a b).1 e)
