-- Entries of maps, against what their keys stand for.
use Rattle.std.proofs.Common.{◌≡◌, ◌↔◌, IsTrue, Bool, List, is_some, map, sym, ◌∙◌, Contains}
use Rattle.std.proofs.lemmas.Map.Made.{is_some-lookup}
use Rattle.std.specs.BTreeMap.{is_at}
use Rattle.std.specs.Map.{keys_of, lookup}
use Rattle.cedar_ast.proofs.Lists.{list_any-Contains}
use Rattle.cedar_ast.proofs.Names.{entity_type_ord-Equal}
use Rattle.cedar_ast.proofs.Uids.{entity_uid_ord-Equal}
use Rattle.cedar_ast.specs.contracts.entity_type.EntityTypeOrd.TheImpl as entity_type_ord
use Rattle.cedar_ast.specs.contracts.entity_uid.EntityUIDOrd.TheImpl as entity_uid_ord
use Rattle.cedar_ast.specs.declared.entity_type.EntityType.{EntityType}
use Rattle.cedar_schema_elements.proofs.AncestorLemmas.{key_tie}
use Rattle.cedar_schema_elements.proofs.KeyLemmas.{names_of_keys}
use Rattle.cedar_schema_writer.specs.Words.{Actions, EntityUID, Types, plain_action_entry, plain_entry, type_name, uid_of}

-- something is found exactly where some key stands for the name
pub found-key : {K V P : Type 0} (f : K → P) (test : K → Bool) (name : P) → ((key : K) → IsTrue (test key) ↔ (f key ≡ name))
    → (es : List (K × V)) → IsTrue (is_some (lookup test es)) ↔ Contains (map f (keys_of es)) name
found-key f test name decides es =
    let any = list_any-Contains f name test decides (keys_of es) in (
      λ there. any.0 (sym (is_some-lookup test es) ∙ there),
      λ among. is_some-lookup test es ∙ any.1 among,
    )

module _ {K V P Q : Type 0} (f : K → P) (plain : K × V → P × Q) (keyed : (e : K × V) → (plain e).0 ≡ f e.0) where
  -- something is found exactly where the name is one of them
  pub found-named : (test : K → Bool) (name : P) → ((key : K) → IsTrue (test key) ↔ (f key ≡ name)) → (es : List (K × V))
      → IsTrue (is_some (lookup test es)) ↔ Contains (map (λ (it : P × Q). it.0) (map plain es)) name
  found-named test name decides es =
      let found = found-key f test name decides es in (
        λ there. rw (names_of_keys f plain keyed es) (found.0 there),
        λ among. found.1 (rw (names_of_keys f plain keyed es) at among),
      )

-- entity types tie where they have one name
pub type_tie : (key other : EntityType) → IsTrue (is_at ((entity_type_ord.ghosts).cmp key) other) ↔ (type_name other ≡ type_name key)
type_tie = key_tie ((entity_type_ord.ghosts).cmp) type_name entity_type_ord-Equal

-- uids tie where they stand for one uid
pub uid_tie : (key other : EntityUID) → IsTrue (is_at ((entity_uid_ord.ghosts).cmp key) other) ↔ (uid_of other ≡ uid_of key)
uid_tie = key_tie ((entity_uid_ord.ghosts).cmp) uid_of entity_uid_ord-Equal

-- an entity type is found exactly where its name is one of them
pub type_found : (types : Types) (key : EntityType) → IsTrue (is_some (lookup (is_at ((entity_type_ord.ghosts).cmp key)) types))
    ↔ Contains (map (λ it. it.0) (map plain_entry types)) (type_name key)
type_found types key =
    found-named type_name plain_entry (λ e i. type_name e.0) (is_at ((entity_type_ord.ghosts).cmp key)) (type_name key) (type_tie key) types

-- an action is found exactly where its uid is one of them
pub action_found : (actions : Actions) (key : EntityUID) → IsTrue (is_some (lookup (is_at ((entity_uid_ord.ghosts).cmp key)) actions))
    ↔ Contains (map (λ it. it.0) (map plain_action_entry actions)) (uid_of key)
action_found actions key =
    found-named uid_of plain_action_entry (λ e i. uid_of e.0) (is_at ((entity_uid_ord.ghosts).cmp key)) (uid_of key) (uid_tie key) actions
