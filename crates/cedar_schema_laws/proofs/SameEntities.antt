-- Schemas with the same actions have the same entities of actions.
use Rattle.std.proofs.Common.{◌≡◌, subst, sym, ◌∙◌, map, Contains}
use Rattle.cedar_ast.proofs.PlainNames.{uid_cmp-total}
use Rattle.cedar_schema_laws.proofs.SchemaLaws.{keys_included, same_pairwise, same_items}
use Rattle.cedar_schema_laws.specs.Words.{ActionEntity, AreActionEntities, DefinesAction, HoldsPairwise, IsEntityOfAction, ListsDescendantAction, PlainSchema, PlainUid, SameAction, SameActionEntity, uid_cmp}
use Rattle.cedar_schema_semantics.proofs.SameActions.{action_back, defined_like}
use Rattle.cedar_schema_semantics.proofs.TurnLemmas.{turn_forth, turn_back}
use Rattle.cedar_type_rules.proofs.AntisymmetryLaws.{Included-same}

-- where the actions of the one schema are those of the other in turn
module _ (schema other : PlainSchema) (same : HoldsPairwise SameAction schema.actions other.actions) where
  -- what the one defines the other defines
  defines_there : (uid : PlainUid) → DefinesAction schema uid → DefinesAction other uid
  defines_there uid defines =
      let found = turn_forth SameAction schema.actions other.actions same (uid, defines.0) defines.1 in
      let Listed : PlainUid → Type 0 = λ key. Contains other.actions (key, found.0.1) in
      (found.0.1, subst Listed (sym found.2.key) found.1, defined_like defines.0.kind found.0.1.kind found.2.kind defines.2)

  -- what the one lists the other lists
  lists_there : (lower upper : PlainUid) → ListsDescendantAction schema lower upper → ListsDescendantAction other lower upper
  lists_there lower upper lists =
      let found = turn_forth SameAction schema.actions other.actions same (upper, lists.0) lists.1 in
      let Listed : PlainUid → Type 0 = λ key. Contains other.actions (key, found.0.1) in
      (found.0.1, subst Listed (sym found.2.key) found.1, (found.2.descendants lower).0 lists.2)

-- the entity of an action of the one schema is one of the other
entity_there : (schema other : PlainSchema) → HoldsPairwise SameAction schema.actions other.actions → (it : ActionEntity)
    → IsEntityOfAction schema it → IsEntityOfAction other it
entity_there schema other same it is =
    let back = turn_back SameAction SameAction action_back schema.actions other.actions same in
    record {
      defined = defines_there schema other same it.uid is.defined;
      attributes = is.attributes;
      tags = is.tags;
      ancestors = λ upper. (
        λ among. lists_there schema other same it.uid upper ((is.ancestors upper).0 among),
        λ lists. (is.ancestors upper).1 (lists_there other schema back it.uid upper lists),
      );
    }

-- the entities of one action are the same
one_entity : (schema : PlainSchema) (it other : ActionEntity) → it.uid ≡ other.uid → IsEntityOfAction schema it
    → IsEntityOfAction schema other → SameActionEntity it other
one_entity schema it other same first second =
    record {
      uid = same;
      attributes = first.attributes ∙ sym second.attributes;
      tags = first.tags ∙ sym second.tags;
      ancestors = same_items (ListsDescendantAction schema it.uid) it.ancestors other.ancestors first.ancestors
          (rw same second.ancestors);
    }

-- schemas with the same actions have the same entities of actions, where each has those of its
-- actions
pub same_entities : (schema other : PlainSchema) → AreActionEntities schema → AreActionEntities other
    → HoldsPairwise SameAction schema.actions other.actions → HoldsPairwise SameActionEntity schema.action_entities other.action_entities
same_entities schema other ours theirs same =
    let back = turn_back SameAction SameAction action_back schema.actions other.actions same in
    let key = λ (it : ActionEntity). it.uid in
    let keys = Included-same uid_cmp uid_cmp-total (map key schema.action_entities) (map key other.action_entities)
    ours.in_order theirs.in_order (keys_included key (DefinesAction schema) schema.action_entities other.action_entities
    (λ it among. (ours.entities it among).defined) (λ uid defines. theirs.each uid (defines_there schema other same uid defines)))
    (keys_included key (DefinesAction other) other.action_entities schema.action_entities
    (λ it among. (theirs.entities it among).defined) (λ uid defines. ours.each uid (defines_there other schema back uid defines))) in
    same_pairwise key (IsEntityOfAction schema) SameActionEntity (one_entity schema) schema.action_entities
    other.action_entities keys ours.entities (λ it among. entity_there other schema back it (theirs.entities it among))
