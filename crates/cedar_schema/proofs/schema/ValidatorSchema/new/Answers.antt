use Rattle.std.proofs.Common.{ap, map, ◌∙◌}
use Rattle.std.proofs.lemmas.Result.{IfOk-weaker}
use Rattle.std.specs.BTreeMap.{is_at}
use Rattle.std.specs.Map.{lookup}
use Rattle.cedar_schema.proofs.SchemaKeys.{keys_given}
use Rattle.cedar_schema.proofs.SchemaNames.{schema_under_names}
use Rattle.cedar_schema.proofs.schema.ValidatorSchema.new.Goals as goal
use Rattle.cedar_schema.specs.Words.{common_entries, last_named, last_of_uid, name_cmp, namespace_entries, plain_action_entry, type_name, uid_cmp, uid_of}
use Rattle.cedar_schema_elements.specs.Words.{listed_entities}

-- each entity type is under its own name, and each action under its own uid
pub from_parts-requires-clause-under_names : goal.from_parts-requires-clause-under_names
from_parts-requires-clause-under_names g c =
    schema_under_names c.in_ok-entity_types.entity_types.entries c.in_ok-actions.actions.entries
    (listed_entities (map plain_action_entry c.in_ok-actions.actions.entries)) c.in_ok-entity_types.ensures.under_names c.in_ok-actions.ensures.under_uids

-- the lists are all that the iterators give, the last of a name counts, and no fragments are shown
pub returns : goal.returns
returns g c =
    let types = c.in_ok-from_iter.ensures.ran in
    let types_end = types.3.2 tt in
    let actions = c.in_ok-from_iter-2.ensures.ran in
    let actions_end = actions.3.2 tt in
    record {
      entity_types =
          IfOk-weaker c.from_parts.result _ _
          (λ schema same. (
            types.0,
            types.1,
            types.2,
            (types_end.0, (types.3.0, types.3.1, types_end.1)),
            λ name. ap (lookup (is_at (λ key. name_cmp (type_name name) (type_name key)))) same
                ∙ (c.in_ok-entity_types.ensures.last name ∙ ap (last_named (type_name name)) types.4.0),
          ))
          c.from_parts.ensures.entity_types;
      actions =
          IfOk-weaker c.from_parts.result _ _
          (λ schema same. (
            actions.0,
            actions.1,
            actions.2,
            (actions_end.0, (actions.3.0, actions.3.1, actions_end.1)),
            λ uid. ap (lookup (is_at (λ key. uid_cmp (uid_of uid) (uid_of key)))) same
                ∙ (c.in_ok-actions.ensures.last uid ∙ ap (last_of_uid (uid_of uid)) actions.4.0),
          ))
          c.from_parts.ensures.actions;
      common_types =
          IfOk-weaker c.from_parts.result _ _ (λ schema same. ap common_entries (same ∙ c.in_ok-new.ensures) ∙ c.nothing.ensures.common_types)
          c.from_parts.ensures.located;
      namespaces =
          IfOk-weaker c.from_parts.result _ _ (λ schema same. ap namespace_entries (same ∙ c.in_ok-new.ensures) ∙ c.nothing.ensures.namespaces)
          c.from_parts.ensures.located;
      keys = keys_given _ c.from_parts.result c.from_parts.ensures.located;
    }

-- the keys of both tables are located as in what stands under them
pub from_parts-requires-clause-keys : goal.from_parts-requires-clause-keys
from_parts-requires-clause-keys g c = record {
  of_types = c.in_ok-entity_types.ensures.located;
  of_actions = c.in_ok-actions.ensures.located;
}
