use Rattle.std.proofs.Common.{Contains, ap, refl}
use Rattle.std.proofs.lemmas.List.Elements.{All-nil}
use Rattle.cedar_schema_elements.proofs.AncestorLemmas.{node_plain}
use Rattle.cedar_schema_writer.proofs.Refusals.{refusal_passed}
use Rattle.cedar_schema_writer.proofs.Whole.{action_writable, no_action, parts_writable, parts_written, type_writable}
use Rattle.cedar_schema_writer.proofs.fragment.json_schema.Goals as goal
use Rattle.cedar_schema_writer.proofs.fragment.json_schema.Goals.{In_ok-action_types}
use Rattle.cedar_schema_writer.specs.Words.{IsProper, Known, SchemaAction, SchemaEntityType, ValidatorActionId, ValidatorEntityType, action_of, definitions_bag, descendant_names, known_schema, plain_action_entry, plain_entry, type_name, uid_of}

-- what is known, once the types of the actions are collected
abbrev known : In_ok-action_types → Known
known c = record {
  alloc = c.args.alloc;
  entity_types = c.args.entity_types;
  actions = c.args.actions;
  action_types = record { ref_ptr = c.args.entity_types.ref_ptr; now = c.in_ok-action_types.action_types };
}

pub write_entity_types-requires-clause-ancestors : goal.write_entity_types-requires-clause-ancestors
write_entity_types-requires-clause-ancestors c = λ key above.
    let lists = node_plain type_name (λ (it : ValidatorEntityType). Contains (descendant_names it) (type_name key)) plain_entry
    (λ (it : SchemaEntityType). Contains it.descendants (type_name key)) (λ e. refl) (λ e. (λ is. is, λ is. is))
    c.args.entity_types.now.entries above in
    let stands = c.in_ok-type_ancestors.ensures key above in (λ upper. lists.0 (stands.0 upper), λ of. stands.1 (lists.1 of))

pub write_actions-requires-clause-ancestors : goal.write_actions-requires-clause-ancestors
write_actions-requires-clause-ancestors c = λ key above.
    let lists = node_plain uid_of (λ (it : ValidatorActionId). Contains (action_of it).descendants (uid_of key)) plain_action_entry
    (λ (it : SchemaAction). Contains it.descendants (uid_of key)) (λ e. refl) (λ e. (λ is. is, λ is. is))
    c.args.actions.now.entries above in
    let stands = c.in_ok-action_ancestors.ensures key above in (λ upper. lists.0 (stands.0 upper), λ of. stands.1 (lists.1 of))

pub returns-in_err-write_entity_types-clause-refusal : goal.returns-in_err-write_entity_types-clause-refusal
returns-in_err-write_entity_types-clause-refusal c =
    let known = known (goal.at.returns-in_err-write_entity_types-clause-refusal c).In_ok-action_types in
    refusal_passed _ _ c.from_residual-in_err-write_entity_types.ensures.1 c.in_err-write_entity_types.ensures.refusal
    (λ some entities writable. some.2 (type_writable known c.in_ok-action_types.ensures entities writable some.0 some.1))

pub returns-in_err-write_actions-clause-refusal : goal.returns-in_err-write_actions-clause-refusal
returns-in_err-write_actions-clause-refusal c =
    let known = known (goal.at.returns-in_err-write_actions-clause-refusal c).In_ok-action_types in
    refusal_passed _ _ c.from_residual-in_err-write_actions.ensures.1 c.in_err-write_actions.ensures.refusal
    (λ some entities writable. some.2 (action_writable known c.in_ok-action_types.ensures entities writable some.0 some.1))

pub write_actions-requires-clause-none : goal.write_actions-requires-clause-none
write_actions-requires-clause-none c =
    no_action (known_schema (known (goal.at.write_actions-requires-clause-none c).In_ok-action_types))
    (definitions_bag c.new-definitions.result.entries) (definitions_bag c.write_entity_types.new.definitions.entries)
    (ap definitions_bag c.new-definitions.ensures.empty) c.in_ok-write_entity_types.ensures.put

pub returns-clause-writable : goal.returns-clause-writable
returns-clause-writable c = λ entities.
    parts_writable (known (goal.at.returns-clause-writable c).In_ok-action_types) c.in_ok-action_types.ensures entities
    c.in_ok-write_entity_types.ensures.sound c.in_ok-write_actions.ensures.sound

pub returns-clause-written : goal.returns-clause-written
returns-clause-written c = λ entities.
    parts_written (known (goal.at.returns-clause-written c).In_ok-action_types) entities
    (definitions_bag c.new-definitions.result.entries) (definitions_bag c.write_entity_types.new.definitions.entries)
    (definitions_bag c.write_actions.new.definitions.entries) (ap definitions_bag c.new-definitions.ensures.empty)
    c.in_ok-write_entity_types.ensures.put c.in_ok-write_actions.ensures.put

pub returns-clause-definitions : goal.returns-clause-definitions
returns-clause-definitions c =
    c.in_ok-write_actions.ensures.proper (c.in_ok-write_entity_types.ensures.proper (rw c.new-definitions.ensures.empty (All-nil IsProper)))
