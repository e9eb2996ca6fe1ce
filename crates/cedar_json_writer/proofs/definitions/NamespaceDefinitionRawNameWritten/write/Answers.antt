use Rattle.std.proofs.Common.{Global, Some, String, refl, string_bytes}
use Rattle.std.proofs.lemmas.Result.{err_from_is_err_and}
use Rattle.cedar_ast.proofs.Basics.{OnOk-map}
use Rattle.cedar_json_writer.proofs.WritingLemmas.{checked}
use Rattle.cedar_json_writer.proofs.WrittenDefinitions.{action_flaw, common_type_flaw, declarations_free, definition_added, definition_free, entity_type_flaw}
use Rattle.cedar_json_writer.proofs.WrittenTypes.{id_key-read}
use Rattle.cedar_json_writer.proofs.definitions.NamespaceDefinitionRawNameWritten.write.Goals as goal
use Rattle.cedar_json_writer.specs.Words.{SoundAction, SoundBody, WrittenEntity, action_document, action_flaws, body_flaws, common_types_held, declared_members, entity_type_document, id_key, unreserved_id_text, written_action, written_actions, written_common_types, written_definition, written_entity, written_entity_types}
use Rattle.json.specs.Json.{object}

-- a flaw of an entity type is one of the definition
pub returns-in_err-write_field-clause-checked : goal.returns-in_err-write_field-clause-checked
returns-in_err-write_field-clause-checked c =
    let p = err_from_is_err_and c.from_residual-in_err-write_field.result c.from_residual-in_err-write_field.ensures.1 in
    rw (p.1, p.2) (entity_type_flaw (written_definition c.args.self.now) _ c.in_err-write_field.ensures.checked)

-- so is one of an action
pub returns-in_err-write_field-2-clause-checked : goal.returns-in_err-write_field-2-clause-checked
returns-in_err-write_field-2-clause-checked c =
    let p = err_from_is_err_and c.from_residual-in_err-write_field-2.result c.from_residual-in_err-write_field-2.ensures.1 in
    rw (p.1, p.2) (action_flaw (written_definition c.args.self.now) _ c.in_err-write_field-2.ensures.checked)

-- and one of a common type
pub returns-in_err-write_common_types-clause-checked : goal.returns-in_err-write_common_types-clause-checked
returns-in_err-write_common_types-clause-checked c =
    let p = err_from_is_err_and c.from_residual-in_err-write_common_types.result c.from_residual-in_err-write_common_types.ensures.1 in
    rw (p.1, p.2) (common_type_flaw (written_definition c.args.self.now) _ c.in_err-write_common_types.ensures.checked)

-- a definition is written as the object of its entity types, its actions, and its common types if
-- there are any
pub returns-clause-written : goal.returns-clause-written
returns-clause-written c =
    let it = c.args.self.now in
    OnOk-map c.close_object.result c.close_object.ensures.written
    (λ ended. definition_added c.args.out.now c.token.new.self c.write_field.new.out c.write_field-2.new.out c.write_common_types.new.out
    c.close_object.new.out (object (declared_members entity_type_document (written_entity_types it.entity_types)))
    (object (declared_members action_document (written_actions it.actions))) (common_types_held (written_common_types it.common_types))
    c.in_ok-token.ensures.ok c.in_ok-write_field.ensures.written c.in_ok-write_field-2.ensures.written
    c.in_ok-write_common_types.ensures.written ended)

-- where none of these had a flaw, the definition has none, and it is sound
pub returns-clause-checked : goal.returns-clause-checked
returns-clause-checked c =
    let it = c.args.self.now in
    checked c.close_object.result c.close_object.ensures.fault
    (definition_free (written_definition it) c.in_ok-write_common_types.ensures.checked
    (declarations_free unreserved_id_text written_entity id_key id_key-read (λ (entity : WrittenEntity). body_flaws entity.body)
    (λ (entity : WrittenEntity). SoundBody entity.body) it.entity_types.entries c.in_ok-write_field.ensures.checked)
    (declarations_free {K = String Global} string_bytes written_action Some (λ id. refl) action_flaws SoundAction it.actions.entries
    c.in_ok-write_field-2.ensures.checked))
