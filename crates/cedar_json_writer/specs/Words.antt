-- The words of clauses, from one place.
pub use Rattle.cedar_ast.specs.Eid.{eid_text}
pub use Rattle.cedar_ast.specs.Entity.{entity_ancestors, entity_attrs, entity_tags, entity_uid}
pub use Rattle.cedar_ast.specs.EntityUID.{uid_of}
pub use Rattle.cedar_ast.specs.Identifier.{is_identifier_text, reserved_word}
pub use Rattle.cedar_ast.specs.InternalName.{name_of}
pub use Rattle.cedar_ast.specs.Name.{plain_name}
pub use Rattle.cedar_ast.specs.NameText.{IsOfIdentifiers}
pub use Rattle.cedar_ast.specs.NonEmpty.{items_of}
pub use Rattle.cedar_ast.specs.PlainName.{IsReserved, PlainName, name_cmp, name_text}
pub use Rattle.cedar_ast.specs.PlainUid.{PlainUid}
pub use Rattle.cedar_ast.specs.RestrictedExpr.{entries_of, tree_of, tree_step, trees_of}
pub use Rattle.cedar_ast.specs.Text.{Text, text_cmp}
pub use Rattle.cedar_ast.specs.Tree.{Entries, Tree, Trees, call_value, entries_from, entry, entry_names, map_value, no_entry, no_tree, number_value, set_value, text_value, tree, truth_value, uid_value}
pub use Rattle.cedar_ast.specs.UidText.{uid_text}
pub use Rattle.cedar_ast.specs.UnreservedId.{unreserved_id_text}
pub use Rattle.cedar_ast.specs.Value.{value_expr}
pub use Rattle.cedar_ast.specs.declared.eid.Eid.{Eid}
pub use Rattle.cedar_ast.specs.declared.entity_uid.EntityUID.{EntityUID}
pub use Rattle.cedar_ast.specs.declared.name.Name.{Name}
pub use Rattle.cedar_ast.specs.declared.unreserved_id.UnreservedId.{UnreservedId}
pub use Rattle.cedar_ast.specs.declared.value.RestrictedExpr.{RestrictedExpr, fold-roll-RestrictedExpr, roll-RestrictedExpr}
pub use Rattle.cedar_ast.specs.declared.value.Value.{Value}
pub use Rattle.cedar_json.specs.ActionFormat.{WrittenAction, WrittenParent, action_by, action_of, optional, pairs_in, parent_by, parent_of, parents_of, requests_by, requests_of, written_action, written_pairs, written_parent, written_requests}
pub use Rattle.cedar_json.specs.DefinitionFormat.{WrittenDefinition, WrittenFragment, actions_in, common_key, common_type_of, common_types_in, definition_by, definition_of, entity_types_in, fragment_of, id_key, namespace_key, written_actions, written_common_types, written_definition, written_entity_types, written_fragment}
pub use Rattle.cedar_json.specs.EntityFormat.{WrittenEntity, at_least_one, choices_in, empty_record, entity_by, entity_of, entity_reference, parents_in, references_in, shape_in, standard_by, tags_in, written_entity, written_kind}
pub use Rattle.cedar_json.specs.Fields.{annotations_fit, flag_or, is_among}
pub use Rattle.cedar_json.specs.Lists.{all_of, field_or}
pub use Rattle.cedar_json.specs.TextFormat.{Describes, too_long}
pub use Rattle.cedar_json.specs.TypeFormat.{Attributes, if_so, type_with}
unfoldable pub use Rattle.cedar_json.specs.TypeFormat.{attribute_of, type_of}
pub use Rattle.cedar_json.specs.ValueFormat.{Pairs, call_of, record_of_pairs, sole_held, uid_by, uid_in}
unfoldable pub use Rattle.cedar_json.specs.ValueFormat.{pairs_of, value_of, values_of}
pub use Rattle.cedar_json.specs.WholeNumber.{is_long, whole_number}
pub use Rattle.cedar_json.specs.WrittenName.{if_unreserved, is_reserved, is_unreserved, plain_name_in, spelled_name}
pub use Rattle.cedar_json.specs.declared.fault.Row.TheVariants.{OfAttribute, OfCommonType, OfType}
pub use Rattle.cedar_json.specs.declared.text_reading.JsonSchemaFault.{JsonSchemaFault}
pub use Rattle.cedar_json.specs.declared.text_reading.JsonSchemaFault.TheVariants.{Memory, NotJson, NotUtf8, OutOfShape, TooLong, TwiceInObject}
pub use Rattle.cedar_schema_ast.specs.ActionBody.{Requests, elsewhere, requests}
pub use Rattle.cedar_schema_ast.specs.CommonTypeId.{common_type_text}
pub use Rattle.cedar_schema_ast.specs.EntityBody.{EntityBody, enumerated, external, standard}
pub use Rattle.cedar_schema_ast.specs.Expr.{Expr, extension_expr, long_expr, members_from, named, record_expr, set_expr, text_expr, truth_expr}
pub use Rattle.cedar_schema_ast.specs.PlainMembers.{plain_members}
pub use Rattle.cedar_schema_ast.specs.RawExpr.{raw_attribute, raw_expr, raw_record, raw_reference, raw_variant}
pub use Rattle.cedar_schema_ast.specs.RawName.{raw_name}
pub use Rattle.cedar_schema_ast.specs.Reference.{Reference, reference_to}
pub use Rattle.cedar_schema_ast.specs.declared.json_schema.action_type.ActionEntityUID.{ActionEntityUID}
pub use Rattle.cedar_schema_ast.specs.declared.json_schema.common_type_id.CommonTypeId.{CommonTypeId}
pub use Rattle.cedar_schema_ast.specs.declared.json_schema.fragment.CommonType.{CommonType}
pub use Rattle.cedar_schema_ast.specs.declared.json_schema.fragment.Fragment.{Fragment}
pub use Rattle.cedar_schema_ast.specs.declared.json_schema.fragment.NamespaceDefinition.{NamespaceDefinition}
pub use Rattle.cedar_schema_ast.specs.declared.json_schema.raw_name.RawName.{RawName}
pub use Rattle.cedar_schema_ast.specs.declared.json_schema.reference_type.ReferenceType.{ReferenceType}
pub use Rattle.cedar_schema_ast.specs.declared.json_schema.reference_type.ReferenceType.TheVariants.{Common, CommonOrEntity, Entity}
pub use Rattle.cedar_schema_ast.specs.declared.json_schema.type_of.RecordType.{out-RecordType}
pub use Rattle.cedar_schema_ast.specs.declared.json_schema.type_of.TypeOfAttribute.{TypeOfAttribute}
pub use Rattle.cedar_schema_ast.specs.declared.json_schema.type_of.TypeVariant.{TypeVariant}
pub use Rattle.json.specs.Layout.{pretty}
pub use Rattle.json.specs.Tree.{json_tokens}
pub use Rattle.cedar_json_writer.specs.EntityDocument.{entity_document, entity_flaws, request_document, tags_held, uid_array}
pub use Rattle.cedar_json_writer.specs.Flaws.{Flaw, IsWritable, action_flaws, arguments, arity_flaws, body_flaws, count, declared_flaws, definition_flaws, flaws_in, fragment_flaws, key_flaws, lone_key, nesting, nesting_flaws, pairs_flaws, parts_flaws, reference_flaws, requests_flaws, type_word, type_words, value_keys}
unfoldable pub use Rattle.cedar_json_writer.specs.Flaws.{attributes_flaws, entries_flaws, type_flaws, value_flaws, values_flaws}
pub use Rattle.cedar_json_writer.specs.FragmentDocument.{action_document, body_members, common_types_held, declared_members, definition_document, entity_type_document, fragment_document, namespace_text, pairs_document, parent_array, parent_document, parents_held, reference_array, requests_document}
pub use Rattle.cedar_json_writer.specs.Sound.{Each, IfThere, IsPlain, IsWrittenEntity, SoundAction, SoundBody, SoundDeclarations, SoundDefinition, SoundFragment, SoundPairs, SoundParent, SoundRequests, attribute_names}
unfoldable pub use Rattle.cedar_json_writer.specs.Sound.{SoundAttributes, SoundEntries, SoundType, SoundValue, SoundValues}
pub use Rattle.cedar_json_writer.specs.TypeDocument.{attribute_document, form_opening, is_empty_record, reference_members, reference_text, shape_held, type_document}
unfoldable pub use Rattle.cedar_json_writer.specs.TypeDocument.{attribute_members, type_members}
pub use Rattle.cedar_json_writer.specs.ValueDocument.{call_opening, uid_document}
unfoldable pub use Rattle.cedar_json_writer.specs.ValueDocument.{value_document, value_items, value_members}
pub use Rattle.cedar_json_writer.specs.Writing.{AddsField, AddsFields, AddsMembers, AddsValue, IsChecked, IsFlawOf, IsFree, flaw_of}
pub use Rattle.cedar_json_writer.specs.WrittenFields.{flag_held, keyed_members, optional_member, text_array}
pub use Rattle.cedar_json_writer.specs.declared.fault.Unwritable.{Unwritable}
pub use Rattle.cedar_json_writer.specs.declared.fault.Unwritable.TheVariants.{Arguments, TooDeep}
pub use Rattle.cedar_json_writer.specs.declared.fault.WriteFault.{WriteFault}
