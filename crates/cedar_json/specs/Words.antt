-- The words of clauses, from one place.
pub use Rattle.cedar_ast.specs.CoreSchemaType.{core_ty_of}
pub use Rattle.cedar_ast.specs.Eid.{eid_text}
pub use Rattle.cedar_ast.specs.EntityUID.{uid_of}
pub use Rattle.cedar_ast.specs.Extensions.{extension_types, function_named}
pub use Rattle.cedar_ast.specs.Identifier.{IsIdentifier, begins_identifier, is_identifier_byte, is_identifier_start, is_identifier_text, reserved_word}
pub use Rattle.cedar_ast.specs.InternalName.{name_of}
pub use Rattle.cedar_ast.specs.Joined.{joined}
pub use Rattle.cedar_ast.specs.Name.{plain_name}
pub use Rattle.cedar_ast.specs.NameFault.{IsNameFault}
pub use Rattle.cedar_ast.specs.NameText.{IsNameText, IsOfIdentifiers, IsReservedNameText}
pub use Rattle.cedar_ast.specs.NonEmpty.{items_of}
pub use Rattle.cedar_ast.specs.PlainName.{IsReserved, PlainName, name_cmp, name_text}
pub use Rattle.cedar_ast.specs.RestrictedExpr.{tree_of, tree_step, trees_of}
pub use Rattle.cedar_ast.specs.Text.{Text, text_cmp}
pub use Rattle.cedar_ast.specs.Tree.{Tree, Trees, call_value, no_tree, number_value, set_value, text_value, tree, truth_value, uid_value}
pub use Rattle.cedar_ast.specs.TypeNames.{TypeNamesFit}
pub use Rattle.cedar_ast.specs.UnreservedId.{unreserved_id_text}
pub use Rattle.cedar_ast.specs.Value.{value_expr}
pub use Rattle.cedar_ast.specs.declared.extension.ExtensionFunction.{ExtensionFunction}
pub use Rattle.cedar_ast.specs.declared.internal_name.InternalName.{InternalName}
pub use Rattle.cedar_ast.specs.declared.loc.Loc.{Loc}
pub use Rattle.cedar_ast.specs.declared.name.Name.{Name}
pub use Rattle.cedar_ast.specs.declared.name_fault.NameFault.{NameFault}
pub use Rattle.cedar_ast.specs.declared.name_fault.NameFault.TheVariants.{NoCommonType, NotAName, Reserved}
pub use Rattle.cedar_ast.specs.declared.unreserved_id.UnreservedId.{UnreservedId}
pub use Rattle.cedar_ast.specs.declared.value.RestrictedExpr.{RestrictedExpr, fold-roll-RestrictedExpr, roll-RestrictedExpr}
pub use Rattle.cedar_schema_ast.specs.ActionBody.{Requests}
pub use Rattle.cedar_schema_ast.specs.CommonTypeId.{common_type_text}
pub use Rattle.cedar_schema_ast.specs.Expr.{Expr, members_from, record_expr, set_expr}
pub use Rattle.cedar_schema_ast.specs.PlainMembers.{plain_members}
pub use Rattle.cedar_schema_ast.specs.RawExpr.{raw_attribute, raw_expr, raw_record, raw_reference, raw_variant}
pub use Rattle.cedar_schema_ast.specs.RawName.{raw_name}
pub use Rattle.cedar_schema_ast.specs.Reference.{Reference}
pub use Rattle.cedar_schema_ast.specs.ReservedTypeWord.{reserved_type_words}
pub use Rattle.cedar_schema_ast.specs.TypeExpr.{attribute_step, record_step, type_step, variant_step}
pub use Rattle.cedar_schema_ast.specs.declared.json_schema.common_type_id.CommonTypeId.{CommonTypeId}
pub use Rattle.cedar_schema_ast.specs.declared.json_schema.raw_name.RawName.{RawName}
pub use Rattle.cedar_schema_ast.specs.declared.json_schema.reference_type.ReferenceType.TheVariants.{Common, Entity}
pub use Rattle.cedar_schema_ast.specs.declared.json_schema.type_of.RecordType.{roll-RecordType}
pub use Rattle.cedar_schema_ast.specs.declared.json_schema.type_of.Type.{«Type»}
pub use Rattle.cedar_schema_ast.specs.declared.json_schema.type_of.TypeOfAttribute.{TypeOfAttribute, fold-roll-TypeOfAttribute, roll-TypeOfAttribute}
pub use Rattle.cedar_json.specs.ActionFormat.{WrittenAction, WrittenParent, action_by, action_of, optional, pairs_in, parent_of, parents_of, requests_of, unless_null, written_action, written_parent, written_requests}
pub use Rattle.cedar_json.specs.CedarExtensions.{Signature, cedar_function, cedar_type_names, signature, signatures, unqualified}
pub use Rattle.cedar_json.specs.DefinitionFormat.{IsEntryPut, WrittenDefinition, WrittenFragment, actions_in, common_key, common_type_of, common_types_in, definition_by, definition_of, entity_types_in, entries_in, entries_of, fragment_of, id_key, namespace_key, written_common_types, written_definition, written_fragment}
pub use Rattle.cedar_json.specs.EntityFormat.{WrittenEntity, at_least_one, body_by, choices_in, empty_record, entity_of, entity_reference, shape_in, standard_of, written_entity, written_kind}
pub use Rattle.cedar_json.specs.ExtensionRows.{AreKinds, AreNames, AreRows, IsKind, IsRow, SpellsName, inserted, kind_type, row_signature}
pub use Rattle.cedar_json.specs.Fields.{IsOther, annotations_fit, are_annotations, flag_or, further_fields, has_only, is_among, is_text_or_null, keys_among, known_fields, nth_member, own_fields, text_held, texts_of, type_fields, type_word}
pub use Rattle.cedar_json.specs.Lists.{all_of, field_or}
pub use Rattle.cedar_json.specs.MapBuilder.{IsAscending, all_put}
pub use Rattle.cedar_json.specs.Place.{IsFault, IsTrueOf, member_at, step_into}
unfoldable pub use Rattle.cedar_json.specs.Place.{IsFaultAt}
pub use Rattle.cedar_json.specs.Reading.{IsPutUnder, IsReadFrom, IsReadWhere, IsSeenFrom}
pub use Rattle.cedar_json.specs.Repeats.{IsRepeatIn, IsRepeated}
pub use Rattle.cedar_json.specs.TextFormat.{Describes, IsFaultOf, too_long}
pub use Rattle.cedar_json.specs.TypeFormat.{Attributes, additional_field, attribute_by, attributes_field, element_field, extension_in, if_so, later_field, record_of, reference_in, type_by, type_by_word, type_with}
unfoldable pub use Rattle.cedar_json.specs.TypeFormat.{attribute_of, attributes_held, attributes_in, attributes_of, element_of, type_of}
pub use Rattle.cedar_json.specs.ValueFormat.{Pairs, call_by, call_of, object_by, record_of_pairs, sole_held, uid_in}
unfoldable pub use Rattle.cedar_json.specs.ValueFormat.{argument_of, call_in, first_call, pairs_of, value_of, values_of}
pub use Rattle.cedar_json.specs.WholeNumber.{are_digits, is_digit, is_long, whole_number}
pub use Rattle.cedar_json.specs.WrittenName.{if_unreserved, is_reserved, is_unreserved, name_after, name_of_parts, pieces, plain_name_in, spelled_name, with_byte}
pub use Rattle.cedar_json.specs.declared.extensions.Kind.TheVariants.{Truth}
pub use Rattle.cedar_json.specs.declared.extensions.Row.{Row}
pub use Rattle.cedar_json.specs.declared.fault.Fault.{Fault}
pub use Rattle.cedar_json.specs.declared.fault.Row.TheVariants.{OfAttribute, OfCall, OfType}
