-- The words of clauses, from one place.
pub use Rattle.cedar_ast.specs.Chain.{Chain, more, one}
pub use Rattle.cedar_ast.specs.Copies.{AreCopies, AreEntryCopies, IsCopy}
pub use Rattle.cedar_ast.specs.CoreSchemaType.{argument_types, core_attribute_of, core_attribute_step, core_fields_of, core_step, core_ty_of, result_type}
pub use Rattle.cedar_ast.specs.CoreTy.{CoreFields, CoreTy, core_empty_set, core_end, core_entity, core_extension, core_field, core_fields_from, core_long, core_names, core_record, core_set, core_text, core_truth}
pub use Rattle.cedar_ast.specs.Eid.{eid_text}
pub use Rattle.cedar_ast.specs.Entities.{entities_of, entity_at}
pub use Rattle.cedar_ast.specs.Entity.{entity_ancestors, entity_attrs, entity_tags, entity_uid, entity_uid_loc, entity_uid_type_loc}
pub use Rattle.cedar_ast.specs.EntityType.{is_type_shared, type_loc, type_name}
pub use Rattle.cedar_ast.specs.EntityUID.{is_uid_shared, uid_loc, uid_of, uid_type_loc}
pub use Rattle.cedar_ast.specs.Escapes.{after_backslash, begins_code, code_digit, escape_then, first_digit, is_coded, last_whole, second_digit}
pub use Rattle.cedar_ast.specs.Extensions.{extension_types, function_named}
pub use Rattle.cedar_ast.specs.ExtensionsFault.{IsExtensionsFault}
pub use Rattle.cedar_ast.specs.FeedsVariant.{FeedsVariantFirst}
pub use Rattle.cedar_ast.specs.Fits.{ArgumentsFit, EntryFits, FieldsFit, Fits, Gives, IsKnown, IsUnknown, NamesListed, Returns}
pub use Rattle.cedar_ast.specs.Id.{id_text}
pub use Rattle.cedar_ast.specs.Identifier.{IsIdentifier, begins_identifier, is_identifier_byte, is_identifier_start, is_identifier_text, reserved_word}
pub use Rattle.cedar_ast.specs.InternalName.{is_name_shared, name_loc, name_of, parts_of}
pub use Rattle.cedar_ast.specs.IsValue.{AreEntries, AreValues, IsName, IsText, IsValue}
pub use Rattle.cedar_ast.specs.Iterators.{HoldsOfAll}
pub use Rattle.cedar_ast.specs.Joined.{each_after, joined}
pub use Rattle.cedar_ast.specs.KeyedEntities.{IsKeyed}
pub use Rattle.cedar_ast.specs.LastNamed.{last_named}
pub use Rattle.cedar_ast.specs.LeadingBytes.{leading_bytes, name_leading}
pub use Rattle.cedar_ast.specs.Lists.{HoldsOfBoth, HoldsPairwise, Included, SameItems, Twice}
pub use Rattle.cedar_ast.specs.Name.{at_name, is_plain_shared, plain_loc, plain_name}
pub use Rattle.cedar_ast.specs.NameFault.{IsNameFault}
pub use Rattle.cedar_ast.specs.NameText.{IsNameText, IsOfIdentifiers, IsReservedNameText}
pub use Rattle.cedar_ast.specs.NonEmpty.{items_of}
pub use Rattle.cedar_ast.specs.PlainName.{IsActionType, IsReserved, IsUnqualified, PlainName, action_word, name_cmp, name_text}
pub use Rattle.cedar_ast.specs.PlainUid.{PlainUid, uid_cmp}
pub use Rattle.cedar_ast.specs.QuickInput.{name_input, tells_whole, uid_input}
pub use Rattle.cedar_ast.specs.Reading.{reading_then}
pub use Rattle.cedar_ast.specs.RestrictedExpr.{entries_of, tree_of, tree_step, trees_of}
pub use Rattle.cedar_ast.specs.Stops.{Begins, IsLongestBeginning, StopsAt}
pub use Rattle.cedar_ast.specs.Text.{Text, text_cmp}
pub use Rattle.cedar_ast.specs.Tree.{EachTree, Entries, SomeTree, Tree, Trees, call_value, entries_from, entry, entry_at, entry_names, map_value, no_entry, no_tree, number_value, set_value, text_value, tree, trees_from, truth_value, uid_value}
pub use Rattle.cedar_ast.specs.TypeNames.{TypeNamesFit, primitive_words}
pub use Rattle.cedar_ast.specs.UidReading.{IsTypeBefore, IsTypeFault}
pub use Rattle.cedar_ast.specs.UidText.{IsQuoted, IsReservedUidText, IsUidText, escaped, escaped_text, quoted_text, uid_text}
pub use Rattle.cedar_ast.specs.UnknownFunction.{unknown_function_text}
pub use Rattle.cedar_ast.specs.UnreservedId.{unreserved_id_text}
pub use Rattle.cedar_ast.specs.Value.{value_expr}
pub use Rattle.cedar_ast.specs.declared.core_schema_type.CoreAttributeType.{CoreAttributeType, fold_out-CoreAttributeType}
pub use Rattle.cedar_ast.specs.declared.core_schema_type.CoreSchemaType.{CoreSchemaType, fold-roll-CoreSchemaType, roll-CoreSchemaType}
pub use Rattle.cedar_ast.specs.declared.eid.Eid.{Eid}
pub use Rattle.cedar_ast.specs.declared.entity.Entity.{Entity}
pub use Rattle.cedar_ast.specs.declared.entity_type.EntityType.{EntityType}
pub use Rattle.cedar_ast.specs.declared.entity_uid.EntityUID.{EntityUID}
pub use Rattle.cedar_ast.specs.declared.escape.Escape.{Escape}
pub use Rattle.cedar_ast.specs.declared.escape.Escape.TheVariants.{Backslash, Closed, Code, Open, Unicode, Whole}
pub use Rattle.cedar_ast.specs.declared.extension.Extensions.{Extensions}
pub use Rattle.cedar_ast.specs.declared.id.Id.{Id}
pub use Rattle.cedar_ast.specs.declared.internal_name.InternalName.{InternalName}
pub use Rattle.cedar_ast.specs.declared.internal_name.NameParts.{NameParts}
pub use Rattle.cedar_ast.specs.declared.memory.Memory.{Memory}
pub use Rattle.cedar_ast.specs.declared.name.Name.{Name}
pub use Rattle.cedar_ast.specs.declared.name_fault.NameFault.{NameFault}
pub use Rattle.cedar_ast.specs.declared.name_fault.NameFault.TheVariants.{NotAName}
pub use Rattle.cedar_ast.specs.declared.reading.Reading.{Reading}
pub use Rattle.cedar_ast.specs.declared.reading.Reading.TheVariants.{Colon, Inside, Start}
pub use Rattle.cedar_ast.specs.declared.unreserved_id.UnreservedId.{UnreservedId}
pub use Rattle.cedar_ast.specs.declared.value.RestrictedExpr.{RestrictedExpr, fold-roll-RestrictedExpr, roll-RestrictedExpr}
