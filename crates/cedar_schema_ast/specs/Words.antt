-- The words of clauses, from one place.
pub use Rattle.cedar_ast.specs.FeedsVariant.{FeedsVariantFirst}
pub use Rattle.cedar_ast.specs.InternalName.{name_loc, name_of}
pub use Rattle.cedar_ast.specs.Joined.{each_after}
pub use Rattle.cedar_ast.specs.Lists.{HoldsPairwise}
pub use Rattle.cedar_ast.specs.NameFault.{IsNameFault}
pub use Rattle.cedar_ast.specs.NameText.{IsNameText}
pub use Rattle.cedar_ast.specs.NonEmpty.{items_of}
pub use Rattle.cedar_ast.specs.PlainName.{PlainName, name_text}
pub use Rattle.cedar_ast.specs.Text.{Text, text_cmp}
pub use Rattle.cedar_ast.specs.UnreservedId.{unreserved_id_text}
pub use Rattle.cedar_ast.specs.declared.internal_name.InternalName.{InternalName}
pub use Rattle.cedar_ast.specs.declared.loc.Loc.{Loc}
pub use Rattle.cedar_ast.specs.declared.memory.Memory.{Memory}
pub use Rattle.cedar_ast.specs.declared.name.Name.{Name}
pub use Rattle.cedar_ast.specs.declared.unreserved_id.UnreservedId.{UnreservedId}
pub use Rattle.cedar_schema_ast.specs.ActionBody.{ActionBody, Requests, action_body, applies_to, elsewhere, parent_action, parent_actions, parent_type, plain_action_type, requests, requests_by}
pub use Rattle.cedar_schema_ast.specs.CommonTypeId.{common_type_text}
pub use Rattle.cedar_schema_ast.specs.ConditionalExpr.{ReferencesFit, conditional_attribute, conditional_expr, conditional_record, conditional_variant, own_reference, positional_attribute, positional_expr, positional_record, positional_reference, positional_variant}
pub use Rattle.cedar_schema_ast.specs.ConditionalName.{conditional_reference, last_possibility, possibilities_of, possibility_locs, reference_type_of}
pub use Rattle.cedar_schema_ast.specs.Copies.{AlikeConditional, AlikeEntity, AlikeFull, IsAttributeCopy, IsRecordCopy, IsTypeCopy, IsVariantCopy, LocatesAlike, RefersAlike, ShowsSame}
pub use Rattle.cedar_schema_ast.specs.Declaration.{Body, Declaration, action, action_declarations, common_declarations, common_type, entity_declarations, entity_type, raw_bag, raw_declarations, raw_fragment}
pub use Rattle.cedar_schema_ast.specs.DeclarationCopies.{AreEntriesCopied, IsActionReferenceCopy, IsActionTypeCopy, IsApplySpecCopy, IsCommonIdCopy, IsCommonTypeCopy, IsDefinitionCopy, IsEntityTypeCopy, IsFragmentCopy, IsIdCopy, IsKindCopy, IsNamespaceCopy, IsStandardCopy, IsTextCopy, IsValueCopy}
pub use Rattle.cedar_schema_ast.specs.EntityBody.{EntityBody, enumerated, external, kind_body, raw_entity_body, standard}
pub use Rattle.cedar_schema_ast.specs.Expr.{Expr, Members, extension_expr, long_expr, member, members_from, named, no_member, record_expr, set_expr, text_expr, truth_expr}
pub use Rattle.cedar_schema_ast.specs.NamespaceName.{namespace_name}
pub use Rattle.cedar_schema_ast.specs.Nesting.{attribute_nesting, attribute_nesting_step, greatest, record_nesting, record_nesting_step, type_nesting, type_nesting_step, variant_nesting, variant_nesting_step}
pub use Rattle.cedar_schema_ast.specs.PlainMembers.{plain_members}
pub use Rattle.cedar_schema_ast.specs.PossibleNames.{locs_of, names_of}
pub use Rattle.cedar_schema_ast.specs.RawExpr.{raw_attribute, raw_expr, raw_record, raw_reference, raw_variant}
pub use Rattle.cedar_schema_ast.specs.RawName.{raw_loc, raw_name}
pub use Rattle.cedar_schema_ast.specs.Reference.{ActionReference, Reference, name_within, names_within, path_within, possible_names, qualified_name, reference_to}
pub use Rattle.cedar_schema_ast.specs.ReferenceText.{action_reference_text, possibilities_text, qualify_text, reference_kind_text, undeclared_text, undeclared_types_text, written_type_text}
pub use Rattle.cedar_schema_ast.specs.ReservedTypeWord.{IsReservedTypeWord, reserved_type_words}
pub use Rattle.cedar_schema_ast.specs.TypeExpr.{attribute_step, flag_and_expr, record_step, record_type_expr, type_expr, type_step, variant_expr, variant_step}
pub use Rattle.cedar_schema_ast.specs.TypeLocs.{Locs, attribute_locs, attribute_locs_step, record_locs, record_locs_step, type_locs, type_locs_step, variant_locs, variant_locs_step}
pub use Rattle.cedar_schema_ast.specs.declared.json_schema.common_type_id.CommonTypeId.{CommonTypeId}
pub use Rattle.cedar_schema_ast.specs.declared.json_schema.conditional_name.ConditionalName.{ConditionalName}
pub use Rattle.cedar_schema_ast.specs.declared.json_schema.raw_name.RawName.{RawName}
pub use Rattle.cedar_schema_ast.specs.declared.json_schema.reference_type.ReferenceType.{ReferenceType}
pub use Rattle.cedar_schema_ast.specs.declared.json_schema.reference_type.ReferenceType.TheVariants.{Common, CommonOrEntity, Entity}
pub use Rattle.cedar_schema_ast.specs.declared.json_schema.type_of.RecordType.{RecordType, fold-roll-RecordType, fold_out-RecordType, out-RecordType, roll-RecordType}
pub use Rattle.cedar_schema_ast.specs.declared.json_schema.type_of.Type.{CommonTypeRef, Plain, the_lemmas, «Type»}
pub use Rattle.cedar_schema_ast.specs.declared.json_schema.type_of.TypeOfAttribute.{TypeOfAttribute, fold_out-TypeOfAttribute, out-TypeOfAttribute}
pub use Rattle.cedar_schema_ast.specs.declared.json_schema.type_of.TypeVariant.{Boolean, EntityOrCommon, Extension, Long, Record, Set, String, TypeVariant}
