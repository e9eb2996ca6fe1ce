-- The words of clauses, from one place.
pub use Rattle.cedar_ast.specs.Chain.{Chain, more, one}
pub use Rattle.cedar_ast.specs.Extensions.{extension_types}
pub use Rattle.cedar_ast.specs.Id.{id_text}
pub use Rattle.cedar_ast.specs.InternalName.{name_of}
pub use Rattle.cedar_ast.specs.Lists.{HoldsPairwise, Included, SameItems, Twice}
pub use Rattle.cedar_ast.specs.PlainName.{IsReserved, PlainName}
pub use Rattle.cedar_ast.specs.Text.{Text, text_cmp}
pub use Rattle.cedar_ast.specs.TypeNames.{TypeNamesFit}
pub use Rattle.cedar_ast.specs.UnreservedId.{unreserved_id_text}
pub use Rattle.cedar_ast.specs.declared.extension.Extensions.{Extensions}
pub use Rattle.cedar_ast.specs.declared.internal_name.InternalName.{InternalName}
pub use Rattle.cedar_name_resolution.specs.HeldNames.{HoldsJust, held_names}
pub use Rattle.cedar_name_resolution.specs.WrittenTypes.{written_common, written_expr}
pub use Rattle.cedar_name_resolution.specs.declared.written.Written.{Written}
unfoldable pub use Rattle.cedar_graph.specs.Numbered.{items_at}
pub use Rattle.cedar_graph.specs.Order.{IsOrder, LeadsTo}
pub use Rattle.cedar_schema_ast.specs.Expr.{Expr, Members, extension_expr, member, members_from, named, no_member, record_expr, set_expr}
pub use Rattle.cedar_schema_ast.specs.NamespaceName.{namespace_name}
pub use Rattle.cedar_schema_ast.specs.Reference.{Reference}
pub use Rattle.cedar_schema_ast.specs.TypeExpr.{flag_and_expr, record_type_expr, type_expr, variant_expr}
pub use Rattle.cedar_schema_ast.specs.declared.json_schema.reference_type.ReferenceType.{ReferenceType}
pub use Rattle.cedar_schema_ast.specs.declared.json_schema.type_of.RecordType.{RecordType, out-RecordType}
pub use Rattle.cedar_schema_ast.specs.declared.json_schema.type_of.Type.{«Type»}
pub use Rattle.cedar_schema_ast.specs.declared.json_schema.type_of.TypeOfAttribute.{TypeOfAttribute, out-TypeOfAttribute}
pub use Rattle.cedar_schema_semantics.specs.Bag.{Bag, alias_name, aliases, built_in_name, built_in_types, built_ins, declared_common, definitions, is_declared_here}
pub use Rattle.cedar_schema_semantics.specs.Counted.{IsCounted}
pub use Rattle.cedar_schema_semantics.specs.Defined.{Defined, IsCommon, names_of}
pub use Rattle.cedar_schema_semantics.specs.ElaboratesTo.{ElaboratesTo, MembersElaborateTo, as_common, as_entity, as_extension, as_long, as_member, as_no_member, as_record, as_set, as_text, as_truth}
pub use Rattle.cedar_schema_semantics.specs.Fault.{Fault, common_type_cycle, duplicate_common_type, open_record, out_of_memory, reserved_name, type_not_defined, unknown_extension_type}
pub use Rattle.cedar_schema_semantics.specs.IllFormed.{IsFault, RefersToCommon}
pub use Rattle.cedar_schema_semantics.specs.Mentions.{HasOpenRecord, MembersHaveOpenRecord, MembersMentionExtension, MembersRefer, Refers}
pub use Rattle.cedar_schema_semantics.specs.Names.{IsDefined, IsEntity, IsUnresolved, MayNameCommon, Names, ResolvesTo}
pub use Rattle.cedar_schema_semantics.specs.SchemaError.{fault_of}
pub use Rattle.cedar_type_rules.specs.Fields.{HoldsLast, IsSortedByName, field_names}
pub use Rattle.cedar_type_rules.specs.Ty.{Fields, Ty, end, extension_of, field, fields_from, long, record_of, set_of, text, union_of}
pub use Rattle.cedar_type_rules.specs.declared.open_tag.OpenTag.TheVariants.{ClosedAttributes}
pub use Rattle.cedar_types.specs.Attributes.{plain_attributes}
pub use Rattle.cedar_types.specs.Meaning.{attribute_of, fields_of, ty_of}
pub use Rattle.cedar_types.specs.declared.attributes.AttributeType.{AttributeType}
pub use Rattle.cedar_elaboration.specs.Common.{AreSound, IsCommonFault, IsSoundExpr}
pub use Rattle.cedar_elaboration.specs.DeclaredTypes.{AreElaborated, AreTypesOf}
pub use Rattle.cedar_elaboration.specs.Indices.{AddsIndices, AreIndices, NamesItems, defined_over, indexed_names, item_names}
pub use Rattle.cedar_elaboration.specs.Order.{HasNoCycle, IsElaborationOrder, IsOrderFault}
pub use Rattle.cedar_elaboration.specs.Primitive.{IsPrimitive, any_truth, is_long, is_long_type, is_text, is_text_type, is_truth, is_truth_type}
pub use Rattle.cedar_elaboration.specs.Refusals.{IsExprFault, IsElaborationFault, IsReservedEntity}
pub use Rattle.cedar_elaboration.specs.Scope.{Covers, CoversExtensions, ElaboratesAs, HoldsElaborated, ResolvesEach, elaborated_types, extension_name, extensions_in_scope}
pub use Rattle.cedar_elaboration.specs.SoundTypes.{CommonTypesAreSound}
pub use Rattle.cedar_elaboration.specs.declared.type_scope.TypeScope.{TypeScope}
