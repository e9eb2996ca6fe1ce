-- The words of clauses, from one place.
pub use Rattle.cedar_ast.specs.Extensions.{extension_types}
pub use Rattle.cedar_ast.specs.Name.{plain_name}
pub use Rattle.cedar_ast.specs.PlainName.{PlainName}
pub use Rattle.cedar_ast.specs.Text.{Text}
pub use Rattle.cedar_ast.specs.TypeNames.{TypeNamesFit}
pub use Rattle.cedar_ast.specs.UnreservedId.{unreserved_id_text}
pub use Rattle.cedar_ast.specs.declared.extension.Extensions.{Extensions}
pub use Rattle.cedar_ast.specs.declared.name.Name.{Name}
pub use Rattle.cedar_ast.specs.declared.unreserved_id.UnreservedId.{UnreservedId}
pub use Rattle.cedar_json.specs.ActionFormat.{WrittenAction, WrittenParent, written_action, written_pairs, written_parent, written_requests}
pub use Rattle.cedar_json.specs.DefinitionFormat.{WrittenDefinition, WrittenFragment, written_definition, written_fragment}
pub use Rattle.cedar_json.specs.EntityFormat.{WrittenEntity, written_entity}
pub use Rattle.cedar_json.specs.TextFormat.{Describes}
pub use Rattle.cedar_schema.specs.ValidatorSchema.{schema_of}
pub use Rattle.cedar_schema.specs.declared.schema.ValidatorSchema.{ValidatorSchema}
pub use Rattle.cedar_schema_ast.specs.ActionBody.{ActionBody, Requests, action_body, elsewhere, parent_action, parent_actions, parent_type, plain_action_type, requests, requests_by}
pub use Rattle.cedar_schema_ast.specs.CommonTypeId.{common_type_text}
pub use Rattle.cedar_schema_ast.specs.Declaration.{Body, Declaration, action, action_declarations, common_declarations, common_type, entity_declarations, entity_type, raw_declarations, raw_fragment}
pub use Rattle.cedar_schema_ast.specs.EntityBody.{EntityBody, enumerated, external, kind_body, standard}
pub use Rattle.cedar_schema_ast.specs.Expr.{Expr, Members, extension_expr, long_expr, member, members_from, named, no_member, record_expr, set_expr, text_expr, truth_expr}
pub use Rattle.cedar_schema_ast.specs.RawExpr.{raw_attribute, raw_expr, raw_record, raw_reference, raw_variant}
pub use Rattle.cedar_schema_ast.specs.Reference.{ActionReference, Reference, possible_names, reference_to}
pub use Rattle.cedar_schema_ast.specs.TypeExpr.{attribute_step, record_step, type_step, variant_step}
pub use Rattle.cedar_schema_ast.specs.declared.json_schema.action_type.ActionEntityUID.{ActionEntityUID}
pub use Rattle.cedar_schema_ast.specs.declared.json_schema.action_type.ActionType.{ActionType}
pub use Rattle.cedar_schema_ast.specs.declared.json_schema.action_type.ApplySpec.{ApplySpec}
pub use Rattle.cedar_schema_ast.specs.declared.json_schema.common_type_id.CommonTypeId.{CommonTypeId}
pub use Rattle.cedar_schema_ast.specs.declared.json_schema.entity_type.EntityType.{EntityType}
pub use Rattle.cedar_schema_ast.specs.declared.json_schema.entity_type.EntityTypeKind.{EntityTypeKind}
pub use Rattle.cedar_schema_ast.specs.declared.json_schema.fragment.CommonType.{CommonType}
pub use Rattle.cedar_schema_ast.specs.declared.json_schema.fragment.Fragment.{Fragment}
pub use Rattle.cedar_schema_ast.specs.declared.json_schema.fragment.NamespaceDefinition.{NamespaceDefinition}
pub use Rattle.cedar_schema_ast.specs.declared.json_schema.raw_name.RawName.{RawName}
pub use Rattle.cedar_schema_ast.specs.declared.json_schema.reference_type.ReferenceType.TheVariants.{Entity}
pub use Rattle.cedar_schema_ast.specs.declared.json_schema.type_of.RecordType.{RecordType, map-RecordType, roll-RecordType}
pub use Rattle.cedar_schema_ast.specs.declared.json_schema.type_of.Type.{fold-roll-Type, ind-Type, map-Type, «Type»}
unfoldable pub use Rattle.cedar_schema_ast.specs.declared.json_schema.type_of.Type.{roll-Type}
pub use Rattle.cedar_schema_ast.specs.declared.json_schema.type_of.TypeOfAttribute.{TypeOfAttribute, fold-roll-TypeOfAttribute, map-TypeOfAttribute, roll-TypeOfAttribute}
pub use Rattle.cedar_schema_ast.specs.declared.json_schema.type_of.TypeVariant.{TypeVariant, fold-roll-TypeVariant, map-TypeVariant, roll-TypeVariant}
pub use Rattle.cedar_schema_laws.specs.EndToEnd.{IsBuiltFrom}
pub use Rattle.cedar_schema_semantics.specs.Bag.{Bag}
pub use Rattle.cedar_schema_semantics.specs.ConvertedBack.{IsConvertedBack, IsWritable}
pub use Rattle.cedar_schema_semantics.specs.Counted.{PositionsFit}
pub use Rattle.cedar_schema_semantics.specs.Fault.{Fault, out_of_memory}
pub use Rattle.cedar_json_laws.specs.Rewritten.{IsRewritten}
