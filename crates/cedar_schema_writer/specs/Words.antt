-- The words of clauses, from one place.
pub use Rattle.cedar_ast.specs.Eid.{eid_text}
pub use Rattle.cedar_ast.specs.EntityType.{type_name}
pub use Rattle.cedar_ast.specs.EntityUID.{uid_of}
pub use Rattle.cedar_ast.specs.Id.{id_text}
pub use Rattle.cedar_ast.specs.Identifier.{reserved_word}
pub use Rattle.cedar_ast.specs.InternalName.{name_of}
pub use Rattle.cedar_ast.specs.Lists.{HoldsPairwise, Twice}
pub use Rattle.cedar_ast.specs.Name.{plain_name}
pub use Rattle.cedar_ast.specs.NonEmpty.{items_of}
pub use Rattle.cedar_ast.specs.PlainName.{IsActionType, IsReserved, PlainName, action_word}
pub use Rattle.cedar_ast.specs.PlainUid.{PlainUid}
pub use Rattle.cedar_ast.specs.Text.{Text, text_cmp}
pub use Rattle.cedar_ast.specs.UnreservedId.{unreserved_id_text}
pub use Rattle.cedar_ast.specs.declared.entity_uid.EntityUID.{EntityUID}
pub use Rattle.cedar_ast.specs.declared.id.Id.{Id}
pub use Rattle.cedar_ast.specs.declared.name.Name.{Name}
pub use Rattle.cedar_ast.specs.declared.unreserved_id.UnreservedId.{UnreservedId}
pub use Rattle.cedar_schema_ast.specs.ActionBody.{ActionBody, action_body, elsewhere, parent_action, parent_type, requests}
pub use Rattle.cedar_schema_ast.specs.Declaration.{Declaration, action, action_declarations, common_declarations, entity_declarations, raw_declarations, raw_fragment}
pub use Rattle.cedar_schema_ast.specs.EntityBody.{EntityBody, enumerated, external, kind_body, raw_entity_body, standard}
pub use Rattle.cedar_schema_ast.specs.Expr.{Expr, Members, member, members_from, no_member, record_expr, set_expr}
pub use Rattle.cedar_schema_ast.specs.PlainMembers.{plain_members}
pub use Rattle.cedar_schema_ast.specs.RawExpr.{raw_attribute, raw_expr, raw_reference, raw_variant}
pub use Rattle.cedar_schema_ast.specs.RawName.{raw_name}
pub use Rattle.cedar_schema_ast.specs.Reference.{Reference, name_within, path_within}
pub use Rattle.cedar_schema_ast.specs.declared.json_schema.action_type.ActionEntityUID.{ActionEntityUID}
pub use Rattle.cedar_schema_ast.specs.declared.json_schema.action_type.ActionType.{ActionType}
pub use Rattle.cedar_schema_ast.specs.declared.json_schema.entity_type.EntityType.{EntityType}
pub use Rattle.cedar_schema_ast.specs.declared.json_schema.fragment.NamespaceDefinition.{NamespaceDefinition}
pub use Rattle.cedar_schema_ast.specs.declared.json_schema.raw_name.RawName.{RawName}
pub use Rattle.cedar_schema_ast.specs.declared.json_schema.reference_type.ReferenceType.TheVariants.{Entity}
pub use Rattle.cedar_schema_ast.specs.declared.json_schema.type_of.TypeOfAttribute.{TypeOfAttribute}
pub use Rattle.cedar_schema_elements.specs.ActionKind.{kind_context, kind_principals, kind_resources}
pub use Rattle.cedar_schema_elements.specs.Ancestors.{IsAncestor}
pub use Rattle.cedar_schema_elements.specs.EntityTypeKind.{plain_kind}
pub use Rattle.cedar_schema_elements.specs.ValidatorActionId.{action_of, plain_action_entry}
pub use Rattle.cedar_schema_elements.specs.ValidatorEntityType.{descendant_names, entity_type_of, plain_entry}
pub use Rattle.cedar_schema_elements.specs.declared.action_id.ValidatorActionId.{ValidatorActionId}
pub use Rattle.cedar_schema_elements.specs.declared.entity_type.ValidatorEntityType.{ValidatorEntityType}
pub use Rattle.cedar_schema_semantics.specs.Bag.{Bag}
pub use Rattle.cedar_schema_semantics.specs.ConvertedBack.{AreFullNames, AreRequestsWritten, AreTagsWritten, IsActionDeclaration, IsConvertedBack, IsKindWritten, IsPathOf, IsTypeDeclaration, IsWritable, NamesNoOther, NamesNoOtherAction, fields_written, full_name, full_uid, schema_names, type_written}
pub use Rattle.cedar_schema_semantics.specs.EntityTypeKind.{EntityTypeKind, enumerated_kind, external_kind, kind_fields, kind_openness, kind_tags, standard_kind}
pub use Rattle.cedar_schema_semantics.specs.Names.{IsDefined, Names}
pub use Rattle.cedar_schema_semantics.specs.PlainSchema.{ActionEntity, ActionKind, PlainSchema, SchemaAction, SchemaEntityType, defined_action, external_action}
pub use Rattle.cedar_schema_semantics.specs.ValidSchema.{IsPrincipalOrResourceOf, ListsDescendant, ListsDescendantAction}
pub use Rattle.cedar_type_rules.specs.EntityUnion.{only_name}
pub use Rattle.cedar_type_rules.specs.Fields.{IsSortedByName, field_names}
pub use Rattle.cedar_type_rules.specs.Ty.{Fields, Ty, end, extension_of, field, fields_from, record_of, set_of, union_of}
pub use Rattle.cedar_type_rules.specs.declared.open_tag.OpenTag.{OpenTag}
pub use Rattle.cedar_type_rules.specs.declared.open_tag.OpenTag.TheVariants.{ClosedAttributes}
pub use Rattle.cedar_types.specs.Attributes.{plain_attributes}
pub use Rattle.cedar_types.specs.EntityKind.{kind_ty}
pub use Rattle.cedar_types.specs.EntityLUB.{lub_names}
pub use Rattle.cedar_types.specs.Meaning.{attribute_of, fields_of, ty_of}
pub use Rattle.cedar_schema_writer.specs.Definitions.{AppliesIfDefined, AreProper, ArePut, Definitions, IsActionWritten, IsProper, action_declared, definitions_bag, requests_written, type_declared}
pub use Rattle.cedar_schema_writer.specs.Parts.{Actions, Types, known_names, known_schema, parts_schema, plain_namespace, written_action_type, written_uid}
pub use Rattle.cedar_schema_writer.specs.Refusal.{Refuses}
pub use Rattle.cedar_schema_writer.specs.Sound.{IsSoundAction, IsSoundActionEntry, IsSoundEntityType, IsSoundKind, IsSoundType}
pub use Rattle.cedar_schema_writer.specs.declared.known.Known.{Known}
pub use Rattle.cedar_schema_writer.specs.declared.write_back_fault.WriteBackFault.{WriteBackFault}
