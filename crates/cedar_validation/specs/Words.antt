-- The words of clauses, from one place.
pub use Rattle.std.specs.Option.{MatchOption}
pub use Rattle.std.specs.Ordering.{is_eq}
pub use Rattle.cedar_ast.specs.Chain.{Chain, more, one}
pub use Rattle.cedar_ast.specs.EntityType.{type_loc, type_name}
pub use Rattle.cedar_ast.specs.EntityUID.{uid_loc, uid_of, uid_type_loc}
pub use Rattle.cedar_ast.specs.Extensions.{extension_types}
pub use Rattle.cedar_ast.specs.InternalName.{name_of}
pub use Rattle.cedar_ast.specs.Lists.{HoldsPairwise, SameItems}
pub use Rattle.cedar_ast.specs.Name.{plain_name}
pub use Rattle.cedar_ast.specs.PlainName.{IsActionType, IsReserved, IsUnqualified, PlainName, name_cmp}
pub use Rattle.cedar_ast.specs.PlainUid.{PlainUid, uid_cmp}
pub use Rattle.cedar_ast.specs.Text.{Text}
pub use Rattle.cedar_ast.specs.declared.entity_type.EntityType.{EntityType}
pub use Rattle.cedar_ast.specs.declared.entity_uid.EntityUID.{EntityUID}
pub use Rattle.cedar_ast.specs.declared.extension.Extensions.{Extensions}
pub use Rattle.cedar_graph.specs.Tables.{HasEntry, IsClosedTo, IsTableFault, StepsTo}
pub use Rattle.cedar_graph.specs.declared.table_fault.TableFault.{TableFault}
pub use Rattle.cedar_graph.specs.declared.table_fault.TableFault.TheVariants.{HasCycle, Lacks, Memory}
pub use Rattle.cedar_schema_elements.specs.ActionKind.{kind_context, kind_principals, kind_resources}
pub use Rattle.cedar_schema_elements.specs.EntityTypeKind.{plain_kind}
pub use Rattle.cedar_schema_elements.specs.ValidatorActionId.{action_loc, action_of, name_type_loc, plain_action_entry}
pub use Rattle.cedar_schema_elements.specs.ValidatorEntityType.{PlainEntityType, attributes_of, descendant_names, entity_type_of, name_loc, plain_entry}
pub use Rattle.cedar_schema_elements.specs.declared.action_id.ValidatorActionId.{ValidatorActionId}
pub use Rattle.cedar_schema_elements.specs.declared.entity_type.ValidatorEntityType.{ValidatorEntityType}
pub use Rattle.cedar_schema_semantics.specs.ActionEntities.{AreActionEntities}
pub use Rattle.cedar_schema_semantics.specs.ClosedSchema.{ClosesAction, ClosesSchema, ClosesType}
pub use Rattle.cedar_schema_semantics.specs.EntityTypeKind.{EntityTypeKind, enumerated_kind, external_kind, kind_fields, kind_tags, standard_kind}
pub use Rattle.cedar_schema_semantics.specs.Fault.{Fault, action_cycle, action_entity_type, action_shadowing, enumerated_below, external_below_enumerated, invalid_action_type, out_of_memory, type_shadowing, undeclared_action_descendant, undeclared_entity_types, unknown_extension_type}
pub use Rattle.cedar_schema_semantics.specs.PlainSchema.{ActionEntity, ActionKind, PlainSchema, SchemaAction, SchemaEntityType, defined_action, external_action}
pub use Rattle.cedar_schema_semantics.specs.SameSchema.{SameAction, SameEntityType}
pub use Rattle.cedar_schema_semantics.specs.SchemaError.{fault_of}
pub use Rattle.cedar_schema_semantics.specs.Shadowing.{ShadowsAction, ShadowsType}
pub use Rattle.cedar_schema_semantics.specs.TypeMentions.{FieldsMentionEntity, FieldsMentionExtensionType, MentionsEntity, MentionsExtensionType}
pub use Rattle.cedar_schema_semantics.specs.ValidSchema.{HasAction, HasEntityType, IsContextOf, IsEnumerated, IsExternal, IsOfKind, IsPrincipalOrResourceOf, IsSchemaFault, IsTypeIn, IsTypeOfKind, IsUnknownType, IsValidSchema, ListsDescendant, ListsDescendantAction}
pub use Rattle.cedar_table.specs.Entries.{HasKey, get_by}
pub use Rattle.cedar_type_rules.specs.Ty.{Fields, Ty, end, extension_of, field, fields_from, record_of, set_of, union_of}
pub use Rattle.cedar_type_rules.specs.declared.open_tag.OpenTag.TheVariants.{ClosedAttributes}
pub use Rattle.cedar_types.specs.Attributes.{plain_attributes}
pub use Rattle.cedar_types.specs.EntityKind.{kind_ty}
pub use Rattle.cedar_types.specs.EntityLUB.{lub_names}
pub use Rattle.cedar_types.specs.Located.{located_at}
pub use Rattle.cedar_types.specs.Meaning.{attribute_of, fields_of, ty_of}
pub use Rattle.cedar_validation.specs.Copies.{IsActionCopied, IsTypeCopied}
pub use Rattle.cedar_validation.specs.Hierarchy.{IsBelowFault, IsBelowSound, IsKindFault, IsKindSound, IsPairSound, StandsAt}
pub use Rattle.cedar_validation.specs.LastNamed.{last_named, last_of_uid, last_that}
pub use Rattle.cedar_validation.specs.Listed.{IsClosedOf, IsListFault, DescendsTo, ListsIn}
pub use Rattle.cedar_validation.specs.Mentions.{IsKnownThroughout, IsUnknownIn, Knows, KnowsExtension}
pub use Rattle.cedar_validation.specs.Parts.{IsClosed, IsValidationFault, action_graph_fault, plain_parts, plain_schema, type_graph_fault, whole_schema}
pub use Rattle.cedar_validation.specs.RequestTypes.{ArePlaced, IsMisplaced}
pub use Rattle.cedar_validation.specs.Sound.{AreMentionsSound, AreNamesSound}
pub use Rattle.cedar_validation.specs.declared.known.Known.{Known}
pub use Rattle.cedar_validation.specs.declared.parts.Parts.{Parts}
