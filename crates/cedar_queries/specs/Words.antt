-- The words of clauses, from one place.
pub use Rattle.cedar_ast.specs.EntityType.{type_name}
pub use Rattle.cedar_ast.specs.EntityUID.{uid_of}
pub use Rattle.cedar_ast.specs.PlainName.{IsActionType, PlainName, name_cmp}
pub use Rattle.cedar_ast.specs.PlainUid.{PlainUid, uid_cmp}
pub use Rattle.cedar_ast.specs.Text.{Text}
pub use Rattle.cedar_ast.specs.declared.entity_type.EntityType.{EntityType}
pub use Rattle.cedar_ast.specs.declared.entity_uid.EntityUID.{EntityUID}
pub use Rattle.cedar_ast.specs.declared.validation_mode.ValidationMode.TheVariants.{Permissive}
pub use Rattle.cedar_schema_elements.specs.ActionKind.{kind_context, kind_principals, kind_resources}
pub use Rattle.cedar_schema_elements.specs.RequestEnv.{environment_of, owned_environment}
pub use Rattle.cedar_schema_elements.specs.ValidatorActionId.{action_of, plain_action_entry}
pub use Rattle.cedar_schema_elements.specs.ValidatorEntityType.{descendant_names, entity_type_of, plain_entry}
pub use Rattle.cedar_schema_elements.specs.declared.action_id.ValidatorActionId.{ValidatorActionId}
pub use Rattle.cedar_schema_elements.specs.declared.entity_type.ValidatorEntityType.{ValidatorEntityType}
pub use Rattle.cedar_schema_semantics.specs.ElaboratesTo.{IsRecordType}
pub use Rattle.cedar_schema_semantics.specs.EntityTypeKind.{kind_fields, kind_openness, kind_tags}
pub use Rattle.cedar_schema_semantics.specs.PlainSchema.{PlainSchema, SchemaAction, SchemaEntityType}
pub use Rattle.cedar_schema_semantics.specs.ValidSchema.{ListsDescendant}
pub use Rattle.cedar_table.specs.Entries.{Entries, get_by}
pub use Rattle.cedar_type_rules.specs.Below.{Below, FieldsBelow, HasField}
pub use Rattle.cedar_type_rules.specs.Bound.{IsBound, IsCleanBound, IsLeast}
pub use Rattle.cedar_type_rules.specs.Clean.{IsClean}
pub use Rattle.cedar_type_rules.specs.EntityUnion.{only_name}
pub use Rattle.cedar_type_rules.specs.Fields.{IsSortedByName}
pub use Rattle.cedar_type_rules.specs.JoinAnswer.{IsReduceAnswer, JoinAnswer}
pub use Rattle.cedar_type_rules.specs.OwnBound.{HaveOwnBound}
pub use Rattle.cedar_type_rules.specs.Ty.{Fields, Ty, end, field, field_at, fields_from, never, record_of, set_of, union_of}
pub use Rattle.cedar_type_rules.specs.WellFormed.{IsWellFormed}
pub use Rattle.cedar_type_rules.specs.declared.open_tag.OpenTag.TheVariants.{ClosedAttributes, OpenAttributes}
pub use Rattle.cedar_types.specs.Attributes.{plain_attributes}
pub use Rattle.cedar_types.specs.EntityKind.{kind_ty}
pub use Rattle.cedar_types.specs.EntityLUB.{lub_names}
pub use Rattle.cedar_types.specs.Layers.{IsSortedByName-fields}
pub use Rattle.cedar_types.specs.Meaning.{attribute_of, fields_of, ty_of}
pub use Rattle.cedar_types.specs.WellFormedTypes.{AreTexts-fields, AreWellFormed-fields}
pub use Rattle.cedar_types.specs.declared.attributes.AttributeType.{AttributeType}
pub use Rattle.cedar_types.specs.declared.attributes.Attributes.{Attributes}
pub use Rattle.cedar_types.specs.declared.entity_kind.EntityKind.{EntityKind}
pub use Rattle.cedar_types.specs.declared.types.«Type».{«Type»}
pub use Rattle.cedar_queries.specs.GivesLeaf.{GivesLeaf, pending_types}
pub use Rattle.cedar_queries.specs.Hierarchy.{HasActionBelow, HasBelow, IsKnownType, MayBeIn, action_descendants, descendants_of, groups, has_name, is_nonempty, types_above}
pub use Rattle.cedar_queries.specs.Incomplete.{IsIncomplete}
pub use Rattle.cedar_queries.specs.IncompleteText.{complete_error_text, external_action_text, external_type_text, incomplete_text}
pub use Rattle.cedar_queries.specs.KnownAttributes.{AreAttributesOf, AreKnownOfAll, declared_fields, open_record, type_at}
pub use Rattle.cedar_queries.specs.KnownLaws.{AreCleanTypes, AreExactlyKnown, AttributesAreUnique, IsCommonBound, KnownAttributesAreCommon, LargerUnionsKnowLess}
pub use Rattle.cedar_queries.specs.Leaves.{IsLeaf, context_types, entity_type_types, field_types, inner_types, leaves, leaves_of, leaves_of_fields, part_count, parts, parts_of_fields, schema_leaves, shown_types}
pub use Rattle.cedar_queries.specs.Possible.{AreDeclaredTypes, HasTags, IsDeclared, IsKnownUid, MayHaveAttribute, MayHaveTags, MemberMayHave}
pub use Rattle.cedar_queries.specs.RequestEnvs.{environments_left}
pub use Rattle.cedar_queries.specs.RequestTypes.{action_at, actions_for, all_principals, all_resources, context_at}
pub use Rattle.cedar_queries.specs.Role.{types_in_role}
pub use Rattle.cedar_queries.specs.Selected.{values_where}
pub use Rattle.cedar_queries.specs.Unresolved.{external_actions, external_types, is_external_kind, is_external_type, loc_of_first, unresolved, unresolved_action, unresolved_left, unresolved_type}
pub use Rattle.cedar_queries.specs.declared.requests.Role.{Role}
