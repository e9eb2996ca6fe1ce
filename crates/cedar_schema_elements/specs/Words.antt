-- The words of clauses, from one place.
pub use Rattle.std.specs.Cmp.{IsTotalOrder}
pub use Rattle.std.specs.Fn.{FnReturnsAt}
pub use Rattle.std.specs.HashSet.{contains}
pub use Rattle.std.specs.Iterator.{IsFiniteIterable}
unfoldable pub use Rattle.std.specs.List.{IsDistinct}
pub use Rattle.std.specs.Option.{option_copied, option_map}
pub use Rattle.std.specs.declared.cmp.Ordering.{Ordering}
pub use Rattle.std.specs.declared.cmp.Ordering.TheVariants.{Equal}
pub use Rattle.cedar_ast.specs.Eid.{eid_text}
pub use Rattle.cedar_ast.specs.Entities.{entities_of, entity_at}
pub use Rattle.cedar_ast.specs.Entity.{entity_uid}
pub use Rattle.cedar_ast.specs.EntityType.{type_loc, type_name}
pub use Rattle.cedar_ast.specs.EntityUID.{uid_loc, uid_of, uid_type_loc}
pub use Rattle.cedar_ast.specs.InternalName.{name_of}
pub use Rattle.cedar_ast.specs.Iterators.{HoldsOfAll}
pub use Rattle.cedar_ast.specs.Lists.{SameItems, Twice}
pub use Rattle.cedar_ast.specs.PlainName.{IsReserved, PlainName, name_cmp}
pub use Rattle.cedar_ast.specs.PlainUid.{PlainUid, uid_cmp}
pub use Rattle.cedar_ast.specs.RestrictedExpr.{tree_of}
pub use Rattle.cedar_ast.specs.Text.{Text}
pub use Rattle.cedar_ast.specs.Tree.{entries_from, no_entry}
pub use Rattle.cedar_ast.specs.Value.{value_expr}
pub use Rattle.cedar_ast.specs.declared.eid.Eid.{Eid}
pub use Rattle.cedar_ast.specs.declared.entities.Entities.{Entities}
pub use Rattle.cedar_ast.specs.declared.entity.Entity.{Entity}
pub use Rattle.cedar_ast.specs.declared.entity_type.EntityType.{EntityType}
pub use Rattle.cedar_ast.specs.declared.entity_uid.EntityUID.{EntityUID}
pub use Rattle.cedar_ast.specs.declared.memory.Memory.{Memory}
pub use Rattle.cedar_ast.specs.declared.value.Value.{Value}
pub use Rattle.cedar_name_resolution.specs.HeldNames.{held_names}
pub use Rattle.cedar_name_resolution.specs.QualifyFault.{IsUnresolvable}
pub use Rattle.cedar_schema_ast.specs.ConditionalName.{conditional_reference, possibilities_of, reference_type_of}
pub use Rattle.cedar_schema_ast.specs.Reference.{Reference}
pub use Rattle.cedar_schema_ast.specs.declared.json_schema.conditional_name.ConditionalName.{ConditionalName}
pub use Rattle.cedar_schema_semantics.specs.ActionEntities.{AreActionEntities, IsDefinedKind, IsEntityOfAction}
pub use Rattle.cedar_schema_semantics.specs.DeclaredSchema.{IsNamedBy}
pub use Rattle.cedar_schema_semantics.specs.EntityTypeKind.{enumerated_kind, external_kind, kind_fields, kind_openness, kind_tags, standard_kind}
pub use Rattle.cedar_schema_semantics.specs.Environments.{AreEnvironmentsOf, Environment, IsRequestOf}
pub use Rattle.cedar_schema_semantics.specs.Fault.{Fault, duplicate_action, duplicate_entity_type}
pub use Rattle.cedar_schema_semantics.specs.Names.{IsDefined, Names, ResolvesTo}
pub use Rattle.cedar_schema_semantics.specs.PlainSchema.{ActionEntity, ActionKind, SchemaAction, SchemaEntityType, defined_action, external_action}
pub use Rattle.cedar_schema_semantics.specs.SameSchema.{SameActionKind}
pub use Rattle.cedar_schema_semantics.specs.SchemaError.{fault_of}
pub use Rattle.cedar_schema_semantics.specs.ValidSchema.{IsEnumerated}
pub use Rattle.cedar_type_rules.specs.Fields.{field_names}
pub use Rattle.cedar_type_rules.specs.Ty.{Fields, Ty, end, field, field_at}
pub use Rattle.cedar_types.specs.Located.{located, located_at}
pub use Rattle.cedar_types.specs.Meaning.{attribute_of, fields_of, ty_of}
pub use Rattle.cedar_types.specs.declared.types.Type.{«Type»}
pub use Rattle.cedar_schema_elements.specs.ActionEntities.{IsEntityOf, Lists, listed_entities, named_values, plain_action_entity, schema_listing, schema_with}
pub use Rattle.cedar_schema_elements.specs.ActionKind.{kind_context, kind_principals, kind_resources}
pub use Rattle.cedar_schema_elements.specs.Ancestors.{HasNode, IsAncestor, ListsBelow, upper_set}
pub use Rattle.cedar_schema_elements.specs.EntityTypeKind.{plain_kind, plain_standard, standard_attributes, standard_tags}
pub use Rattle.cedar_schema_elements.specs.RequestEnv.{LocatedEnvironment, environment_at, environment_of, lent_environment, located_environment, located_environment_at, owned_environment}
pub use Rattle.cedar_schema_elements.specs.RequestEnvironments.{action_environments, kind_environments, with_principals, with_resources}
pub use Rattle.cedar_schema_elements.specs.Requests.{kind_of_requests, requested_principals, requested_resources}
pub use Rattle.cedar_schema_elements.specs.TypeSet.{empty_name, set_name_at, set_names, set_types}
pub use Rattle.cedar_schema_elements.specs.ValidatorActionId.{IsAction, action_loc, action_of, borrowed_context, context_of, name_type_loc, plain_action_entry}
pub use Rattle.cedar_schema_elements.specs.ValidatorApplySpec.{principal_names, principal_references, principal_types, resource_names, resource_references, resource_types}
pub use Rattle.cedar_schema_elements.specs.ValidatorEntityType.{AreLocatedAsKeys, IsLocatedAsKey, PlainEntityType, attributes_of, descendant_names, entity_type_of, kind_attributes, name_loc, plain_entry, tags_of}
pub use Rattle.cedar_schema_elements.specs.declared.action_id.ValidatorActionId.{ValidatorActionId}
pub use Rattle.cedar_schema_elements.specs.declared.action_kind.DefinedRequests.{DefinedRequests}
pub use Rattle.cedar_schema_elements.specs.declared.action_kind.ValidatorActionKind.{ValidatorActionKind}
pub use Rattle.cedar_schema_elements.specs.declared.apply_spec.ValidatorApplySpec.{ValidatorApplySpec}
pub use Rattle.cedar_schema_elements.specs.declared.entity_type.ValidatorEntityType.{ValidatorEntityType}
pub use Rattle.cedar_schema_elements.specs.declared.entity_type_kind.StandardValidatorEntityType.{StandardValidatorEntityType}
pub use Rattle.cedar_schema_elements.specs.declared.entity_type_kind.ValidatorEntityTypeKind.{ValidatorEntityTypeKind}
pub use Rattle.cedar_schema_elements.specs.declared.request_env.UnlinkedRequestEnv.{UnlinkedRequestEnv}
pub use Rattle.cedar_schema_elements.specs.declared.type_set.TypeSet.{TypeSet}
