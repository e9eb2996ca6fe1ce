-- The words of clauses, from one place.
pub use Rattle.cedar_ast.specs.Eid.{eid_text}
pub use Rattle.cedar_ast.specs.Entities.{entities_of}
pub use Rattle.cedar_ast.specs.EntityType.{type_loc, type_name}
pub use Rattle.cedar_ast.specs.EntityUID.{uid_loc, uid_of, uid_type_loc}
pub use Rattle.cedar_ast.specs.Extensions.{extension_types}
pub use Rattle.cedar_ast.specs.Identifier.{reserved_word}
pub use Rattle.cedar_ast.specs.InternalName.{name_loc, name_of}
pub use Rattle.cedar_ast.specs.Iterators.{HoldsOfAll}
pub use Rattle.cedar_ast.specs.Lists.{HoldsPairwise, Included, SameItems}
pub use Rattle.cedar_ast.specs.Name.{plain_name}
pub use Rattle.cedar_ast.specs.NonEmpty.{items_of}
pub use Rattle.cedar_ast.specs.PlainName.{IsActionType, IsReserved, PlainName, name_cmp, name_text}
pub use Rattle.cedar_ast.specs.PlainUid.{PlainUid, uid_cmp}
pub use Rattle.cedar_ast.specs.Text.{Text}
pub use Rattle.cedar_ast.specs.TypeNames.{TypeNamesFit, primitive_words}
pub use Rattle.cedar_ast.specs.declared.entity_type.EntityType.{EntityType}
pub use Rattle.cedar_ast.specs.declared.entity_uid.EntityUID.{EntityUID}
pub use Rattle.cedar_ast.specs.declared.extension.Extensions.{Extensions}
pub use Rattle.cedar_ast.specs.declared.internal_name.InternalName.{InternalName}
pub use Rattle.cedar_ast.specs.declared.loc.Loc.{Loc}
pub use Rattle.cedar_ast.specs.declared.validation_mode.ValidationMode.TheVariants.{Permissive}
pub use Rattle.cedar_builder.specs.DeclaredActions.{AreDeclaredActions}
pub use Rattle.cedar_builder.specs.DeclaredEntityTypes.{AreDeclaredEntityTypes}
pub use Rattle.cedar_builder.specs.Ready.{AreActionsOf, IsReady, IsScopeOf}
pub use Rattle.cedar_builder.specs.SoundActions.{ActionsAreSound}
pub use Rattle.cedar_builder.specs.SoundEntityTypes.{EntityTypesAreSound}
pub use Rattle.cedar_elaboration.specs.DeclaredTypes.{AreElaborated, AreTypesOf}
pub use Rattle.cedar_elaboration.specs.Scope.{Covers, elaborated_types}
pub use Rattle.cedar_elaboration.specs.SoundTypes.{CommonTypesAreSound}
pub use Rattle.cedar_elaboration.specs.declared.type_scope.TypeScope.{TypeScope}
pub use Rattle.cedar_entities.specs.Entities.{MayStandAbove}
pub use Rattle.cedar_entities.specs.Exists.{Exists, IsIdOf, MayHaveId}
pub use Rattle.cedar_fragments.specs.DefinitionFault.{HasNoDefinitionFault, NamesAllWithAttributes}
pub use Rattle.cedar_fragments.specs.FragmentDeclarations.{conditional_bag, written_bag}
pub use Rattle.cedar_fragments.specs.FragmentFault.{NamesAllOfADefinition}
pub use Rattle.cedar_name_resolution.specs.HeldNames.{HoldsJust, held_names}
pub use Rattle.cedar_fragments.specs.Located.{DefinedNamespace, LocatedName, definition_common_types, definition_namespaces, entry_common_names, entry_namespaces, fragment_common_names, fragment_definitions, located_name, named_namespace, named_namespaces, written_common_names}
pub use Rattle.cedar_fragments.specs.WrittenDeclarations.{written_actions, written_entities}
pub use Rattle.cedar_name_resolution.specs.WrittenTypes.{written_common}
pub use Rattle.cedar_fragments.specs.declared.namespace.actions.ActionFragment.{ActionFragment}
pub use Rattle.cedar_fragments.specs.declared.namespace.common_types.CommonTypeDef.{CommonTypeDef}
pub use Rattle.cedar_fragments.specs.declared.namespace.definition.ValidatorNamespaceDef.{ValidatorNamespaceDef}
pub use Rattle.cedar_fragments.specs.declared.namespace.entity_types.EntityTypeFragment.{EntityTypeFragment}
pub use Rattle.cedar_fragments.specs.declared.namespace.fragment.ValidatorSchemaFragment.{ValidatorSchemaFragment}
pub use Rattle.cedar_name_resolution.specs.declared.written.Written.{Written}
pub use Rattle.cedar_queries.specs.GivesLeaf.{pending_types}
pub use Rattle.cedar_queries.specs.Hierarchy.{IsKnownType, MayBeIn, action_descendants, descendants_of, groups, has_name, is_nonempty, types_above}
pub use Rattle.cedar_queries.specs.Incomplete.{IsIncomplete}
pub use Rattle.cedar_queries.specs.KnownAttributes.{AreAttributesOf, AreKnownOfAll, declared_fields}
pub use Rattle.cedar_queries.specs.KnownLaws.{AreCleanTypes, AreExactlyKnown}
pub use Rattle.cedar_queries.specs.Leaves.{leaves_of, schema_leaves}
pub use Rattle.cedar_queries.specs.Possible.{AreDeclaredTypes, IsKnownUid, MayHaveAttribute, MayHaveTags}
pub use Rattle.cedar_queries.specs.RequestEnvs.{environments_left}
pub use Rattle.cedar_queries.specs.RequestTypes.{action_at, actions_for, all_principals, all_resources, context_at}
pub use Rattle.cedar_queries.specs.Unresolved.{unresolved, unresolved_left}
pub use Rattle.cedar_fragments.specs.CollectedDeclarations.{Collects}
pub use Rattle.cedar_schema_ast.specs.ActionBody.{ActionBody}
pub use Rattle.cedar_schema_ast.specs.Declaration.{raw_bag, raw_declarations, raw_fragment}
pub use Rattle.cedar_schema_ast.specs.EntityBody.{EntityBody}
pub use Rattle.cedar_schema_ast.specs.Expr.{Expr}
pub use Rattle.cedar_schema_ast.specs.Reference.{Reference}
pub use Rattle.cedar_schema_ast.specs.declared.json_schema.fragment.Fragment.{Fragment}
pub use Rattle.cedar_schema_ast.specs.declared.json_schema.raw_name.RawName.{RawName}
pub use Rattle.cedar_schema_ast.specs.declared.json_schema.reference_type.ReferenceType.{ReferenceType}
pub use Rattle.cedar_schema_elements.specs.ActionEntities.{plain_action_entity, schema_listing, schema_with}
pub use Rattle.cedar_schema_elements.specs.ActionKind.{kind_principals, kind_resources}
pub use Rattle.cedar_schema_elements.specs.EntityTypeKind.{plain_kind}
pub use Rattle.cedar_schema_elements.specs.RequestEnv.{owned_environment}
pub use Rattle.cedar_schema_elements.specs.ValidatorActionId.{action_of, name_type_loc, plain_action_entry}
pub use Rattle.cedar_schema_elements.specs.ValidatorEntityType.{PlainEntityType, entity_type_of, plain_entry}
pub use Rattle.cedar_schema_elements.specs.declared.action_id.ValidatorActionId.{ValidatorActionId}
pub use Rattle.cedar_schema_elements.specs.declared.entity_type.ValidatorEntityType.{ValidatorEntityType}
pub use Rattle.cedar_schema_elements.specs.declared.entity_type_kind.ValidatorEntityTypeKind.{ValidatorEntityTypeKind}
pub use Rattle.cedar_schema_laws.specs.EndToEnd.{HasNoReservedName, HasRecordContexts, IsBuiltFrom, IsInOrder, StandsUnderItsNames}
pub use Rattle.cedar_schema_semantics.specs.ActionEntities.{AreActionEntities}
pub use Rattle.cedar_schema_semantics.specs.Bag.{Bag, action_uids, declared_actions, declared_common, declared_entities, defined_names, definitions}
pub use Rattle.cedar_schema_semantics.specs.ClosedSchema.{ClosesAction, ClosesSchema, ClosesType}
pub use Rattle.cedar_schema_semantics.specs.ConvertedBack.{IsConvertedBack, IsWritable}
pub use Rattle.cedar_schema_semantics.specs.Counted.{PositionsFit}
pub use Rattle.cedar_schema_semantics.specs.DeclaredSchema.{IsDeclaredAction, IsDeclaredEntityType, IsDeclaredSchema}
pub use Rattle.cedar_schema_semantics.specs.EntityTypeKind.{EntityTypeKind, kind_fields, standard_kind}
pub use Rattle.cedar_schema_semantics.specs.Environments.{AreEnvironmentsOf}
pub use Rattle.cedar_schema_semantics.specs.Fault.{Fault, action_attributes, action_entity_type, out_of_memory, reserved_name}
pub use Rattle.cedar_schema_semantics.specs.IllFormed.{IsFault, IsIllFormed}
pub use Rattle.cedar_schema_semantics.specs.Mentions.{HasOpenRecord, Refers}
pub use Rattle.cedar_schema_semantics.specs.Names.{Names, ResolvesTo}
pub use Rattle.cedar_schema_semantics.specs.PlainSchema.{ActionEntity, ActionKind, PlainSchema, SchemaAction, SchemaEntityType, defined_action, external_action}
pub use Rattle.cedar_schema_semantics.specs.SameBag.{SameBag}
pub use Rattle.cedar_schema_semantics.specs.SameSchema.{SameAction, SameActionEntity, SameActionKind, SameEntityType, SameSchema}
pub use Rattle.cedar_schema_semantics.specs.SchemaError.{fault_of}
pub use Rattle.cedar_schema_semantics.specs.ValidSchema.{IsSchemaFault, IsTypeOfKind, IsValidSchema}
pub use Rattle.cedar_schema_writer.specs.Definitions.{AreProper}
pub use Rattle.cedar_schema_writer.specs.Refusal.{Refuses}
pub use Rattle.cedar_table.specs.Entries.{Entries}
pub use Rattle.cedar_type_rules.specs.Below.{FieldsBelow}
pub use Rattle.cedar_type_rules.specs.Clean.{AreClean, IsClean}
pub use Rattle.cedar_type_rules.specs.Fields.{IsSortedByName}
pub use Rattle.cedar_type_rules.specs.Ty.{Fields, Ty, end, field_at, record_of, union_of}
pub use Rattle.cedar_types.specs.EntityKind.{kind_ty}
pub use Rattle.cedar_types.specs.Layers.{IsSortedByName-fields}
pub use Rattle.cedar_types.specs.Meaning.{attribute_of, fields_of, ty_of}
pub use Rattle.cedar_validation.specs.Copies.{IsActionCopied, IsTypeCopied}
pub use Rattle.cedar_validation.specs.LastNamed.{last_named, last_of_uid}
pub use Rattle.cedar_schema.specs.CollectedFragments.{AreCollectedFragments}
pub use Rattle.cedar_schema.specs.Located.{AreShown, Shows, ShowsFragments, ShowsWritten, common_entries, namespace_entries}
pub use Rattle.cedar_schema.specs.LocatedType.{loc_at, type_at}
pub use Rattle.cedar_schema.specs.Lookup.{IsActionAt, IsAt, IsKeyed, IsTypeAt, plain_type}
pub use Rattle.cedar_schema.specs.NamedOver.{IsNamedOver}
pub use Rattle.cedar_schema.specs.SchemaKeys.{AreKeysLocated}
pub use Rattle.cedar_schema.specs.SchemaParts.{parts_schema}
pub use Rattle.cedar_schema.specs.ShownCommonTypes.{ShownCommonType, common_types_to_show, declared_common_type, fragment_common_types, is_shown, shown_common_type, shown_name, with_base}
pub use Rattle.cedar_schema.specs.ShownNamespaces.{HoldsNamespaces, built_in_namespace, last_defined, printed_namespace, shown_entry, shown_namespace}
pub use Rattle.cedar_schema.specs.ValidatorSchema.{action_entries, action_of_uid, entity_type_named, located_of, schema_entries, schema_of}
pub use Rattle.cedar_schema.specs.declared.collecting.Located.{Located}
pub use Rattle.cedar_schema.specs.declared.located_common_type.LocatedCommonType.{LocatedCommonType}
pub use Rattle.cedar_schema.specs.declared.located_namespace.LocatedNamespace.{LocatedNamespace}
pub use Rattle.cedar_schema.specs.declared.located_type.LocatedType.{LocatedType}
pub use Rattle.cedar_schema.specs.declared.schema.ValidatorSchema.{ValidatorSchema}
