-- The words of clauses, from one place.
pub use Rattle.cedar_ast.specs.EntityType.{type_loc, type_name}
pub use Rattle.cedar_ast.specs.EntityUID.{uid_loc, uid_of, uid_type_loc}
pub use Rattle.cedar_ast.specs.Id.{id_text}
pub use Rattle.cedar_ast.specs.Identifier.{reserved_word}
pub use Rattle.cedar_ast.specs.InternalName.{name_loc, name_of}
pub use Rattle.cedar_ast.specs.Iterators.{HoldsOfAll}
pub use Rattle.cedar_ast.specs.Lists.{HoldsPairwise, Included, SameItems}
pub use Rattle.cedar_ast.specs.Name.{plain_name}
pub use Rattle.cedar_ast.specs.PlainName.{IsActionType, IsReserved, PlainName, action_word}
pub use Rattle.cedar_ast.specs.PlainUid.{PlainUid}
pub use Rattle.cedar_ast.specs.Text.{Text, text_cmp}
pub use Rattle.cedar_ast.specs.UnreservedId.{unreserved_id_text}
pub use Rattle.cedar_ast.specs.declared.entity_type.EntityType.{EntityType}
pub use Rattle.cedar_ast.specs.declared.entity_uid.EntityUID.{EntityUID}
pub use Rattle.cedar_ast.specs.declared.extension.Extensions.{Extensions}
pub use Rattle.cedar_ast.specs.declared.internal_name.InternalName.{InternalName}
pub use Rattle.cedar_ast.specs.declared.loc.Loc.{Loc}
pub use Rattle.cedar_ast.specs.declared.name.Name.{Name}
pub use Rattle.cedar_ast.specs.declared.unreserved_id.UnreservedId.{UnreservedId}
pub use Rattle.cedar_name_resolution.specs.DeclaredJust.{DeclaresJust}
pub use Rattle.cedar_name_resolution.specs.HeldNames.{AreTheDeclaredNames, HasAlso, HoldsAlso, HoldsJust, StandsWhere, held_names, listed_names}
pub use Rattle.cedar_name_resolution.specs.QualifyFault.{HasToResolveFor, HasToResolveIn, IsAnyParent, IsParentIn, IsRequested, IsRequestedIn, IsUnresolvable, IsUnresolvableBag, IsUnresolvableIn, NoneIsReserved}
pub use Rattle.cedar_name_resolution.specs.Refused.{IsRefusedAmong}
pub use Rattle.cedar_name_resolution.specs.WrittenTypes.{written_common, written_namespace}
pub use Rattle.cedar_name_resolution.specs.declared.defs.all_defs.AllDefs.{AllDefs}
pub use Rattle.cedar_schema_ast.specs.ActionBody.{ActionBody, action_body, applies_to, parent_action, parent_actions}
pub use Rattle.cedar_schema_ast.specs.CommonTypeId.{common_type_text}
pub use Rattle.cedar_schema_ast.specs.ConditionalExpr.{own_reference, positional_expr, positional_reference}
pub use Rattle.cedar_schema_ast.specs.ConditionalName.{conditional_reference}
pub use Rattle.cedar_schema_ast.specs.Copies.{AlikeConditional, AlikeEntity, AlikeFull, LocatesAlike, RefersAlike}
pub use Rattle.cedar_schema_ast.specs.Declaration.{Body, Declaration, action, action_declarations, common_declarations, common_type, entity_declarations, entity_type, raw_declarations, raw_fragment}
pub use Rattle.cedar_schema_ast.specs.EntityBody.{EntityBody, external, raw_entity_body, standard}
pub use Rattle.cedar_schema_ast.specs.Expr.{Expr, member, members_from, named, record_expr, set_expr}
pub use Rattle.cedar_schema_ast.specs.NamespaceName.{namespace_name}
pub use Rattle.cedar_schema_ast.specs.PossibleNames.{names_of}
pub use Rattle.cedar_schema_ast.specs.RawExpr.{raw_expr, raw_reference}
pub use Rattle.cedar_schema_ast.specs.Reference.{ActionReference, Reference, name_within, path_within}
pub use Rattle.cedar_schema_ast.specs.TypeExpr.{flag_and_expr, record_type_expr, type_expr, variant_expr}
pub use Rattle.cedar_schema_ast.specs.TypeLocs.{Locs, attribute_locs, attribute_locs_step, record_locs, record_locs_step, type_locs, type_locs_step, variant_locs, variant_locs_step}
pub use Rattle.cedar_schema_ast.specs.declared.json_schema.action_type.ActionType.{ActionType}
pub use Rattle.cedar_schema_ast.specs.declared.json_schema.common_type_id.CommonTypeId.{CommonTypeId}
pub use Rattle.cedar_schema_ast.specs.declared.json_schema.conditional_name.ConditionalName.{ConditionalName}
pub use Rattle.cedar_schema_ast.specs.declared.json_schema.fragment.CommonType.{CommonType}
pub use Rattle.cedar_schema_ast.specs.declared.json_schema.fragment.Fragment.{Fragment}
pub use Rattle.cedar_schema_ast.specs.declared.json_schema.fragment.NamespaceDefinition.{NamespaceDefinition}
pub use Rattle.cedar_schema_ast.specs.declared.json_schema.qualify_error.QualifyError.{QualifyError}
pub use Rattle.cedar_schema_ast.specs.declared.json_schema.raw_name.RawName.{RawName}
pub use Rattle.cedar_schema_ast.specs.declared.json_schema.reference_type.ReferenceType.{ReferenceType}
pub use Rattle.cedar_schema_ast.specs.declared.json_schema.reference_type.ReferenceType.TheVariants.{Common, CommonOrEntity, Entity}
pub use Rattle.cedar_schema_ast.specs.declared.json_schema.type_of.RecordType.{RecordType, fold-roll-RecordType, fold_out-RecordType, out-RecordType, roll-RecordType}
pub use Rattle.cedar_schema_ast.specs.declared.json_schema.type_of.Type.{CommonTypeRef, Plain, the_lemmas, «Type»}
pub use Rattle.cedar_schema_ast.specs.declared.json_schema.type_of.TypeOfAttribute.{TypeOfAttribute, fold_out-TypeOfAttribute, out-TypeOfAttribute}
pub use Rattle.cedar_schema_ast.specs.declared.json_schema.type_of.TypeVariant.{Boolean, EntityOrCommon, Extension, Long, Record, Set, TypeVariant}
pub use Rattle.cedar_schema_semantics.specs.Bag.{Bag, action_in, action_uids, common_in, declared_actions, declared_common, declared_entities, declared_name, declared_uid, entity_in}
pub use Rattle.cedar_schema_semantics.specs.Counted.{HasToResolve, IsEntityTypePosition, IsPrincipalOrResource, PositionsFit, entity_parents}
pub use Rattle.cedar_schema_semantics.specs.Fault.{Fault, action_attributes, action_entity_type, out_of_memory, reserved_name}
pub use Rattle.cedar_schema_semantics.specs.IllFormed.{HasAttributes, IsFault}
pub use Rattle.cedar_schema_semantics.specs.Mentions.{MembersRefer, Refers}
pub use Rattle.cedar_schema_semantics.specs.Names.{IsDefined, Names, NamesAction, NamesNoAction, ResolvesTo}
pub use Rattle.cedar_schema_semantics.specs.Occurrences.{IsFirst}
pub use Rattle.cedar_schema_semantics.specs.Resolved.{Resolves, ResolvesBag, ResolvesBody, ResolvesDeclaration, ResolvesEntityBody, ResolvesMembers, ResolvesParent, ResolvesReference, ResolvesRequests, ResolvesTags, reference_to_one, resolves_extension, resolves_long, resolves_member, resolves_named, resolves_no_member, resolves_record, resolves_set, resolves_text, resolves_truth}
pub use Rattle.cedar_schema_semantics.specs.ResolvedExpr.{resolved_expr, resolved_record, resolved_reference, resolved_variant}
pub use Rattle.cedar_schema_semantics.specs.SchemaError.{carried_action, fault_of, qualify_fault}
pub use Rattle.cedar_fragments.specs.ActionDeclarations.{action_fragment_body, action_fragment_declaration, action_fragment_declarations, fragment_parent, fragment_requests}
pub use Rattle.cedar_fragments.specs.ActionTypeName.{unqualified_action_type}
pub use Rattle.cedar_fragments.specs.Collected.{CollectsAlso, resolved_bag}
pub use Rattle.cedar_fragments.specs.CollectedDeclarations.{AreCollectedDeclarations, Collects}
pub use Rattle.cedar_fragments.specs.DeclaredAs.{declared_action, declared_as, name_of_parts, namespace_of, within_part}
pub use Rattle.cedar_fragments.specs.DeclaredNames.{common_type_names, declared_names, definition_names, entity_type_names, fragment_names, uids_of_actions}
pub use Rattle.cedar_fragments.specs.DefinitionFault.{GivesNoCause, HasNoDefinitionFault, IsDefinitionFault, IsEntityTypeNameFault, IsSound, NamesAllWithAttributes, NamesNoAttributes}
pub use Rattle.cedar_fragments.specs.DefinitionsPairwise.{conditional_pairwise, entry_declarations, entry_namespace, located_namespace, located_namespaces, locs_pairwise, raw_located_namespaces, raw_pairwise, resolved_in_turn, written_pairwise}
pub use Rattle.cedar_fragments.specs.FragmentCopies.{IsActionDefCopy, IsActionFragmentCopy, IsActionParentCopy, IsActionsDefCopy, IsCommonTypeDefCopy, IsCommonTypeDefsCopy, IsEntityTypeDefCopy, IsEntityTypeFragmentCopy, IsEntityTypesDefCopy, IsNamespaceDefCopy, IsRequestsCopy, IsSchemaFragmentCopy, IsTagsCopy, SameDeclarations}
pub use Rattle.cedar_fragments.specs.FragmentDeclarations.{conditional_bag, conditional_definition, conditional_fragment, definition_declarations, definition_namespace, fragment_declarations, resolved_action_type, resolved_definition, resolved_fragment, written_bag, written_definition, written_fragment}
pub use Rattle.cedar_fragments.specs.FragmentFault.{NamesAllOfADefinition}
pub use Rattle.cedar_fragments.specs.FragmentLocs.{action_def_locs, action_fragment_locs, actions_locs, common_type_locs, common_types_locs, definition_locs, entity_fragment_locs, entity_type_locs, entity_types_locs, no_locs, parent_locs, requests_locs, tags_locs}
pub use Rattle.cedar_fragments.specs.FragmentNamespaces.{fragment_namespaces}
pub use Rattle.cedar_fragments.specs.GivenCommonTypes.{given_common_type, given_common_types}
pub use Rattle.cedar_fragments.specs.Located.{LocatedName, action_defs, common_type_defs, definition_common_names, definition_loc, definition_name, definition_namespaces, entity_type_defs, entry_common_names, entry_namespaces, fragment_common_names, fragment_definitions, located_common_names, located_name, located_plain_name, named_namespace, named_namespaces, raw_common_names, raw_namespaces, written_common_names}
pub use Rattle.cedar_fragments.specs.TypeDeclarations.{common_type_declaration, common_type_declarations, entity_type_declaration, entity_type_declarations, fragment_body}
pub use Rattle.cedar_fragments.specs.WithAttributes.{id_where, with_attributes}
pub use Rattle.cedar_fragments.specs.WrittenDeclarations.{written_action_body, written_actions, written_entities, written_entity_body}
pub use Rattle.cedar_fragments.specs.declared.collected_declarations.CollectedDeclarations.{CollectedDeclarations}
pub use Rattle.cedar_fragments.specs.declared.declarations.Declarations.{Declarations}
pub use Rattle.cedar_fragments.specs.declared.namespace.action_def.ActionDef.{ActionDef}
pub use Rattle.cedar_fragments.specs.declared.namespace.actions.ActionRequests.{ActionRequests}
pub use Rattle.cedar_fragments.specs.declared.namespace.actions.ActionsDef.{ActionsDef}
pub use Rattle.cedar_fragments.specs.declared.namespace.common_types.CommonTypeDef.{CommonTypeDef}
pub use Rattle.cedar_fragments.specs.declared.namespace.common_types.CommonTypeDefs.{CommonTypeDefs}
pub use Rattle.cedar_fragments.specs.declared.namespace.definition.ValidatorNamespaceDef.{ValidatorNamespaceDef}
pub use Rattle.cedar_fragments.specs.declared.namespace.entity_type_def.EntityTypeDef.{EntityTypeDef}
pub use Rattle.cedar_fragments.specs.declared.namespace.entity_types.EntityTypeFragment.{EntityTypeFragment}
pub use Rattle.cedar_fragments.specs.declared.namespace.entity_types.EntityTypesDef.{EntityTypesDef}
pub use Rattle.cedar_fragments.specs.declared.namespace.fragment.ValidatorSchemaFragment.{ValidatorSchemaFragment}
