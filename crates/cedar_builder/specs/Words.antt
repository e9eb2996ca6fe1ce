-- The words of clauses, from one place.
pub use Rattle.std.specs.List.{IsDistinct}
pub use Rattle.std.specs.Map.{keys_of}
pub use Rattle.std.specs.Option.{option_map}
pub use Rattle.std.specs.Prelude.{IfErr, IfOk}
pub use Rattle.cedar_ast.specs.Chain.{Chain, more, one}
pub use Rattle.cedar_ast.specs.EntityType.{type_name}
pub use Rattle.cedar_ast.specs.EntityUID.{uid_of}
pub use Rattle.cedar_ast.specs.Extensions.{extension_types}
pub use Rattle.cedar_ast.specs.InternalName.{name_of}
pub use Rattle.cedar_ast.specs.Lists.{HoldsPairwise, SameItems, Twice}
pub use Rattle.cedar_ast.specs.PlainName.{IsActionType, IsReserved, PlainName}
pub use Rattle.cedar_ast.specs.PlainUid.{PlainUid}
pub use Rattle.cedar_ast.specs.Text.{Text}
pub use Rattle.cedar_ast.specs.declared.entity_type.EntityType.{EntityType}
pub use Rattle.cedar_ast.specs.declared.entity_uid.EntityUID.{EntityUID}
pub use Rattle.cedar_ast.specs.declared.extension.Extensions.{Extensions}
pub use Rattle.cedar_elaboration.specs.Refusals.{IsExprFault}
pub use Rattle.cedar_elaboration.specs.Scope.{Covers, CoversExtensions, ElaboratesAs, ResolvesEach, extensions_in_scope}
pub use Rattle.cedar_elaboration.specs.declared.type_scope.TypeScope.{TypeScope}
pub use Rattle.cedar_fragments.specs.ActionDeclarations.{fragment_parent, fragment_requests}
pub use Rattle.cedar_name_resolution.specs.HeldNames.{HoldsJust, held_names}
pub use Rattle.cedar_fragments.specs.TypeDeclarations.{fragment_body}
pub use Rattle.cedar_fragments.specs.WrittenDeclarations.{written_action_body, written_actions, written_entities, written_entity_body}
pub use Rattle.cedar_name_resolution.specs.WrittenTypes.{written_namespace}
pub use Rattle.cedar_fragments.specs.declared.namespace.actions.ActionFragment.{ActionFragment}
pub use Rattle.cedar_fragments.specs.declared.namespace.entity_types.EntityTypeFragment.{EntityTypeFragment}
pub use Rattle.cedar_name_resolution.specs.declared.written.Written.{Written}
pub use Rattle.cedar_graph.specs.Edges.{AreAlike, IsEdgeIn}
pub use Rattle.cedar_graph.specs.Tables.{HasEntry, IsCycle, IsEndIn, IsFaultOf, IsLinkedTo}
pub use Rattle.cedar_graph.specs.declared.table_fault.TableFault.{TableFault}
pub use Rattle.cedar_graph.specs.declared.table_fault.TableFault.TheVariants.{HasCycle, Lacks, Memory}
pub use Rattle.cedar_schema_ast.specs.ActionBody.{ActionBody, Requests, elsewhere, requests}
pub use Rattle.cedar_schema_ast.specs.EntityBody.{EntityBody, enumerated, external, standard}
pub use Rattle.cedar_schema_ast.specs.Expr.{Expr}
pub use Rattle.cedar_schema_ast.specs.NamespaceName.{namespace_name}
pub use Rattle.cedar_schema_ast.specs.Reference.{ActionReference, Reference}
pub use Rattle.cedar_schema_ast.specs.TypeExpr.{type_expr}
pub use Rattle.cedar_schema_ast.specs.declared.json_schema.reference_type.ReferenceType.{ReferenceType}
pub use Rattle.cedar_schema_ast.specs.declared.json_schema.reference_type.ReferenceType.TheVariants.{Entity}
pub use Rattle.cedar_schema_elements.specs.ActionKind.{kind_context, kind_principals, kind_resources}
pub use Rattle.cedar_schema_elements.specs.EntityTypeKind.{plain_kind}
pub use Rattle.cedar_schema_elements.specs.TypeSet.{set_names}
pub use Rattle.cedar_schema_elements.specs.ValidatorActionId.{action_loc, action_of, plain_action_entry}
pub use Rattle.cedar_schema_elements.specs.ValidatorEntityType.{AreLocatedAsKeys, PlainEntityType, descendant_names, entity_type_of, plain_entry}
pub use Rattle.cedar_schema_elements.specs.declared.action_id.ValidatorActionId.{ValidatorActionId}
pub use Rattle.cedar_schema_elements.specs.declared.entity_type.ValidatorEntityType.{ValidatorEntityType}
pub use Rattle.cedar_schema_semantics.specs.Bag.{Bag, action_uids, declared_actions, declared_entities, defined_names, definitions}
pub use Rattle.cedar_schema_semantics.specs.Counted.{CountsInEntity, CountsInRequests, IsAtEntityTypePosition, IsCounted, IsPrincipalOrResource, entity_parents}
pub use Rattle.cedar_schema_semantics.specs.DeclaredSchema.{AreDeclaredTags, IsDeclaredAction, IsDeclaredActionKind, IsDeclaredEntityType, IsDeclaredKind, IsNamedBy}
pub use Rattle.cedar_schema_semantics.specs.Defined.{Defined, names_of}
pub use Rattle.cedar_schema_semantics.specs.Descent.{HasParent, HasParentAction, IsDescendant, IsDescendantAction}
pub use Rattle.cedar_schema_semantics.specs.ElaboratesTo.{ElaboratesTo, IsNoRecord, IsRecordType, as_common, as_record}
pub use Rattle.cedar_schema_semantics.specs.EntityTypeKind.{EntityTypeKind, enumerated_kind, external_kind, standard_kind}
pub use Rattle.cedar_schema_semantics.specs.Fault.{Fault, action_not_defined, context_not_record, duplicate_action, duplicate_entity_type, enumerated_below, external_below_enumerated, open_record, out_of_memory, reserved_name, shape_not_record, type_not_defined, undeclared_entity_types, unknown_extension_type}
pub use Rattle.cedar_schema_semantics.specs.IllFormed.{IsFault}
pub use Rattle.cedar_schema_semantics.specs.Mentions.{HasOpenRecord}
pub use Rattle.cedar_schema_semantics.specs.Names.{IsDefined, IsUnresolved, Names, NamesAction, NamesNoAction, ResolvesTo}
pub use Rattle.cedar_schema_semantics.specs.Occurrences.{IsFirst}
pub use Rattle.cedar_schema_semantics.specs.PlainSchema.{ActionKind, defined_action, external_action}
pub use Rattle.cedar_schema_semantics.specs.SchemaError.{fault_of}
pub use Rattle.cedar_schema_semantics.specs.Together.{ActionSays, EntitySays, IsActionParent, IsExternalType, IsParent, action_definition_in, defined_actions, defined_entities, entity_definition_in, entity_definitions}
pub use Rattle.cedar_schema_semantics.specs.ValidSchema.{IsEnumerated}
pub use Rattle.cedar_table.specs.Entries.{Entries, get_by}
pub use Rattle.cedar_type_rules.specs.Ty.{Fields, Ty, record_of}
pub use Rattle.cedar_type_rules.specs.declared.open_tag.OpenTag.{OpenTag}
pub use Rattle.cedar_type_rules.specs.declared.open_tag.OpenTag.TheVariants.{ClosedAttributes}
pub use Rattle.cedar_types.specs.Meaning.{attribute_of, attribute_step, attributes_step, fields_of, ty_of, type_step}
pub use Rattle.cedar_types.specs.declared.attributes.AttributeType.{AttributeType}
pub use Rattle.cedar_types.specs.declared.attributes.Attributes.{Attributes}
pub use Rattle.cedar_types.specs.declared.types.Type.{Record, fold_out-Type, map-Type, roll-out-Type, «Type»}
unfoldable pub use Rattle.cedar_types.specs.declared.types.Type.{out-Type, roll-Type}
pub use Rattle.cedar_types.specs.declared.types.Type.TheVariants.{rolls-Record}
pub use Rattle.cedar_builder.specs.ActionNodes.{IsElaboratedAction, SameAction}
pub use Rattle.cedar_builder.specs.ActionSteps.{AreNamed, AreSoundRequests, IsElaboratedKind, IsParentActionFault, IsPlaceFault, IsRequestTypeFault, IsRequestsFault, IsTypeFault, NamesType, is_action_definition, names_in, requests_in}
pub use Rattle.cedar_builder.specs.DeclaredActions.{AreDeclaredActions}
pub use Rattle.cedar_builder.specs.DeclaredEntityTypes.{AreDeclaredEntityTypes}
pub use Rattle.cedar_builder.specs.DeclaredNodes.{AreInOrder, AreLocated, AreReady, IsCollected, IsCollectedAt, IsCollectingFault, IsDefinedAt, IsEdgeOf, IsParentFault, IsPut, Leads, NoneAbove, SaysIf, SaysTogether, at_key, defined_in, definition_in, named, parents_in}
pub use Rattle.cedar_builder.specs.EntityTypeNodes.{AreLinked, AreTheSame, AreUnlinked, IsAbove, IsEdgeFault, IsEdgeSound, IsElaboratedEntity, IsEnumeratedAt, IsExternalAt, IsLinkFault, IsLinkingFault, EntityTypeLeadsTo, SameType, has_descendant, node_at}
pub use Rattle.cedar_builder.specs.EntityTypeSteps.{AreElaboratedTags, HasNoRecord, IsBodyFault, IsSoundBody, entry_names, is_entity_definition}
pub use Rattle.cedar_builder.specs.Ready.{AreActionsOf, IsReady}
pub use Rattle.cedar_builder.specs.SoundActions.{ActionsAreSound}
pub use Rattle.cedar_builder.specs.SoundEntityTypes.{EntityTypesAreSound}
