-- The words of clauses, from one place.
pub use Rattle.cedar_ast.specs.EntityType.{type_name}
pub use Rattle.cedar_ast.specs.Extensions.{extension_types}
pub use Rattle.cedar_ast.specs.Identifier.{reserved_word}
pub use Rattle.cedar_ast.specs.Joined.{each_after, joined}
pub use Rattle.cedar_ast.specs.Lists.{Twice}
pub use Rattle.cedar_ast.specs.NonEmpty.{items_of}
pub use Rattle.cedar_ast.specs.PlainName.{IsUnqualified, PlainName, name_cmp, name_text}
pub use Rattle.cedar_ast.specs.PlainUid.{PlainUid, uid_cmp}
pub use Rattle.cedar_ast.specs.Text.{Text}
pub use Rattle.cedar_ast.specs.TypeNames.{TypeNamesFit, primitive_words}
pub use Rattle.cedar_ast.specs.UidText.{quoted_text}
pub use Rattle.cedar_ast.specs.declared.extension.Extensions.{Extensions}
pub use Rattle.cedar_schema_ast.specs.ActionBody.{ActionBody, Requests, elsewhere, requests}
pub use Rattle.cedar_schema_ast.specs.Declaration.{Body, Declaration, action, common_type, entity_type}
pub use Rattle.cedar_schema_ast.specs.EntityBody.{EntityBody, enumerated, external, standard}
pub use Rattle.cedar_schema_ast.specs.Expr.{Expr, Members, extension_expr}
pub use Rattle.cedar_schema_ast.specs.Reference.{Reference}
pub use Rattle.cedar_schema_ast.specs.ReferenceText.{action_reference_text}
pub use Rattle.cedar_schema_ast.specs.declared.json_schema.reference_type.ReferenceType.{ReferenceType}
pub use Rattle.cedar_schema_ast.specs.declared.json_schema.reference_type.ReferenceType.TheVariants.{Common, CommonOrEntity, Entity}
pub use Rattle.cedar_type_rules.specs.Ty.{Fields, Ty, field, record_of, set_of, union_of}
pub use Rattle.cedar_type_rules.specs.declared.open_tag.OpenTag.TheVariants.{ClosedAttributes}
pub use Rattle.cedar_schema_semantics.specs.ActionEntities.{AreActionEntities, DefinesAction, IsDefinedKind, IsEntityOfAction}
pub use Rattle.cedar_schema_semantics.specs.Admits.{Admits, AdmitsEach, AdmitsMembers, admits_common, admits_entity, admits_extension, admits_first, admits_long, admits_missing, admits_no_member, admits_none, admits_record, admits_set, admits_text, admits_there, admits_truth, member_names}
pub use Rattle.cedar_schema_semantics.specs.Bag.{Bag, action_in, action_uids, alias_name, aliases, built_in_name, built_in_types, built_ins, common_in, declared_actions, declared_common, declared_entities, declared_name, declared_types, declared_uid, defined_names, definitions, entity_in, is_declared_here}
pub use Rattle.cedar_schema_semantics.specs.ClosedSchema.{ClosesAction, ClosesSchema, ClosesType}
pub use Rattle.cedar_schema_semantics.specs.ConvertedBack.{AreFullNames, AreFullUids, AreRequestsWritten, AreTagsWritten, IsActionDeclaration, IsConvertedBack, IsKindWritten, IsNameWrittenIn, IsPathOf, IsTypeDeclaration, IsTypeWrittenIn, IsUidWrittenIn, IsWritable, NamesNoOther, NamesNoOtherAction, extension_written, fields_written, full_name, full_uid, schema_names, type_written}
pub use Rattle.cedar_schema_semantics.specs.Counted.{CountsIn, CountsInEntity, CountsInRequests, HasToResolve, IsAtEntityTypePosition, IsCounted, IsEntityTypePosition, IsPrincipalOrResource, PositionsFit, entity_parents}
pub use Rattle.cedar_schema_semantics.specs.DeclaredSchema.{AreDeclaredTags, IsActionKindOver, IsDeclaredAction, IsDeclaredActionKind, IsDeclaredEntityType, IsDeclaredKind, IsDeclaredSchema, IsKindOver, IsNamedBy}
pub use Rattle.cedar_schema_semantics.specs.Defined.{Defined, IsCommon, names_of}
pub use Rattle.cedar_schema_semantics.specs.Descent.{HasParent, HasParentAction, IsDescendant, IsDescendantAction}
pub use Rattle.cedar_schema_semantics.specs.ElaboratesTo.{ElaboratesTo, IsNoRecord, IsRecordType, MembersElaborateTo, as_common, as_entity, as_extension, as_long, as_member, as_no_member, as_record, as_set, as_text, as_truth}
pub use Rattle.cedar_schema_semantics.specs.EntityTypeKind.{EntityTypeKind, enumerated_kind, external_kind, kind_fields, kind_openness, kind_tags, standard_kind}
pub use Rattle.cedar_schema_semantics.specs.Environments.{AreDeclaredEnvironments, AreEnvironmentsOf, Environment, IsDeclaredEnvironment, IsDeclaredRequest, IsEnvironmentOf, IsRequestOf}
pub use Rattle.cedar_schema_semantics.specs.Fault.{Fault, action_attributes, action_cycle, action_entity_type, action_not_defined, action_shadowing, common_type_cycle, context_not_record, duplicate_action, duplicate_common_type, duplicate_entity_type, enumerated_below, external_below_enumerated, invalid_action_type, kind_text, open_record, out_of_memory, reserved_name, shape_not_record, type_not_defined, type_shadowing, undeclared_action_descendant, undeclared_entity_types, unknown_extension_type}
pub use Rattle.cedar_schema_semantics.specs.FaultText.{fault_text}
pub use Rattle.cedar_schema_semantics.specs.IllFormed.{HasAttributes, HasUnknownParent, IsFault, IsIllFormed, RefersToCommon}
pub use Rattle.cedar_schema_semantics.specs.Mentions.{HasOpenRecord, MembersHaveOpenRecord, MembersMentionExtension, MembersRefer, MentionsExtension, Refers}
pub use Rattle.cedar_schema_semantics.specs.Names.{IsDefined, IsEntity, IsUnresolved, MayNameCommon, MayNameEntity, Names, NamesAction, NamesNoAction, ResolvesTo}
pub use Rattle.cedar_schema_semantics.specs.Occurrences.{IsFirst}
pub use Rattle.cedar_schema_semantics.specs.PlainSchema.{ActionEntity, ActionKind, PlainSchema, SchemaAction, SchemaEntityType, defined_action, external_action}
pub use Rattle.cedar_schema_semantics.specs.Resolved.{Resolves, ResolvesBag, ResolvesBody, ResolvesDeclaration, ResolvesEntityBody, ResolvesMembers, ResolvesParent, ResolvesReference, ResolvesRequests, ResolvesTags, reference_to_one, resolves_extension, resolves_long, resolves_member, resolves_named, resolves_no_member, resolves_record, resolves_set, resolves_text, resolves_truth}
pub use Rattle.cedar_schema_semantics.specs.ResolvedExpr.{resolved_expr, resolved_record, resolved_reference, resolved_variant}
pub use Rattle.cedar_schema_semantics.specs.SameBag.{SameBag, SameEntityBody, SameRequests, SaysAll}
pub use Rattle.cedar_schema_semantics.specs.SameSchema.{SameAction, SameActionEntity, SameActionKind, SameEntityType, SameSchema}
pub use Rattle.cedar_schema_semantics.specs.SchemaError.{carried_action, context_or_shape_fault, fault_of, feature_fault, qualify_fault}
pub use Rattle.cedar_schema_semantics.specs.Shadowing.{ShadowsAction, ShadowsType}
pub use Rattle.cedar_schema_semantics.specs.Together.{ActionSays, EntitiesSay, EntitySays, IsActionParent, IsExternalAction, IsExternalType, IsParent, action_definition_in, defined_actions, defined_entities, entity_definition_in, entity_definitions}
pub use Rattle.cedar_schema_semantics.specs.TypeMentions.{FieldsMentionEntity, FieldsMentionExtensionType, MentionsEntity, MentionsExtensionType}
pub use Rattle.cedar_schema_semantics.specs.ValidSchema.{HasAction, HasEntityType, IsContextOf, IsEnumerated, IsExternal, IsKnownType, IsOfKind, IsPrincipalOrResourceOf, IsSchemaFault, IsTypeIn, IsTypeOfKind, IsUnknownType, IsValidSchema, ListsDescendant, ListsDescendantAction}
