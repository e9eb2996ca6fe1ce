-- The words of clauses, from one place.
pub use Rattle.cedar_ast.specs.Eid.{eid_text}
pub use Rattle.cedar_ast.specs.Entities.{entities_of, entity_at}
pub use Rattle.cedar_ast.specs.Entity.{entity_ancestors, entity_attrs, entity_tags, entity_uid}
pub use Rattle.cedar_ast.specs.EntityType.{type_name}
pub use Rattle.cedar_ast.specs.EntityUID.{uid_of}
pub use Rattle.cedar_ast.specs.Fits.{Gives}
pub use Rattle.cedar_ast.specs.IsValue.{AreEntries, IsName, IsText, IsValue}
pub use Rattle.cedar_ast.specs.Lists.{HoldsPairwise, Included, SameItems, Twice}
pub use Rattle.cedar_ast.specs.PlainName.{IsActionType, PlainName, name_cmp}
pub use Rattle.cedar_ast.specs.PlainUid.{PlainUid, uid_cmp}
pub use Rattle.cedar_ast.specs.RestrictedExpr.{tree_of}
pub use Rattle.cedar_ast.specs.Text.{Text}
pub use Rattle.cedar_ast.specs.Tree.{Entries, Tree, entries_from, entry, entry_at, entry_names, map_value, no_entry, uid_value}
pub use Rattle.cedar_ast.specs.Value.{value_expr}
pub use Rattle.cedar_ast.specs.declared.eid.Eid.{Eid}
pub use Rattle.cedar_ast.specs.declared.entities.Entities.{Entities}
pub use Rattle.cedar_ast.specs.declared.entity.Entity.{Entity}
pub use Rattle.cedar_ast.specs.declared.entity_type.EntityType.{EntityType}
pub use Rattle.cedar_ast.specs.declared.entity_uid.EntityUID.{EntityUID}
pub use Rattle.cedar_ast.specs.declared.extension.Extensions.{Extensions}
pub use Rattle.cedar_ast.specs.declared.memory.Memory.{Memory}
pub use Rattle.cedar_ast.specs.declared.validation_mode.ValidationMode.TheVariants.{Permissive}
pub use Rattle.cedar_ast.specs.declared.value.Value.{Value}
pub use Rattle.cedar_counterexample.specs.Between.{IsApartAt, IsOutsideBetween, PlainBetween, attributes_between_of, between_of}
pub use Rattle.cedar_counterexample.specs.LostIds.{IsLostUid, IsLostUidOf}
pub use Rattle.cedar_counterexample.specs.StandsFor.{IsExistingFor}
pub use Rattle.cedar_counterexample.specs.Steps.{IsOutsideAt, PlainStep, attribute_step, step_of, steps_of}
pub use Rattle.cedar_counterexample.specs.declared.between.AttributesOutsideBetween.{AttributesOutsideBetween}
pub use Rattle.cedar_counterexample.specs.declared.between.OutsideBetween.{OutsideBetween}
pub use Rattle.cedar_counterexample.specs.declared.steps.Step.{Step}
pub use Rattle.cedar_queries.specs.GivesLeaf.{GivesLeaf, pending_types}
pub use Rattle.cedar_queries.specs.Leaves.{context_types, entity_type_types, field_types, leaves, leaves_of, leaves_of_fields, schema_leaves}
pub use Rattle.cedar_queries.specs.Unresolved.{external_actions, external_types, is_external_kind, is_external_type, unresolved, unresolved_action, unresolved_type}
pub use Rattle.cedar_queries.specs.declared.leaves.TypeIterator.{TypeIterator}
pub use Rattle.cedar_schema.specs.ValidatorSchema.{action_entries, action_of_uid, entity_type_named, schema_entries, schema_of}
pub use Rattle.cedar_schema.specs.declared.schema.ValidatorSchema.{ValidatorSchema}
pub use Rattle.cedar_schema_elements.specs.ActionEntities.{named_values, plain_action_entity, schema_with}
pub use Rattle.cedar_schema_elements.specs.ActionKind.{kind_context, kind_principals, kind_resources}
pub use Rattle.cedar_schema_elements.specs.EntityTypeKind.{plain_kind}
pub use Rattle.cedar_schema_elements.specs.ValidatorActionId.{action_of, plain_action_entry}
pub use Rattle.cedar_schema_elements.specs.ValidatorEntityType.{entity_type_of, plain_entry}
pub use Rattle.cedar_schema_elements.specs.declared.action_id.ValidatorActionId.{ValidatorActionId}
pub use Rattle.cedar_schema_elements.specs.declared.entity_type.ValidatorEntityType.{ValidatorEntityType}
pub use Rattle.cedar_schema_elements.specs.declared.entity_type_kind.ValidatorEntityTypeKind.{ValidatorEntityTypeKind}
pub use Rattle.cedar_schema_semantics.specs.ActionEntities.{AreActionEntities, DefinesAction, IsDefinedKind, IsEntityOfAction}
pub use Rattle.cedar_schema_semantics.specs.EntityTypeKind.{EntityTypeKind, enumerated_kind, external_kind, kind_fields, kind_openness, kind_tags, standard_kind}
pub use Rattle.cedar_schema_semantics.specs.Environments.{Environment, IsEnvironmentOf, IsRequestOf}
pub use Rattle.cedar_schema_semantics.specs.PlainSchema.{ActionEntity, ActionKind, PlainSchema, SchemaAction, SchemaEntityType, defined_action, external_action}
pub use Rattle.cedar_schema_semantics.specs.SameSchema.{SameAction, SameActionKind, SameEntityType, SameSchema}
pub use Rattle.cedar_schema_semantics.specs.ValidSchema.{HasAction, HasEntityType, IsContextOf, IsEnumerated, IsOfKind, IsTypeOfKind, ListsDescendant, ListsDescendantAction}
pub use Rattle.cedar_type_rules.specs.Fields.{field_names}
pub use Rattle.cedar_type_rules.specs.Has.{Has, HasFieldsBy}
pub use Rattle.cedar_type_rules.specs.InclusionLaws.{ValuesIncluded}
pub use Rattle.cedar_type_rules.specs.Stated.{AreInhabitedWith, IsInhabitedWith}
pub use Rattle.cedar_type_rules.specs.Ty.{Fields, Ty, end, field, fields_from, long, record_of, set_of, union_of}
pub use Rattle.cedar_type_rules.specs.declared.open_tag.OpenTag.{OpenTag}
pub use Rattle.cedar_type_rules.specs.declared.open_tag.OpenTag.TheVariants.{ClosedAttributes}
pub use Rattle.cedar_types.specs.Attributes.{plain_attributes}
pub use Rattle.cedar_types.specs.EntityLUB.{lub_names}
pub use Rattle.cedar_types.specs.Meaning.{fields_of, ty_of}
pub use Rattle.cedar_types.specs.Samples.{value_tree, value_trees}
pub use Rattle.cedar_types.specs.declared.types.Type.{«Type»}
pub use Rattle.cedar_compare.specs.Ancestors.{AreActionAncestors, AreActionAncestorsSoFar, AreAncestorsLost, AreAncestorsSoFar, AreUppersSoFar, IsActionAncestorSoFar, IsActionAnswer, IsAncestorKept, IsAncestorLost, IsAncestorSoFar, IsListedBy, IsUpperSoFar, ListsApart, action_upper_at, kept_under, upper_at}
pub use Rattle.cedar_compare.specs.Choices.{IsIdOutside, MayHave, choice_texts, kind_choices}
pub use Rattle.cedar_compare.specs.CompareFault.{IsComparable, IsCompareFault, IsCompleteSchema, IsUnsampledType, IsVersionFault}
pub use Rattle.cedar_compare.specs.Difference.{AreAnswers, AreLosses, AreTagsApart, AreValuesApart, IsActionCause, IsAlike, IsAnswer, IsCauseOfKinds, IsEnvironmentFor, IsLoss, IsTypeCause, KeepsOf, LacksChoice, LosesOf, PlainCause, PlainDifference, Subject, action_above, action_lost, action_subject, choice_removed, entity_lost, environment_subject, removed, request_lost, subject_cmp, subject_of, type_subject, values_apart}
pub use Rattle.cedar_entities.specs.Entities.{AreAncestorsIn, AreTagsOf, IsEntityIn, IsEntityOfKind, IsEntityOfType, IsReal, MayStandAbove, NamesOnlyExisting}
pub use Rattle.cedar_compare.specs.Fresh.{IsFreshIn, NoLongerChoice}
pub use Rattle.cedar_compare.specs.Keeps.{IsLostAction, IsLostEntity, IsLostRequest, Keeps, KeepsAction, KeepsEntityType, KeepsRequest, LosesAction, LosesEntityType, LosesRequest}
pub use Rattle.cedar_schema.specs.Lookup.{IsActionAt, IsAt, IsKeyed, IsTypeAt, plain_type}
pub use Rattle.cedar_compare.specs.Losses.{AreAllRequests, AreEnvironmentSubjects, action_subjects, type_subjects}
pub use Rattle.cedar_compare.specs.LostEntities.{AreKept, AreTagsIn, IsAncestorCause, IsBelowAnswer, IsBesideAnswer, IsChoiceAnswer, IsChoiceOf, IsSampleOf, IsTagOutside, IsTypeLoss, MayStandOver, bare_entity, one_tag}
pub use Rattle.cedar_compare.specs.LostUids.{AreLostSoFar, AreLostUids, EnumeratesNone, IsKeptAt, IsLostIn}
pub use Rattle.cedar_compare.specs.LostRequests.{AreRequestsOf, IsAppliedBy, context_at, environment_with, new_action, subjects_with}
pub use Rattle.cedar_compare.specs.PlainRequests.{AreActionAnswers, AreChoicesAt, HasEnvironment, IsContextIn, IsContextOutside, IsEnvironmentLacking, IsSampleRequest, IsUidOfType, IsUidOutside}
pub use Rattle.cedar_compare.specs.Reported.{plain_cause, plain_difference, plain_request}
pub use Rattle.cedar_entities.specs.Exists.{Exists, IsIdOf, MayHaveId}
pub use Rattle.cedar_entities.specs.Inclusion.{HasUidOf, HasUidsIn, FieldsHaveUids, IncludedBetween, KeepsIdsOf, KeepsUids, ValuesKept}
pub use Rattle.cedar_entities.specs.Naming.{NamesOnly, NamesWhatExists}
pub use Rattle.cedar_entities.specs.Requests.{IsOfTypes, IsRealRequest, IsRequestIn, PlainRequest}
pub use Rattle.cedar_compare.specs.Sampled.{HasUidsHere, IsExistingOf, IsLeafSampled, IsSampled, IsSchemaSampled}
pub use Rattle.cedar_compare.specs.Samples.{choice, user, user_of, users, with_age, without_attributes}
pub use Rattle.cedar_compare.specs.SchemaBelow.{ActionBelow, KindBelow, SchemaBelow, TagsBelow}
pub use Rattle.cedar_compare.specs.Versions.{AreVersions, IsFreshEntity, IsStandard, new_of, old_of}
pub use Rattle.cedar_compare.specs.declared.difference.Cause.{Cause}
pub use Rattle.cedar_compare.specs.declared.difference.Difference.{Difference}
pub use Rattle.cedar_compare.specs.declared.difference.Request.{Request}
pub use Rattle.cedar_compare.specs.declared.versions.Versions.{Versions}
