-- The words of clauses, from one place.
pub use Rattle.cedar_ast.specs.EntityType.{type_name}
pub use Rattle.cedar_ast.specs.EntityUID.{uid_of}
pub use Rattle.cedar_ast.specs.Fits.{EntryFits, Gives, NamesListed}
pub use Rattle.cedar_ast.specs.IsValue.{AreEntries, IsName, IsText, IsValue}
pub use Rattle.cedar_ast.specs.Lists.{Included}
pub use Rattle.cedar_ast.specs.PlainName.{IsActionType, PlainName}
pub use Rattle.cedar_ast.specs.PlainUid.{PlainUid}
pub use Rattle.cedar_ast.specs.RestrictedExpr.{entries_of, tree_of, trees_of}
pub use Rattle.cedar_ast.specs.Text.{Text}
pub use Rattle.cedar_ast.specs.Tree.{Entries, Tree, Trees, call_value, entries_from, entry, entry_at, entry_names, map_value, no_entry, no_tree, number_value, set_value, text_value, tree, truth_value, uid_value}
pub use Rattle.cedar_ast.specs.Value.{value_expr}
pub use Rattle.cedar_ast.specs.declared.entity_type.EntityType.{EntityType}
pub use Rattle.cedar_ast.specs.declared.extension.Extensions.{Extensions}
pub use Rattle.cedar_ast.specs.declared.validation_mode.ValidationMode.TheVariants.{Permissive}
pub use Rattle.cedar_ast.specs.declared.value.RestrictedExpr.{RestrictedExpr}
pub use Rattle.cedar_ast.specs.declared.value.Value.{Value}
pub use Rattle.cedar_entities.specs.Exchanged.{AreExchanged, EntriesAreExchanged, IsExchanged, NamesSome, SomeEntryNamesSome, SomeNamesSome}
pub use Rattle.cedar_entities.specs.Inclusion.{FieldsHaveUids, FieldsKeepIds, HasUidOf, HasUidsIn, KeepsIds, KeepsIdsOf, KeepsUids, ValuesKept}
pub use Rattle.cedar_entities.specs.Naming.{EachNamesOnly, EntriesNameOnly, NamesOnly}
pub use Rattle.cedar_schema_semantics.specs.TypeMentions.{FieldsMentionEntity, MentionsEntity}
pub use Rattle.cedar_type_rules.specs.Below.{Below, HasField}
pub use Rattle.cedar_type_rules.specs.Fields.{IsSortedByName, field_names}
pub use Rattle.cedar_type_rules.specs.Has.{Has, HasTruth, HasUid}
pub use Rattle.cedar_type_rules.specs.IncludedByParts.{FieldsIncluded, IncludedByParts}
pub use Rattle.cedar_type_rules.specs.InclusionLaws.{ValuesIncluded}
pub use Rattle.cedar_type_rules.specs.OpenTag.{is_open}
pub use Rattle.cedar_type_rules.specs.Stated.{AreInhabitedWith, IsInhabitedWith, IsStatedWith}
pub use Rattle.cedar_type_rules.specs.Ty.{Fields, Ty, any_entity, any_set, end, extension_of, field, fields_from, long, never, record_of, set_of, text, truth, union_of}
pub use Rattle.cedar_type_rules.specs.WellFormed.{IsWellFormed}
pub use Rattle.cedar_type_rules.specs.declared.open_tag.OpenTag.{OpenTag}
pub use Rattle.cedar_type_rules.specs.declared.open_tag.OpenTag.TheVariants.{ClosedAttributes, OpenAttributes}
pub use Rattle.cedar_types.specs.Attributes.{plain_attributes}
pub use Rattle.cedar_types.specs.EntityKind.{kind_ty}
pub use Rattle.cedar_types.specs.EntityLUB.{lub_names}
pub use Rattle.cedar_types.specs.Layers.{IsSortedByName-fields}
pub use Rattle.cedar_types.specs.Meaning.{attribute_of, attribute_step, attributes_step, fields_of, ty_of, type_step}
pub use Rattle.cedar_types.specs.Samples.{value_tree, value_trees}
pub use Rattle.cedar_types.specs.WellFormedTypes.{AreTexts-fields, AreWellFormed-fields, IsWellFormed-type}
pub use Rattle.cedar_types.specs.declared.attributes.AttributeType.{AttributeType}
pub use Rattle.cedar_types.specs.declared.attributes.Attributes.{Attributes}
pub use Rattle.cedar_types.specs.declared.entity_kind.EntityKind.{EntityKind}
pub use Rattle.cedar_types.specs.declared.types.Type.{fold-roll-Type}
unfoldable pub use Rattle.cedar_types.specs.declared.types.Type.{roll-Type}
pub use Rattle.cedar_counterexample.specs.Between.{IsApartAt, IsBetweenAnswer, IsOutsideBetween, PlainBetween, attributes_between_of, between_of}
pub use Rattle.cedar_counterexample.specs.Counterexample.{IsCounterexample, IsCounterexampleAnswer, IsOutsideAnswer, IsValueOf, PlainFound, PlainStart, empty_start, found_element, found_of, record_found, start_of, start_through}
pub use Rattle.cedar_counterexample.specs.Filling.{IsAttributeStart, IsFieldStart, IsFilled, IsPut, IsRecordStart, IsStart}
pub use Rattle.cedar_counterexample.specs.LostIds.{IsLostUid, IsLostUidOf, IsNaming, IsNamingAnswer, IsNamingRecord, IsNamingStart, IsNamingStartAnswer, IsOpenAnswer, MayBeNamedAt, MayBeNamedHere, PlainNaming, PlainNamingStart, naming_of, naming_start_of, record_naming}
pub use Rattle.cedar_counterexample.specs.RecordShape.{shape_type}
pub use Rattle.cedar_counterexample.specs.Search.{AreSampledIn, IsSampledIn}
pub use Rattle.cedar_counterexample.specs.StandsFor.{AreNoLonger, IsExistingFor, StandsFor}
pub use Rattle.cedar_counterexample.specs.Steps.{IsOutsideAt, PlainStep, ShareNoParts, step_of, steps_of}
pub use Rattle.cedar_counterexample.specs.ValueEntries.{value_entries}
