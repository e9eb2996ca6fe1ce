-- The words of clauses, from one place.
pub use Rattle.cedar_ast.specs.IsValue.{AreEntries, AreValues, IsName, IsText, IsValue}
pub use Rattle.cedar_ast.specs.Lists.{HoldsOfBoth, Included}
pub use Rattle.cedar_ast.specs.PlainName.{IsActionType, PlainName}
pub use Rattle.cedar_ast.specs.PlainUid.{PlainUid}
pub use Rattle.cedar_ast.specs.Text.{Text}
pub use Rattle.cedar_ast.specs.Tree.{EachTree, Entries, Tree, Trees, call_value, entry, entry_at, entry_names, map_value, no_entry, no_tree, number_value, set_value, text_value, tree, truth_value, uid_value}
pub use Rattle.cedar_ast.specs.declared.extension.Extensions.{Extensions}
pub use Rattle.cedar_schema_semantics.specs.EntityTypeKind.{EntityTypeKind, enumerated_kind, external_kind, standard_kind}
pub use Rattle.cedar_schema_semantics.specs.PlainSchema.{ActionEntity, PlainSchema, SchemaAction, SchemaEntityType}
pub use Rattle.cedar_schema_semantics.specs.TypeMentions.{FieldsMentionEntity, MentionsEntity}
pub use Rattle.cedar_schema_semantics.specs.ValidSchema.{HasAction}
pub use Rattle.cedar_type_rules.specs.Has.{Has, HasBy, HasFieldsBy}
pub use Rattle.cedar_type_rules.specs.IncludedByParts.{IncludedByParts}
pub use Rattle.cedar_type_rules.specs.InclusionLaws.{ValuesIncluded}
pub use Rattle.cedar_type_rules.specs.Stated.{IsInhabited}
pub use Rattle.cedar_type_rules.specs.Ty.{Fields, Ty, any_entity, any_set, end, extension_of, field, long, never, record_of, set_of, text, truth, union_of}
pub use Rattle.cedar_type_rules.specs.WellFormed.{IsWellFormed}
pub use Rattle.cedar_type_rules.specs.declared.open_tag.OpenTag.{OpenTag}
pub use Rattle.cedar_type_rules.specs.declared.open_tag.OpenTag.TheVariants.{ClosedAttributes, OpenAttributes}
pub use Rattle.cedar_entities.specs.Entities.{AreAncestorsIn, AreTagsOf, IsEntityIn, IsEntityOfKind, IsEntityOfType, IsReal, MayStandAbove, NamesOnlyExisting}
pub use Rattle.cedar_entities.specs.Exchanged.{AreExchanged, EntriesAreExchanged, IsExchanged, NamesSome, SomeEntryNamesSome, SomeNamesSome}
pub use Rattle.cedar_entities.specs.Exists.{Exists, IsIdOf, MayHaveId}
pub use Rattle.cedar_entities.specs.Inclusion.{FieldsHaveUids, FieldsKeepIds, HasUidOf, HasUidsIn, IncludedBetween, KeepsIds, KeepsIdsOf, KeepsUids, KeptByParts, ValuesKept}
pub use Rattle.cedar_entities.specs.InclusionLaws.{PartsTellInclusionBetween}
pub use Rattle.cedar_entities.specs.Naming.{EachNamesOnly, EntriesNameOnly, NamesOnly, NamesWhatExists}
pub use Rattle.cedar_entities.specs.Requests.{IsOfTypes, IsRealRequest, IsRequestIn, PlainRequest}
