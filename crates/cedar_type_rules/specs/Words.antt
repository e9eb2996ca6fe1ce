-- The words of clauses, from one place.
pub use Rattle.std.specs.List.{AllByRecursion}
pub use Rattle.std.specs.Prelude.{Some}
pub use Rattle.cedar_ast.specs.CoreSchemaType.{result_type}
pub use Rattle.cedar_ast.specs.CoreTy.{CoreFields, CoreTy, core_end, core_entity, core_extension, core_field, core_fields_from, core_names, core_record, core_set}
pub use Rattle.cedar_ast.specs.FeedsVariant.{FeedsVariantFirst}
pub use Rattle.cedar_ast.specs.Fits.{EntryFits, Gives, NamesListed}
pub use Rattle.cedar_ast.specs.IsValue.{AreEntries, IsName, IsText, IsValue}
pub use Rattle.cedar_ast.specs.LastNamed.{last_named}
pub use Rattle.cedar_ast.specs.Lists.{HoldsPairwise, Included}
pub use Rattle.cedar_ast.specs.Name.{plain_name}
pub use Rattle.cedar_ast.specs.PlainName.{PlainName, name_cmp}
pub use Rattle.cedar_ast.specs.Text.{Text, text_cmp}
pub use Rattle.cedar_ast.specs.Tree.{EachTree, Entries, Tree, Trees, call_value, entry, entry_at, entry_names, map_value, no_entry, no_tree, number_value, set_value, text_value, tree, truth_value, uid_value}
pub use Rattle.cedar_ast.specs.declared.extension.Extensions.{Extensions}
pub use Rattle.cedar_ast.specs.declared.name.Name.{Name}
pub use Rattle.cedar_ast.specs.declared.validation_mode.ValidationMode.{ValidationMode}
pub use Rattle.cedar_ast.specs.declared.validation_mode.ValidationMode.TheVariants.{Permissive, Strict}
pub use Rattle.cedar_type_rules.specs.Agree.{Agree, FieldsAgree}
pub use Rattle.cedar_type_rules.specs.Below.{AttributeBelow, Below, FieldsBelow, FlagsBelow, HasField, NamesBelow, OpennessBelow}
pub use Rattle.cedar_type_rules.specs.BoolType.{bool_text}
pub use Rattle.cedar_type_rules.specs.Bound.{IsBound, IsCleanBound, IsLeast}
pub use Rattle.cedar_type_rules.specs.Clean.{AreClean, CleanIsWithoutAnySet, IsAnySet, IsClean}
pub use Rattle.cedar_type_rules.specs.CompareLaws.{ComparesBy}
pub use Rattle.cedar_type_rules.specs.Consistent.{AreOptionalBeyond, FieldsAreConsistent, HasCoreField, IsConsistent}
pub use Rattle.cedar_type_rules.specs.CoreFault.{IsAnyEntity, IsCoreFault, IsFieldsFault, IsNever, IsWideUnion}
pub use Rattle.cedar_type_rules.specs.CoreOf.{CoreIsLackedExactly, LacksCore, core_fields, core_of}
pub use Rattle.cedar_type_rules.specs.Disjoint.{AreDisjointTypes, DisjointTypesShareNoValue}
pub use Rattle.cedar_type_rules.specs.EntityTypes.{is_entity, kind_names, set_or_kind_names}
pub use Rattle.cedar_type_rules.specs.EntityUnion.{AreDisjoint, IsUnionOf, only_name}
pub use Rattle.cedar_type_rules.specs.Fields.{HoldsLast, IsRecordOf, IsSortedByName, field_names}
pub use Rattle.cedar_type_rules.specs.Has.{FieldsMeet, Has, HasBy, HasFieldsBy, HasTruth, HasUid, MayGive, MayHave, Meets, SomeEntry}
pub use Rattle.cedar_type_rules.specs.Help.{IsFlagHelp, IsHelp, IsHelpAtName}
pub use Rattle.cedar_type_rules.specs.IncludedByParts.{FieldsIncluded, IncludedByParts, IsNeverThere}
pub use Rattle.cedar_type_rules.specs.InclusionLaws.{FieldsListNames, ListsNames, PartsTellInclusion, SubtypingIsInclusion, SubtypingIsInclusionAndNames, SubtypingIsInclusionAndNamesOf, SubtypingIsInclusionOf, ValuesIncluded}
pub use Rattle.cedar_type_rules.specs.JoinAnswer.{IsAnswerOrMemory, IsJoinAnswer, IsLeastAnswer, IsReduceAnswer, JoinAnswer}
pub use Rattle.cedar_type_rules.specs.JoinLaws.{CleanBoundsAreOwn, JoinsAreAnswered, JoinsAreBelowCleanBounds, JoinsAreCommutative, JoinsAreGivenExactly, JoinsAreUnique, JoinsOfCleanAreLeastClean, OwnBoundsOfCleanAreClean, StrictJoinsArePermissive, UpperTypesAreJoins}
pub use Rattle.cedar_type_rules.specs.Joining.{AnswersJoinOf, IsCleanAbove, IsFoldOfJoins, IsGivenOrMemory, IsLeastClean}
pub use Rattle.cedar_type_rules.specs.LubHelp.{help_text, join_error_text}
pub use Rattle.cedar_type_rules.specs.OpenTag.{either_open, is_open}
pub use Rattle.cedar_type_rules.specs.Order.{attribute_cmp, fields_cmp, kind_rank, openness_cmp, truth_cmp, ty_cmp, union_cmp}
pub use Rattle.cedar_type_rules.specs.OwnBound.{FieldsLieWithin, HaveOwnBound, IsEither, IsElementOf, IsLeastOwnBound, IsNamedIn, IsOwnBound, LiesWithin}
pub use Rattle.cedar_type_rules.specs.ReduceLaws.{CleanAreReducedInAnyOrder, CleanAreReducedToLeastClean, EmptyIsReducedToNever, ReductionsAreAnswered, ReductionsAreUnique, ReductionsAreWellFormed, RefusalsAreOfTheFirst}
pub use Rattle.cedar_type_rules.specs.StandsIn.{StandsIn, StandsInFields}
pub use Rattle.cedar_type_rules.specs.Stated.{AreInhabited, AreInhabitedWith, FieldsRequireAll, IsInhabited, IsInhabitedWith, IsSampled, IsStated, IsStatedWith, RequiresAll}
pub use Rattle.cedar_type_rules.specs.Ty.{Fields, Ty, any_entity, any_set, end, extension_of, field, field_at, fields_from, long, never, record_of, set_of, text, truth, union_of}
pub use Rattle.cedar_type_rules.specs.TypeText.{fields_text, mark_text, names_text, tag_text, ty_text, union_text}
pub use Rattle.cedar_type_rules.specs.WellFormed.{AreNames, AreTexts, AreWellFormed, IsWellFormed}
pub use Rattle.cedar_type_rules.specs.declared.bool_type.BoolType.{BoolType}
pub use Rattle.cedar_type_rules.specs.declared.bool_type.BoolType.TheVariants.{AnyBool, False, True}
pub use Rattle.cedar_type_rules.specs.declared.core_type_fault.CoreTypeFault.{CoreTypeFault}
pub use Rattle.cedar_type_rules.specs.declared.join_error.JoinError.{JoinError}
pub use Rattle.cedar_type_rules.specs.declared.join_error.LubHelp.{LubHelp}
pub use Rattle.cedar_type_rules.specs.declared.open_tag.OpenTag.{OpenTag}
pub use Rattle.cedar_type_rules.specs.declared.open_tag.OpenTag.TheVariants.{ClosedAttributes, OpenAttributes}
