-- The words of clauses, from one place.
pub use Rattle.cedar_ast.specs.CoreSchemaType.{argument_types, core_attribute_of, core_fields_of, core_ty_of, result_type}
pub use Rattle.cedar_ast.specs.CoreTy.{CoreTy, core_entity, core_extension, core_fields_from, core_names, core_record, core_set}
pub use Rattle.cedar_ast.specs.EntityType.{type_name}
pub use Rattle.cedar_ast.specs.EntityUID.{uid_of}
pub use Rattle.cedar_ast.specs.Extensions.{function_named}
pub use Rattle.cedar_ast.specs.FeedsVariant.{FeedsVariantFirst}
pub use Rattle.cedar_ast.specs.Fits.{ArgumentsFit, EntryFits, Gives, IsUnknown, NamesListed}
pub use Rattle.cedar_ast.specs.Iterators.{HoldsOfAll}
pub use Rattle.cedar_ast.specs.LastNamed.{last_named}
pub use Rattle.cedar_ast.specs.Lists.{HoldsPairwise, Included}
pub use Rattle.cedar_ast.specs.Name.{plain_name}
pub use Rattle.cedar_ast.specs.PlainName.{PlainName, name_cmp, name_text}
pub use Rattle.cedar_ast.specs.PlainUid.{PlainUid}
pub use Rattle.cedar_ast.specs.RestrictedExpr.{entries_of, tree_of, trees_of}
pub use Rattle.cedar_ast.specs.Text.{Text, text_cmp}
pub use Rattle.cedar_ast.specs.Tree.{EachTree, Entries, SomeTree, Tree, Trees, entry_at, entry_names, map_value, uid_value}
pub use Rattle.cedar_ast.specs.TypeNames.{primitive_words}
pub use Rattle.cedar_ast.specs.Value.{value_expr}
pub use Rattle.cedar_ast.specs.declared.core_schema_type.CoreAttributeType.{CoreAttributeType}
pub use Rattle.cedar_ast.specs.declared.entity_type.EntityType.{EntityType}
pub use Rattle.cedar_ast.specs.declared.extension.ExtensionFunction.{ExtensionFunction}
pub use Rattle.cedar_ast.specs.declared.extension.ExtensionFunctionLookupError.{ExtensionFunctionLookupError}
pub use Rattle.cedar_ast.specs.declared.extension.Extensions.{Extensions}
pub use Rattle.cedar_ast.specs.declared.loc.Loc.{Loc}
pub use Rattle.cedar_ast.specs.declared.name.Name.{Name}
pub use Rattle.cedar_ast.specs.declared.validation_mode.ValidationMode.{ValidationMode}
pub use Rattle.cedar_ast.specs.declared.validation_mode.ValidationMode.TheVariants.{Permissive, Strict}
pub use Rattle.cedar_ast.specs.declared.value.RestrictedExpr.{RestrictedExpr}
pub use Rattle.cedar_ast.specs.declared.value.Value.{Value}
pub use Rattle.cedar_name_map.specs.ByName.{AreSortedByName, entry_texts, value_at, with_texts}
pub use Rattle.cedar_name_map.specs.declared.by_name.ByName.{ByName}
pub use Rattle.cedar_type_rules.specs.Agree.{Agree}
pub use Rattle.cedar_type_rules.specs.Below.{AttributeBelow, Below, FieldsBelow, FlagsBelow, HasField, NamesBelow, OpennessBelow}
pub use Rattle.cedar_type_rules.specs.Bound.{IsCleanBound}
pub use Rattle.cedar_type_rules.specs.Clean.{AreClean, IsClean}
pub use Rattle.cedar_type_rules.specs.CompareLaws.{ComparesBy}
pub use Rattle.cedar_type_rules.specs.Consistent.{IsConsistent}
pub use Rattle.cedar_type_rules.specs.CoreFault.{IsCoreFault, IsFieldsFault}
pub use Rattle.cedar_type_rules.specs.CoreOf.{core_fields, core_of}
pub use Rattle.cedar_type_rules.specs.Disjoint.{AreDisjointTypes}
pub use Rattle.cedar_type_rules.specs.EntityTypes.{is_entity, kind_names, set_or_kind_names}
pub use Rattle.cedar_type_rules.specs.EntityUnion.{AreDisjoint, IsUnionOf, only_name}
pub use Rattle.cedar_type_rules.specs.Fields.{HoldsLast, IsRecordOf, IsSortedByName, field_names}
pub use Rattle.cedar_type_rules.specs.Has.{FieldsMeet, Has, HasFieldsBy, HasTruth, HasUid, MayGive, MayHave, Meets, SomeEntry}
pub use Rattle.cedar_type_rules.specs.Help.{IsFlagHelp, IsHelp, IsHelpAtName}
pub use Rattle.cedar_type_rules.specs.InclusionLaws.{SubtypingIsInclusionAndNamesOf, SubtypingIsInclusionOf}
pub use Rattle.cedar_type_rules.specs.JoinAnswer.{IsAnswerOrMemory, IsJoinAnswer, IsLeastAnswer, IsReduceAnswer, JoinAnswer}
pub use Rattle.cedar_type_rules.specs.Joining.{AnswersJoinOf, IsFoldOfJoins, IsGivenOrMemory}
pub use Rattle.cedar_type_rules.specs.OpenTag.{either_open, is_open}
pub use Rattle.cedar_type_rules.specs.Order.{attribute_cmp, fields_cmp, kind_rank, ty_cmp, union_cmp}
pub use Rattle.cedar_type_rules.specs.OwnBound.{HaveOwnBound, IsLeastOwnBound, IsOwnBound}
pub use Rattle.cedar_type_rules.specs.Stated.{AreInhabitedWith, FieldsRequireAll, IsInhabited, IsInhabitedWith, IsSampled, IsStated, IsStatedWith, RequiresAll}
pub use Rattle.cedar_type_rules.specs.Ty.{Fields, Ty, any_entity, any_set, end, extension_of, field, field_at, fields_from, long, never, record_of, set_of, text, truth, union_of}
pub use Rattle.cedar_type_rules.specs.TypeText.{fields_text, mark_text, names_text, tag_text, ty_text, union_text}
pub use Rattle.cedar_type_rules.specs.WellFormed.{AreTexts, AreWellFormed, IsWellFormed}
pub use Rattle.cedar_type_rules.specs.declared.bool_type.BoolType.{BoolType}
pub use Rattle.cedar_type_rules.specs.declared.core_type_fault.CoreTypeFault.{CoreTypeFault}
pub use Rattle.cedar_type_rules.specs.declared.join_error.JoinError.{JoinError}
pub use Rattle.cedar_type_rules.specs.declared.join_error.LubHelp.{LubHelp}
pub use Rattle.cedar_type_rules.specs.declared.open_tag.OpenTag.{OpenTag}
pub use Rattle.cedar_type_rules.specs.declared.open_tag.OpenTag.TheVariants.{ClosedAttributes, OpenAttributes}
pub use Rattle.cedar_types.specs.AttributeJoin.{IsPermissiveAttribute, IsStrictAttribute, attribute_ty}
pub use Rattle.cedar_types.specs.Attributes.{plain_attributes, plain_required}
pub use Rattle.cedar_types.specs.EntityKind.{is_of_union, kind_ty}
pub use Rattle.cedar_types.specs.EntityLUB.{lub_names, lub_ty, lub_types, only_type}
pub use Rattle.cedar_types.specs.EntriesLeft.{entries_left}
pub use Rattle.cedar_types.specs.Layers.{IsSortedByName-fields, field_names-entries, field_names-pairs, fields_of-pairs, fields_of-rolled, folded_layer, pairs_of, plain_entry}
pub use Rattle.cedar_types.specs.Located.{IsHandedOn, IsUnplaced, KeepsLast, element_of, listed_at, located, located_at, located_attributes, located_required}
pub use Rattle.cedar_types.specs.Meaning.{attribute_loc, attribute_of, attribute_step, attributes_step, fields_of, ty_of, type_step}
pub use Rattle.cedar_types.specs.MembershipAnswer.{Answer, IsMembership}
pub use Rattle.cedar_types.specs.Samples.{value_tree, value_trees}
pub use Rattle.cedar_types.specs.WellFormedTypes.{AreTexts-fields, AreWellFormed-fields, IsWellFormed-type, kind_formed, lub_formed}
pub use Rattle.cedar_types.specs.declared.attributes.AttributeType.{AttributeType, fold_out-AttributeType, ind-AttributeType, map-AttributeType, out-AttributeType, roll-AttributeType, size-AttributeType}
pub use Rattle.cedar_types.specs.declared.attributes.Attributes.{Attributes, ind-Attributes, map-Attributes, out-Attributes, out-roll-Attributes, roll-Attributes, roll-out-Attributes, size-Attributes}
pub use Rattle.cedar_types.specs.declared.entity_kind.EntityKind.{EntityKind}
pub use Rattle.cedar_types.specs.declared.entity_lub.EntityLUB.{EntityLUB}
pub use Rattle.cedar_types.specs.declared.entries_left.EntriesLeft.{EntriesLeft}
pub use Rattle.cedar_types.specs.declared.types.Type.{fold-roll-Type, ind-Type, map-Type, roll-out-Type, size-Type, «Type»}
unfoldable pub use Rattle.cedar_types.specs.declared.types.Type.{out-Type, roll-Type}
