-- The words of clauses, from one place.
pub use Rattle.cedar_ast.specs.CoreTy.{core_empty_set, core_end, core_entity, core_field, core_long, core_record, core_set, core_truth}
pub use Rattle.cedar_ast.specs.Fits.{Gives, IsUnknown}
pub use Rattle.cedar_ast.specs.IsValue.{IsText}
pub use Rattle.cedar_ast.specs.Lists.{Included}
pub use Rattle.cedar_ast.specs.PlainName.{PlainName}
pub use Rattle.cedar_ast.specs.Text.{Text}
pub use Rattle.cedar_ast.specs.Tree.{Tree, Trees, call_value, entry, map_value, no_entry, no_tree, number_value, set_value, text_value, tree, uid_value}
pub use Rattle.cedar_ast.specs.declared.extension.Extensions.{Extensions}
pub use Rattle.cedar_ast.specs.declared.validation_mode.ValidationMode.{ValidationMode}
pub use Rattle.cedar_ast.specs.declared.validation_mode.ValidationMode.TheVariants.{Permissive, Strict}
pub use Rattle.cedar_type_rules.specs.Agree.{Agree}
pub use Rattle.cedar_type_rules.specs.Below.{Below, HasField}
pub use Rattle.cedar_type_rules.specs.Bound.{IsBound}
pub use Rattle.cedar_type_rules.specs.Clean.{IsClean}
pub use Rattle.cedar_type_rules.specs.Consistent.{IsConsistent}
pub use Rattle.cedar_type_rules.specs.CoreOf.{core_of}
pub use Rattle.cedar_type_rules.specs.Disjoint.{AreDisjointTypes}
pub use Rattle.cedar_type_rules.specs.Fields.{field_names}
pub use Rattle.cedar_type_rules.specs.Has.{Has, MayHave, Meets}
pub use Rattle.cedar_type_rules.specs.Help.{IsHelp}
pub use Rattle.cedar_type_rules.specs.InclusionLaws.{ListsNames, ValuesIncluded}
pub use Rattle.cedar_type_rules.specs.JoinAnswer.{IsJoinAnswer, IsReduceAnswer, JoinAnswer}
pub use Rattle.cedar_type_rules.specs.OwnBound.{HaveOwnBound, IsLeastOwnBound, IsOwnBound}
pub use Rattle.cedar_type_rules.specs.Stated.{IsStated}
pub use Rattle.cedar_type_rules.specs.Ty.{Fields, Ty, any_entity, any_set, end, extension_of, field, long, never, record_of, set_of, text, truth, union_of}
pub use Rattle.cedar_type_rules.specs.TypeText.{ty_text}
pub use Rattle.cedar_type_rules.specs.WellFormed.{IsWellFormed}
pub use Rattle.cedar_type_rules.specs.declared.bool_type.BoolType.TheVariants.{False}
pub use Rattle.cedar_type_rules.specs.declared.join_error.LubHelp.{LubHelp}
pub use Rattle.cedar_type_rules.specs.declared.open_tag.OpenTag.{OpenTag}
pub use Rattle.cedar_type_rules.specs.declared.open_tag.OpenTag.TheVariants.{ClosedAttributes, OpenAttributes}
pub use Rattle.rule_examples.specs.Samples.{any_set_and_long, bar_and_false, bar_and_text, bar_entity, bar_name, foo_entity, foo_name, foo_or_bar, ip_type, long_and_long, open_bar, open_t, open_y, optional_y, required_y, set_of_longs, set_of_truths, text_y, twice_y, unit_record}
pub use Rattle.rule_examples.specs.TakesText.{TakesText}
