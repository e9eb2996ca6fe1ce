-- The words of clauses, from one place.
pub use Rattle.std.specs.Prelude.{None}
pub use Rattle.cedar_ast.specs.EntityUID.{uid_of}
pub use Rattle.cedar_ast.specs.Id.{id_text}
pub use Rattle.cedar_ast.specs.InternalName.{name_loc, name_of}
pub use Rattle.cedar_ast.specs.Lists.{HoldsPairwise, SameItems}
pub use Rattle.cedar_ast.specs.Name.{plain_name}
pub use Rattle.cedar_ast.specs.PlainName.{IsUnqualified, PlainName, name_cmp}
pub use Rattle.cedar_ast.specs.PlainUid.{PlainUid}
pub use Rattle.cedar_ast.specs.Text.{Text, text_cmp}
pub use Rattle.cedar_ast.specs.declared.entity_uid.EntityUID.{EntityUID}
pub use Rattle.cedar_ast.specs.declared.extension.Extensions.{Extensions}
pub use Rattle.cedar_ast.specs.declared.id.Id.{Id}
pub use Rattle.cedar_ast.specs.declared.internal_name.InternalName.{InternalName}
pub use Rattle.cedar_ast.specs.declared.name.Name.{Name}
pub use Rattle.cedar_schema_ast.specs.ConditionalExpr.{positional_reference}
pub use Rattle.cedar_schema_ast.specs.ConditionalName.{conditional_reference, possibilities_of}
pub use Rattle.cedar_schema_ast.specs.Expr.{Expr, extension_expr, long_expr, text_expr, truth_expr}
pub use Rattle.cedar_schema_ast.specs.NamespaceName.{namespace_name}
pub use Rattle.cedar_schema_ast.specs.PossibleNames.{names_of}
pub use Rattle.cedar_schema_ast.specs.RawExpr.{raw_reference}
pub use Rattle.cedar_schema_ast.specs.Reference.{ActionReference, Reference, name_within, path_within}
pub use Rattle.cedar_schema_ast.specs.TypeExpr.{type_expr, variant_expr}
pub use Rattle.cedar_schema_ast.specs.declared.json_schema.qualify_error.QualifyError.{QualifyError}
pub use Rattle.cedar_schema_ast.specs.declared.json_schema.reference_type.ReferenceType.{ReferenceType}
pub use Rattle.cedar_schema_ast.specs.declared.json_schema.type_of.Type.{«Type»}
pub use Rattle.cedar_schema_semantics.specs.Bag.{Bag, action_uids, alias_name, aliases, built_in_name, built_in_types, built_ins, declared_common, declared_types, defined_names}
pub use Rattle.cedar_schema_semantics.specs.Fault.{Fault, action_not_defined, action_shadowing, out_of_memory, reserved_name, type_not_defined, type_shadowing}
pub use Rattle.cedar_schema_semantics.specs.IllFormed.{IsFault}
pub use Rattle.cedar_schema_semantics.specs.Names.{IsDefined, IsUnresolved, Names, ResolvesTo}
pub use Rattle.cedar_schema_semantics.specs.Occurrences.{IsFirst}
pub use Rattle.cedar_schema_semantics.specs.SchemaError.{fault_of, qualify_fault}
pub use Rattle.cedar_schema_semantics.specs.Shadowing.{ShadowsAction, ShadowsType}
pub use Rattle.cedar_name_resolution.specs.BuiltIn.{free_aliases, is_taken, named_types}
pub use Rattle.cedar_name_resolution.specs.DeclaredJust.{DeclaresJust}
pub use Rattle.cedar_name_resolution.specs.HeldNames.{AreTheDeclaredNames, HasAlso, HoldsAlso, HoldsJust, StandsWhere, held_names, listed_names, names_given, names_together}
pub use Rattle.cedar_name_resolution.specs.QualifyFault.{IsUnresolvable}
pub use Rattle.cedar_name_resolution.specs.Refused.{IsRefused, IsRefusedAmong}
pub use Rattle.cedar_name_resolution.specs.ShadowedNames.{IsPlainAction, IsShadowing, NoActionShadows, NoTypeShadows, type_names}
pub use Rattle.cedar_name_resolution.specs.WrittenTypes.{written_common, written_expr}
pub use Rattle.cedar_name_resolution.specs.declared.written.Written.{Written}
