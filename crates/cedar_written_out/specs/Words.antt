-- The words of clauses, from one place.
pub use Rattle.cedar_ast.specs.Chain.{Chain, more, one}
pub use Rattle.cedar_ast.specs.EntityType.{type_name}
pub use Rattle.cedar_ast.specs.EntityUID.{uid_of}
pub use Rattle.cedar_ast.specs.Extensions.{extension_types}
pub use Rattle.cedar_ast.specs.InternalName.{name_of}
pub use Rattle.cedar_ast.specs.Lists.{Twice}
pub use Rattle.cedar_ast.specs.PlainName.{PlainName}
pub use Rattle.cedar_ast.specs.Text.{Text}
pub use Rattle.cedar_ast.specs.TypeNames.{TypeNamesFit}
pub use Rattle.cedar_ast.specs.declared.extension.Extensions.{Extensions}
pub use Rattle.cedar_elaboration.specs.Indices.{AreIndices, indexed_names, item_names}
pub use Rattle.cedar_name_resolution.specs.HeldNames.{HoldsJust, held_names}
pub use Rattle.cedar_fragments.specs.WrittenDeclarations.{written_action_body, written_actions, written_entities, written_entity_body}
pub use Rattle.cedar_name_resolution.specs.WrittenTypes.{written_common, written_expr, written_namespace}
pub use Rattle.cedar_name_resolution.specs.declared.written.Written.{Written}
unfoldable pub use Rattle.cedar_graph.specs.Numbered.{items_at}
pub use Rattle.cedar_graph.specs.Order.{IsLowestFirst, LeadsTo}
pub use Rattle.cedar_fragments.specs.CollectedDeclarations.{AreCollectedDeclarations, Collects}
pub use Rattle.cedar_name_resolution.specs.DeclaredJust.{DeclaresJust}
pub use Rattle.cedar_schema_ast.specs.Declaration.{raw_bag, raw_fragment}
pub use Rattle.cedar_schema_ast.specs.Expr.{Expr, Members, extension_expr, member, named, no_member, record_expr, set_expr}
pub use Rattle.cedar_schema_ast.specs.NamespaceName.{namespace_name}
pub use Rattle.cedar_schema_ast.specs.RawExpr.{raw_expr, raw_record, raw_reference, raw_variant}
pub use Rattle.cedar_schema_ast.specs.Reference.{Reference}
pub use Rattle.cedar_schema_ast.specs.TypeExpr.{record_type_expr, type_expr, variant_expr}
pub use Rattle.cedar_schema_ast.specs.declared.json_schema.fragment.Fragment.{Fragment}
pub use Rattle.cedar_schema_ast.specs.declared.json_schema.raw_name.RawName.{RawName}
pub use Rattle.cedar_schema_ast.specs.declared.json_schema.reference_type.ReferenceType.{ReferenceType}
pub use Rattle.cedar_schema_ast.specs.declared.json_schema.type_of.RecordType.{RecordType, out-RecordType}
pub use Rattle.cedar_schema_ast.specs.declared.json_schema.type_of.TypeOfAttribute.{TypeOfAttribute, out-TypeOfAttribute}
pub use Rattle.cedar_schema_semantics.specs.Bag.{Bag, aliases, built_ins, declared_actions, declared_common, declared_entities, defined_names, definitions}
pub use Rattle.cedar_schema_semantics.specs.Defined.{Defined, IsCommon, names_of}
pub use Rattle.cedar_schema_semantics.specs.ElaboratesTo.{ElaboratesTo, MembersElaborateTo, as_common, as_entity, as_extension, as_long, as_member, as_no_member, as_record, as_set, as_text, as_truth}
pub use Rattle.cedar_schema_semantics.specs.Fault.{Fault, duplicate_common_type, out_of_memory}
pub use Rattle.cedar_schema_semantics.specs.IllFormed.{IsFault}
pub use Rattle.cedar_schema_semantics.specs.Mentions.{MembersRefer, Refers}
pub use Rattle.cedar_schema_semantics.specs.Names.{IsDefined, IsEntity, IsUnresolved, MayNameCommon, Names, ResolvesTo}
pub use Rattle.cedar_schema_semantics.specs.SchemaError.{fault_of}
pub use Rattle.cedar_written_out.specs.Figures.{HasOneDefinition, IsFigure, IsFigureOf, IsMeasured, fields_depth, fields_size, figure_at, most, type_depth, type_size}
pub use Rattle.cedar_written_out.specs.Gathered.{IsGathered, IsKnown}
pub use Rattle.cedar_written_out.specs.Known.{AreFigures, DefinesJust, Knows, KnowsAll}
pub use Rattle.cedar_written_out.specs.Listed.{AreListed, IsListed, ListsAlso, Owner, common_expr, context_exprs, declared_exprs, declared_loc, entity_exprs, exprs_of_actions, exprs_of_entities, owner_of, tags_exprs}
