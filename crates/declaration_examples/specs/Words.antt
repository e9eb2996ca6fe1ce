-- The words of clauses, from one place.
pub use Rattle.cedar_ast.specs.Chain.{Chain, more, one}
pub use Rattle.std.specs.Prelude.{List}
pub use Rattle.cedar_ast.specs.Lists.{Twice}
pub use Rattle.cedar_ast.specs.PlainName.{IsActionType, PlainName, action_word}
pub use Rattle.cedar_ast.specs.PlainUid.{PlainUid}
pub use Rattle.cedar_ast.specs.Text.{Text}
pub use Rattle.cedar_ast.specs.Tree.{call_value, entry, map_value, no_entry, no_tree, number_value, set_value, tree, uid_value}
pub use Rattle.cedar_ast.specs.declared.extension.Extensions.{Extensions}
pub use Rattle.cedar_entities.specs.Entities.{IsEntityIn, IsReal}
pub use Rattle.cedar_entities.specs.Exists.{Exists}
pub use Rattle.cedar_entities.specs.Inclusion.{IncludedBetween}
pub use Rattle.cedar_entities.specs.Naming.{NamesWhatExists}
pub use Rattle.cedar_entities.specs.Requests.{IsRealRequest, IsRequestIn}
pub use Rattle.cedar_schema_ast.specs.Declaration.{Body, Declaration, action, entity_type}
pub use Rattle.cedar_schema_ast.specs.EntityBody.{EntityBody, external, kind_body, standard}
pub use Rattle.cedar_schema_ast.specs.Expr.{Expr, long_expr, named, no_member, record_expr, text_expr}
pub use Rattle.cedar_schema_ast.specs.RawExpr.{raw_reference}
pub use Rattle.cedar_schema_ast.specs.Reference.{Reference, reference_to}
pub use Rattle.cedar_schema_ast.specs.declared.json_schema.entity_type.EntityTypeKind.{EntityTypeKind}
pub use Rattle.cedar_schema_ast.specs.declared.json_schema.raw_name.RawName.{RawName}
pub use Rattle.cedar_schema_ast.specs.declared.json_schema.reference_type.ReferenceType.TheVariants.{CommonOrEntity, Entity}
pub use Rattle.cedar_schema_semantics.specs.Admits.{Admits, admits_long, admits_missing, admits_no_member, admits_record, admits_there}
pub use Rattle.cedar_schema_semantics.specs.Bag.{alias_name, aliases, built_in_name, built_ins, declared_common, defined_names, definitions}
pub use Rattle.cedar_schema_semantics.specs.ConvertedBack.{IsConvertedBack, IsWritable, full_name, type_written}
pub use Rattle.cedar_schema_semantics.specs.Counted.{HasToResolve, IsAtEntityTypePosition, entity_parents}
pub use Rattle.cedar_schema_semantics.specs.Defined.{IsCommon}
pub use Rattle.cedar_schema_semantics.specs.Descent.{HasParent, IsDescendant}
pub use Rattle.cedar_schema_semantics.specs.ElaboratesTo.{ElaboratesTo, as_common, as_entity, as_long, as_text}
pub use Rattle.cedar_schema_semantics.specs.EntityTypeKind.{enumerated_kind, standard_kind}
pub use Rattle.cedar_schema_semantics.specs.Fault.{common_type_cycle, duplicate_entity_type, enumerated_below, external_below_enumerated, open_record, type_shadowing, undeclared_entity_types}
pub use Rattle.cedar_schema_semantics.specs.IllFormed.{IsFault, RefersToCommon}
pub use Rattle.cedar_schema_semantics.specs.Names.{ResolvesTo}
pub use Rattle.cedar_schema_semantics.specs.PlainSchema.{SchemaAction, SchemaEntityType, defined_action, external_action}
pub use Rattle.cedar_schema_semantics.specs.SameBag.{SameBag, SaysAll}
pub use Rattle.cedar_schema_semantics.specs.Together.{EntitySays, IsExternalType, IsParent}
pub use Rattle.cedar_schema_semantics.specs.ValidSchema.{ListsDescendant}
pub use Rattle.cedar_type_rules.specs.Ty.{Ty, any_entity, any_set, end, extension_of, field, long, never, record_of, set_of, text, truth, union_of}
pub use Rattle.cedar_type_rules.specs.declared.open_tag.OpenTag.TheVariants.{ClosedAttributes, OpenAttributes}
pub use Rattle.declaration_examples.specs.EntitySamples.{one_role, role, role_in_set, role_named, role_type, roles, some_user, two_roles, user_in_role, view_entry, viewing_in_role}
pub use Rattle.declaration_examples.specs.Samples.{action_here, actions_bag, alias_bag, apart_bag, both_bag, common_here, cycle_bag, cycle_first, cycle_second, entity_here, external_bag, external_here, known_tint_bag, linked_bag, nested_bag, open_bag, optional_record, painted_bag, principal_bag, refer_here, refer_within, ring_bag, sample_namespace, shadow_bag, tint_bag, together_bag, within_sample}
pub use Rattle.declaration_examples.specs.WrittenSamples.{action_attribute, action_entry, action_named, action_within, group_of, one_type, plain_kind, sample_bag, sample_fields, sample_schema, schema_of_entries, type_entry, with_attribute}
