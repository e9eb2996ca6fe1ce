-- The words of clauses, from one place.
pub use Rattle.cedar_ast.specs.EntityType.{type_loc, type_name}
pub use Rattle.cedar_ast.specs.EntityUID.{uid_loc, uid_of}
pub use Rattle.cedar_ast.specs.Id.{id_text}
pub use Rattle.cedar_ast.specs.InternalName.{name_loc, name_of}
pub use Rattle.cedar_ast.specs.PlainName.{PlainName}
pub use Rattle.cedar_ast.specs.Text.{Text}
pub use Rattle.cedar_ast.specs.UnreservedId.{unreserved_id_text}
pub use Rattle.cedar_ast.specs.declared.loc.Loc.{Loc}
pub use Rattle.cedar_schema_ast.specs.Expr.{Expr, members_from}
pub use Rattle.cedar_schema_ast.specs.RawExpr.{raw_attribute, raw_expr, raw_record, raw_reference, raw_variant}
pub use Rattle.cedar_schema_ast.specs.TypeExpr.{attribute_step, record_step, type_step, variant_step}
pub use Rattle.cedar_schema_ast.specs.declared.json_schema.raw_name.RawName.{RawName}
pub use Rattle.cedar_schema_ast.specs.declared.json_schema.type_of.RecordType.{RecordType, fold_out-RecordType, out-RecordType}
pub use Rattle.cedar_schema_ast.specs.declared.json_schema.type_of.TypeOfAttribute.{TypeOfAttribute, fold_out-TypeOfAttribute, out-TypeOfAttribute}
pub use Rattle.cedar_schema_semantics.specs.declared.schema_error.SchemaError.{SchemaError}
pub use Rattle.cedar_places.specs.Listing.{IsListed, action_mark, common_type_mark, entity_type_mark, marks_under}
pub use Rattle.cedar_places.specs.Mark.{Mark, Marked, Marks, extension_type, mark_of, marked, open_record}
pub use Rattle.cedar_places.specs.RefusalPlace.{IsAttributedAction, IsAttributedPlace, IsExtensionType, IsFirstPlace, IsPlaceOf, IsSecondPlaceOf, IsShadowedPlace, IsSought}
pub use Rattle.cedar_places.specs.Table.{definition_marks, fragment_marks, full_name, kind_marks, namespace_of, requests_marks}
pub use Rattle.cedar_places.specs.TypeMarks.{MarksAt, attribute_marks, attribute_marks_step, record_marks, record_marks_step, type_marks, type_marks_step, variant_marks, variant_marks_step}
pub use Rattle.cedar_places.specs.declared.written.WrittenAt.{WrittenAt}
