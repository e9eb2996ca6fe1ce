-- The words of clauses, from one place.
pub use Rattle.cedar_ast.specs.Words.{Text, TypeNamesFit, extension_types}
pub use Rattle.cedar_ast.specs.declared.extension.Extensions.{Extensions}
pub use Rattle.cedar_json.specs.DefinitionFormat.{written_fragment}
pub use Rattle.cedar_json_laws.specs.Rewritten.{IsRewritten}
pub use Rattle.cedar_schema.specs.ValidatorSchema.{schema_of}
pub use Rattle.cedar_schema.specs.declared.schema.ValidatorSchema.{ValidatorSchema}
pub use Rattle.cedar_schema_ast.specs.Words.{raw_fragment}
pub use Rattle.cedar_schema_ast.specs.declared.json_schema.fragment.Fragment.{Fragment}
pub use Rattle.cedar_schema_ast.specs.declared.json_schema.raw_name.RawName.{RawName}
pub use Rattle.cedar_schema_grammar.specs.Tree.{Member}
pub use Rattle.cedar_schema_laws.specs.EndToEnd.{IsBuiltFrom}
pub use Rattle.cedar_schema_semantics.specs.ConvertedBack.{IsWritable as CanBeConvertedBack}
pub use Rattle.cedar_schema_semantics.specs.Words.{Bag, Fault, IsConvertedBack, PositionsFit, out_of_memory}
pub use Rattle.cedar_schema_text.specs.Shown.{fragment_shown}
pub use Rattle.cedar_schema_text.specs.TextFormat.{HasMembers, StandsFor}
pub use Rattle.cedar_schema_text_laws.specs.TextForm.{fragment_form}
pub use Rattle.cedar_schema_text_laws.specs.TextNames.{MemberHasNames}
pub use Rattle.cedar_schema_text_meaning.specs.TextForm.{declaration_form}
pub use Rattle.cedar_schema_text_meaning.specs.TextMeaning.{HasKnownExtensions}
pub use Rattle.cedar_schema_text_writer.specs.Flaws.{IsWritable}
pub use Rattle.cedar_schema_text_writer.specs.Names.{First, first_beside}
