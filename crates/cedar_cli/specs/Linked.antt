use Rattle.std.specs.Prelude.{◌≡◌, ◌∷◌, ◌++◌, []}
use Rattle.cedar_ast.specs.Text.{Text}
use Rattle.cedar_json.specs.DefinitionFormat.{written_fragment}
use Rattle.cedar_json_writer.specs.FragmentDocument.{fragment_document}
use Rattle.cedar_schema.specs.ValidatorSchema.{schema_of}
use Rattle.cedar_schema.specs.declared.schema.ValidatorSchema.{ValidatorSchema}
use Rattle.cedar_schema_ast.specs.Declaration.{raw_fragment}
use Rattle.cedar_schema_ast.specs.declared.json_schema.fragment.Fragment.{Fragment}
use Rattle.cedar_schema_ast.specs.declared.json_schema.raw_name.RawName.{RawName}
use Rattle.cedar_schema_semantics.specs.ConvertedBack.{IsConvertedBack}
use Rattle.json.specs.Layout.{pretty}
use Rattle.json.specs.Tree.{json_tokens}

-- a fragment as text: laid out as the writer does, and ended by a line end
abbrev pub fragment_text : Fragment RawName → Text
fragment_text fragment =
    pretty (json_tokens (fragment_document (written_fragment fragment))) ++ 10 ∷ []

-- a text is that of a fragment that declares a schema again
pub record IsLinked (schema : ValidatorSchema) (text : Text) : Type 0 where
  pub fragment : Fragment RawName
  pub declares : IsConvertedBack (schema_of schema) (raw_fragment fragment)
  pub is_its_text : text ≡ fragment_text fragment
