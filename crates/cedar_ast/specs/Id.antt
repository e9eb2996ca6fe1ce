use Rattle.std.specs.Prelude.{string_bytes}
use Rattle.cedar_ast.specs.Text.{Text}
use Rattle.cedar_ast.specs.declared.id.Id.{Id}

-- the text of an identifier
abbrev pub id_text : Id → Text
id_text id = string_bytes id.text
