use Rattle.std.specs.Prelude.{string_bytes}
use Rattle.cedar_ast.specs.Text.{Text}
use Rattle.cedar_ast.specs.declared.eid.Eid.{Eid}

-- the text of an entity's id
abbrev pub eid_text : Eid → Text
eid_text eid = string_bytes eid.0
