use Rattle.cedar_ast.specs.Id.{id_text}
use Rattle.cedar_ast.specs.Text.{Text}
use Rattle.cedar_ast.specs.declared.unreserved_id.UnreservedId.{UnreservedId}

-- the text of an identifier that isn't reserved
abbrev pub unreserved_id_text : UnreservedId → Text
unreserved_id_text it = id_text it.id
