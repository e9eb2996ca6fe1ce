use Rattle.cedar_ast.specs.Words.{Text, unreserved_id_text}
use Rattle.cedar_schema_ast.specs.declared.json_schema.common_type_id.CommonTypeId.{CommonTypeId}

-- the text of a common type's name
abbrev pub common_type_text : CommonTypeId → Text
common_type_text it = unreserved_id_text it.id
