-- What fragments declare, as declarations of their bag.
use Rattle.std.specs.Option.{option_map}
use Rattle.std.specs.Prelude.{List, Option, map, string_bytes}
use Rattle.cedar_ast.specs.Words.{PlainName, Text, plain_name, unreserved_id_text}
use Rattle.cedar_ast.specs.declared.name.Name.{Name}
use Rattle.cedar_diagnosis.specs.declared.lent.Lent.{Lent}
use Rattle.cedar_diagnosis.specs.declared.lent.LentBody.{LentBody}
use Rattle.cedar_diagnosis.specs.declared.lent.LentBody.TheVariants as lent
use Rattle.cedar_schema_ast.specs.declared.json_schema.raw_name.RawName.{RawName}
use Rattle.cedar_schema_ast.specs.Words.{Body, Declaration, action, action_body, common_type, common_type_text, entity_type, raw_entity_body, raw_expr, raw_reference}

-- the name of a namespace, None being the empty one
abbrev pub namespace_of : Option Name → Option PlainName
namespace_of namespace = option_map plain_name namespace

-- the id under which something is declared
abbrev pub lent_id : LentBody → Text
lent_id (lent.CommonType id declared) = common_type_text id.now
lent_id (lent.EntityType id declared) = unreserved_id_text id.now
lent_id (lent.Action id declared) = string_bytes id.now

-- what is declared, where it is written in the namespace
abbrev pub lent_body : Option PlainName → LentBody → Body
lent_body namespace (lent.CommonType id declared) = common_type (raw_expr namespace declared.now.ty)
lent_body namespace (lent.EntityType id declared) =
    entity_type (raw_entity_body namespace declared.now)
lent_body namespace (lent.Action id declared) =
    action (action_body RawName (raw_reference namespace) namespace declared.now)

-- the declaration that is lent
abbrev pub declaration_of : Lent → Declaration
declaration_of it = record {
  namespace = namespace_of it.namespace.now;
  id = lent_id it.body;
  body = lent_body (namespace_of it.namespace.now) it.body;
}

-- the declarations that are lent, in order
abbrev pub declarations_of : List Lent → List Declaration
declarations_of items = map declaration_of items
