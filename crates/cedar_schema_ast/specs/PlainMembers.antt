use Rattle.std.specs.Prelude.{Bool, List, map, Option, string_bytes}
use Rattle.std.specs.declared.alloc.Global.{Global}
use Rattle.std.specs.declared.string.String.{String}
use Rattle.cedar_ast.specs.Words.{PlainName, Text}
use Rattle.cedar_schema_ast.specs.Expr.{Expr}
use Rattle.cedar_schema_ast.specs.RawExpr.{raw_attribute}
use Rattle.cedar_schema_ast.specs.declared.json_schema.raw_name.RawName.{RawName}
use Rattle.cedar_schema_ast.specs.declared.json_schema.type_of.TypeOfAttribute.{TypeOfAttribute}

-- pairs of a name and an attribute that is written in a namespace, as plain data
abbrev pub plain_members : Option PlainName → List (String Global × TypeOfAttribute RawName)
    → List (Text × (Bool × Expr))
plain_members namespace entries =
    map (λ entry. (string_bytes entry.0, raw_attribute namespace entry.1)) entries
