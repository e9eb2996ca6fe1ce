use Rattle.std.specs.BTreeMap.{BTreeMap, get_by}
use Rattle.std.specs.Prelude.{Bool, Option}
use Rattle.cedar_ast.specs.InternalName.{name_of, name_loc, is_name_shared}
use Rattle.cedar_ast.specs.PlainName.{PlainName, name_cmp}
use Rattle.cedar_ast.specs.declared.loc.Loc.{Loc}
use Rattle.cedar_ast.specs.declared.name.Name.{Name}

-- what a name that isn't reserved stands for
abbrev pub plain_name : Name → PlainName
plain_name name = name_of name.name

-- where the name was written
abbrev pub plain_loc : Name → Option Loc
plain_loc name = name_loc name.name

-- the name's parts are shared, so that a copy of it is a count
abbrev pub is_plain_shared : Name → Bool
is_plain_shared name = is_name_shared name.name

-- what a map from names holds at a name, whatever the locations
abbrev pub at_name : {X : Type 0} → BTreeMap Name X → PlainName → Option X
at_name entries name = get_by (λ key. name_cmp name (plain_name key)) entries
