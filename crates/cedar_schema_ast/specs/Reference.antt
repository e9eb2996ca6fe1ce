use Rattle.std.specs.Prelude.{List, [], ◌∷◌, ◌++◌, Option, None, Some}
use Rattle.cedar_ast.specs.Words.{PlainName, Text}
use Rattle.cedar_schema_ast.specs.declared.json_schema.reference_type.ReferenceType.{ReferenceType}

-- a reference to a type: the names that it may stand for, the first to be tried first, and the
-- kinds of definition that it may name
pub record Reference : Type 0 where
  pub possibilities : List PlainName
  pub kind : ReferenceType

-- a reference to an action: its id, and the names that its type may stand for
pub record ActionReference : Type 0 where
  pub id : Text
  pub ty : Reference

-- the path of what is declared in a namespace; None is the empty namespace
abbrev pub path_within : Option PlainName → List Text
path_within None = []
path_within (Some namespace) = namespace.path ++ namespace.base ∷ []

-- the full name of an id in a namespace
abbrev pub name_within : Option PlainName → Text → PlainName
name_within namespace id = record { base = id; path = path_within namespace }

-- the names that a base name after a path may stand for in a namespace: without a path the name in
-- the namespace and then the name itself, with one itself alone
abbrev pub names_within : PlainName → Text → List Text → List PlainName
names_within namespace base [] =
    name_within (Some namespace) base ∷ record { base = base; path = [] } ∷ []
names_within namespace base (part ∷ path) = record { base = base; path = part ∷ path } ∷ []

-- the names that a written name may stand for; in the empty namespace itself alone
abbrev pub possible_names : Option PlainName → PlainName → List PlainName
possible_names None name = name ∷ []
possible_names (Some namespace) name = names_within namespace name.base name.path

-- a written name as a reference
abbrev pub reference_to : Option PlainName → ReferenceType → PlainName → Reference
reference_to namespace kind name =
    record { possibilities = possible_names namespace name; kind = kind }

-- a base name after a path as the name in full of what is declared under it in a namespace: without
-- a path the name in the namespace, with one itself
abbrev pub qualified_within : PlainName → Text → List Text → PlainName
qualified_within namespace base [] = name_within (Some namespace) base
qualified_within namespace base (part ∷ path) = record { base = base; path = part ∷ path }

-- a written name as the name in full of what is declared under it; in the empty namespace itself
abbrev pub qualified_name : Option PlainName → PlainName → PlainName
qualified_name None name = name
qualified_name (Some namespace) name = qualified_within namespace name.base name.path
