use Rattle.std.specs.BTreeMap.{BTreeMap, get_by}
use Rattle.std.specs.Option.{option_map, option_or}
use Rattle.std.specs.Ordering.{is_eq}
use Rattle.std.specs.Prelude.{◌≡◌, List, [], ◌∷◌, cond, Option, None, Some, string_bytes}
use Rattle.cedar_ast.specs.Words.{PlainName, Text, name_cmp, name_of, name_text, reserved_word}
use Rattle.cedar_ast.specs.declared.internal_name.InternalName.{InternalName}
use Rattle.cedar_ast.specs.declared.loc.Loc.{Loc}
use Rattle.cedar_fragments.specs.Located.{DefinedNamespace}
use Rattle.cedar_schema.specs.declared.located_namespace.LocatedNamespace.{LocatedNamespace}

-- a namespace as a schema shows it: its name as it is printed, where the name was written, and
-- where it was defined
pub record ShownNamespace : Type 0 where
  pub text : Text
  pub name_loc : Option Loc
  pub def_loc : Option Loc

-- a namespace of a schema as it is shown
abbrev pub shown_namespace : LocatedNamespace → ShownNamespace
shown_namespace it = record {
  text = string_bytes it.name;
  name_loc = it.name_loc;
  def_loc = it.def_loc;
}

-- a namespace under its full name, as it is shown
abbrev pub shown_entry : InternalName × LocatedNamespace → PlainName × ShownNamespace
shown_entry entry = (name_of entry.0, shown_namespace entry.1)

-- a namespace that is defined, as it is to be shown
abbrev pub printed_namespace : DefinedNamespace → ShownNamespace
printed_namespace it = record {
  text = name_text it.name;
  name_loc = it.name_loc;
  def_loc = it.def_loc;
}

-- the namespace `__cedar` of the built-in types, which nothing in a source text defines
abbrev pub built_in_namespace : DefinedNamespace
built_in_namespace = record {
  name = record { base = reserved_word; path = [] };
  name_loc = None;
  def_loc = None;
}

-- the last definition of a namespace of that name, if there is one
abbrev pub last_defined : PlainName → List DefinedNamespace → Option DefinedNamespace
last_defined name [] = None
last_defined name (first ∷ rest) =
    option_or (last_defined name rest) (cond (is_eq (name_cmp name first.name)) (Some first) None)

-- what a map from names holds at a name, as it is shown
abbrev pub namespace_at : BTreeMap InternalName LocatedNamespace → PlainName → Option ShownNamespace
namespace_at namespaces name =
    option_map shown_namespace (get_by (λ key. name_cmp name (name_of key)) namespaces)

-- a map holds at each name the last definition of a namespace of that name, and nothing where there
-- is none
abbrev pub HoldsNamespaces : List DefinedNamespace → BTreeMap InternalName LocatedNamespace → Type 0
HoldsNamespaces defined namespaces =
    (name : InternalName) → namespace_at namespaces (name_of name)
    ≡ option_map printed_namespace (last_defined (name_of name) defined)
