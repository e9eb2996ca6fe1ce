-- Definitions of namespaces that are put together.
use Rattle.std.proofs.Common.{◌≡◌, List, [], ◌∷◌, ◌++◌, map, Option, None, Some, option_map, refl, ap, sym, ◌∙◌}
use Rattle.std.specs.BTreeMap.{insert_entry}
use Rattle.std.specs.Option.{option_cmp}
use Rattle.std.specs.declared.cmp.Ordering.{Ordering}
use Rattle.cedar_ast.proofs.Names.{name_ord-name_cmp}
use Rattle.cedar_ast.specs.contracts.name.NameOrd.TheImpl as name_ord
use Rattle.cedar_ast.specs.declared.name.Name.{Name}
use Rattle.cedar_schema_ast.specs.declared.json_schema.raw_name.RawName.{RawName}
use Rattle.cedar_schema_ast.specs.declared.json_schema.fragment.NamespaceDefinition.{NamespaceDefinition}
use Rattle.cedar_schema_text.proofs.SoFar.{in_order_more, seen, seen-insert}
use Rattle.cedar_schema_text.specs.Meaning.{in_order, namespace_cmp}
use Rattle.cedar_schema_text.specs.Placed.{FragmentAt}
use Rattle.cedar_schema_text.specs.Shown.{definition_shown, namespace_shown}

-- the order of the keys of a map of namespaces
abbrev pub by_name : Option Name → Option Name → Ordering
by_name = option_cmp (name_ord.ghosts).cmp

-- namespaces are ordered as their names are
pub namespace_order : (a b : Option Name) → by_name a b ≡ namespace_cmp (option_map namespace_shown a) (option_map namespace_shown b)
namespace_order None None = refl
namespace_order None (Some b) = refl
namespace_order (Some a) None = refl
namespace_order (Some a) (Some b) = name_ord-name_cmp a b

abbrev pub Entries : Type 0
Entries = List (Option Name × NamespaceDefinition RawName)

-- what entries stand for
abbrev pub entries_shown : Entries → FragmentAt
entries_shown entries = map (λ entry. (option_map namespace_shown entry.0, definition_shown entry.1)) entries

-- the empty namespace comes behind others
pub empty_behind : (entries new : Entries) (before : FragmentAt) (it : NamespaceDefinition RawName)
    → entries_shown entries ≡ in_order namespace_cmp before → new ≡ insert_entry by_name entries None it
    → entries_shown new ≡ in_order namespace_cmp (before ++ (None, definition_shown it) ∷ [])
empty_behind entries new before it same pushed =
    ap entries_shown pushed
    ∙ seen-insert by_name namespace_cmp (option_map namespace_shown) definition_shown namespace_order entries None it
    ∙ ap (λ all. insert_entry namespace_cmp all None (definition_shown it)) same
    ∙ sym (in_order_more namespace_cmp before (None, definition_shown it))
