-- Built-in types and aliases as lists of types under names.
use Rattle.std.specs.List.{filter, list_any}
use Rattle.std.specs.Ordering.{is_eq}
use Rattle.std.specs.Prelude.{Bool, not, List, map}
use Rattle.cedar_ast.specs.Words.{PlainName, Text, id_text, name_cmp}
use Rattle.cedar_ast.specs.declared.id.Id.{Id}
use Rattle.cedar_schema_ast.specs.Words.{Expr, Reference, type_expr}
use Rattle.cedar_schema_ast.specs.declared.json_schema.reference_type.ReferenceType.{ReferenceType}
use Rattle.cedar_schema_ast.specs.declared.json_schema.type_of.Type.{«Type»}
use Rattle.cedar_schema_semantics.specs.Words.{alias_name}

-- types under base names, with what each stands for over names of some form, where it is given what
-- a name refers to at a place of each kind
abbrev pub named_types : (N : Type 0) → (ReferenceType → N → Reference) → List (Id × «Type» N)
    → List (Text × Expr)
named_types N refer types = map (λ it. (id_text it.0, type_expr N refer it.1)) types

-- the base name alone is among the names
abbrev pub is_taken : List PlainName → Text → Bool
is_taken names word = list_any (λ name. is_eq (name_cmp (alias_name word) name)) names

-- of some built-in types the aliases beside types of these names: those whose base name isn't
-- taken, under it alone
abbrev pub free_aliases : List PlainName → List (Text × Expr) → List (PlainName × Expr)
free_aliases names types = map (λ it.
    (alias_name it.0, it.1)) (filter (λ it. not (is_taken names it.0)) types)
