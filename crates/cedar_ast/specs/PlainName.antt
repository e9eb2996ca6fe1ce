use Rattle.std.specs.Cmp.Lexicographic.{slice_cmp}
use Rattle.std.specs.List.{flat_map}
use Rattle.std.specs.Ordering.{ordering_then}
use Rattle.std.specs.Prelude.{◌≡◌, ◌⊎◌, List, [], ◌++◌, codes, Contains}
use Rattle.std.specs.declared.cmp.Ordering.{Ordering}
use Rattle.cedar_ast.specs.Identifier.{reserved_word}
use Rattle.cedar_ast.specs.Text.{Text, text_cmp}

-- what a name stands for: its base name, and the path before it with the outermost part first
pub record PlainName : Type 0 where
  pub base : Text
  pub path : List Text

-- the name has no path
abbrev pub IsUnqualified : PlainName → Type 0
IsUnqualified name = name.path ≡ []

-- a part of the name is the reserved word
abbrev pub IsReserved : PlainName → Type 0
IsReserved name = (name.base ≡ reserved_word) ⊎ Contains name.path reserved_word

-- the base name of every action's type
abbrev pub action_word : Text
action_word = codes "Action"

-- the name is the type of actions: its base name is `Action`, whatever its path
abbrev pub IsActionType : PlainName → Type 0
IsActionType name = name.base ≡ action_word

-- the name as it is printed: its parts, joined by `::`
abbrev pub name_text : PlainName → Text
name_text name = flat_map (λ part. part ++ codes "::") name.path ++ name.base

-- the order of names: by base name, and then by path
abbrev pub name_cmp : PlainName → PlainName → Ordering
name_cmp a b = ordering_then (text_cmp a.base b.base) (slice_cmp text_cmp a.path b.path)
