use Rattle.std.specs.Prelude.{[], codes}
use Rattle.cedar_ast.specs.Words.{PlainName, Text}
use Rattle.cedar_ast.specs.declared.extension.Extensions.{Extensions}
use Rattle.cedar_type_rules.specs.Words.{IsStatedWith, Ty}

-- the name that a text spells, without a path
abbrev pub bare_name : Text → PlainName
bare_name text = record { base = text; path = [] }

-- the name of the type of the sample extension
abbrev pub sample_type : PlainName
sample_type = bare_name (codes "ipaddr")

-- a type is stated, whatever the extensions, and without samples
abbrev pub IsStatedAlone : Ty → Type 0
IsStatedAlone ty = (extensions : Extensions) → IsStatedWith extensions [] ty
