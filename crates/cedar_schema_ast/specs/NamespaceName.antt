use Rattle.std.specs.Borrow.{Bor}
use Rattle.std.specs.Option.{option_map}
use Rattle.std.specs.Prelude.{Option}
use Rattle.cedar_ast.specs.Words.{PlainName, name_of}
use Rattle.cedar_ast.specs.declared.internal_name.InternalName.{InternalName}

-- the name of a namespace that is borrowed; None is the empty namespace
abbrev pub namespace_name : Option (Bor InternalName) → Option PlainName
namespace_name namespace = option_map (λ name. name_of name.now) namespace
