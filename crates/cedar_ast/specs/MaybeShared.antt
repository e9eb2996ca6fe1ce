use Rattle.std.specs.Prelude.{Bool, false, true}
use Rattle.cedar_ast.specs.declared.maybe_shared.Form.{Form}
use Rattle.cedar_ast.specs.declared.maybe_shared.Form.TheVariants.{Owned, Shared}

-- what a clause sees of a value that is owned or shared: the value, and whether it is shared
pub record Kept (T : Type 0) : Type 0 where
  pub value : T
  pub is_shared : Bool

-- what a form keeps
abbrev pub kept : {T : Type 0} → Form T → Kept T
kept (Owned value) = record { value = value; is_shared = false }
kept (Shared shared) = record { value = shared.value; is_shared = true }
