-- How deep types are and how many types stand in them, and what is found of that.
use Rattle.std.specs.Option.{unwrap_or}
use Rattle.std.specs.Prelude.{◌≡◌, ◌+◌, ◌-◌, ◌^◌, ℕ, List, Option, None, Some, Contains, max, min, slice_get}
use Rattle.cedar_ast.specs.Words.{PlainName}
use Rattle.cedar_schema_ast.specs.Words.{Expr}
use Rattle.cedar_schema_semantics.specs.Words.{Defined, ElaboratesTo}
use Rattle.cedar_type_rules.specs.Ty.{Fields, Ty, end, field, record_of, set_of}
use Rattle.cedar_written_out.specs.declared.figure.Figure.{Figure}

abbrev mutual
  -- how many types stand in one another: of a set or a record one more than of the deepest type in
  -- it, and one of any other type
  pub type_depth : Ty → ℕ
  type_depth (set_of element) = 1 + type_depth element
  type_depth (record_of fields openness) = 1 + fields_depth fields
  type_depth _ = 1

  -- the depth of the deepest of the types of some attributes; 0 where there are none
  pub fields_depth : Fields → ℕ
  fields_depth end = 0
  fields_depth (field name required ty rest) = max (type_depth ty) (fields_depth rest)

abbrev mutual
  -- how many types there are in a type: itself, and all that stand in it
  pub type_size : Ty → ℕ
  type_size (set_of element) = 1 + type_size element
  type_size (record_of fields openness) = 1 + fields_size fields
  type_size _ = 1

  -- how many there are in the types of some attributes together
  pub fields_size : Fields → ℕ
  fields_size end = 0
  fields_size (field name required ty rest) = type_size ty + fields_size rest

-- the greatest number that a figure holds
abbrev pub most : ℕ
most = 2 ^ 64 - 1

-- the figure is that of a type of such a depth and size, each of which is cut down to the greatest
-- number that it holds
pub record IsFigureOf (figure : Figure) (deep large : ℕ) : Type 0 where
  pub depth : figure.depth ≡ min deep most
  pub size : figure.size ≡ min large most

-- the figure is that of the type
abbrev pub IsFigure : Figure → Ty → Type 0
IsFigure figure ty = IsFigureOf figure (type_depth ty) (type_size ty)

-- what is found of an expression: the figure of the type that it is elaborated as; or nothing, and
-- it is elaborated as no type
abbrev pub IsMeasured : Defined → Expr → Option Figure → Type 0
IsMeasured defined expr None = (ty : Ty) → ¬ ElaboratesTo defined expr ty
IsMeasured defined expr (Some figure) =
    (ty : Ty) × ElaboratesTo defined expr ty × IsFigure figure ty

-- no name of a common type has two definitions
abbrev pub HasOneDefinition : Defined → Type 0
HasOneDefinition defined = (name : PlainName) (body other : Expr)
    → Contains defined.common (name, body) → Contains defined.common (name, other) → body ≡ other

-- the figure at a place, where there is one
abbrev pub figure_at : List (Option Figure) → ℕ → Option Figure
figure_at figures place = unwrap_or (slice_get figures place) None
