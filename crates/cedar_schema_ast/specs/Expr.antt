use Rattle.std.specs.Prelude.{Bool, List, [], ◌∷◌}
use Rattle.cedar_ast.specs.Text.{Text}
use Rattle.cedar_schema_ast.specs.Reference.{Reference}

mutual
  -- a type as a schema writes it, as plain data: the references stand for what they may name
  pub data Expr : Type 0 where
    text_expr : Expr
    long_expr : Expr
    truth_expr : Expr
    set_expr : Expr → Expr
    record_expr : Members → Bool → Expr
    named : Reference → Expr
    extension_expr : Text → Expr

  -- the attributes of a record type: for each its name, whether it is required, and its type
  pub data Members : Type 0 where
    no_member : Members
    member : Text → Bool → Expr → Members → Members

-- the attributes that some pairs of a name and an attribute give, in the order of the pairs
abbrev pub members_from : List (Text × (Bool × Expr)) → Members
members_from [] = no_member
members_from (item ∷ rest) = member item.0 item.1.0 item.1.1 (members_from rest)
