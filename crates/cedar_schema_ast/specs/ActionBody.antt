use Rattle.std.specs.Option.{is_some}
use Rattle.std.specs.Prelude.{Bool, true, false, List, [], map, Option, Some, None, string_bytes}
use Rattle.std.specs.declared.alloc.Global.{Global}
use Rattle.std.specs.declared.vec.Vec.{Vec}
use Rattle.cedar_ast.specs.PlainName.{PlainName, action_word}
use Rattle.cedar_schema_ast.specs.Expr.{Expr, record_expr, no_member}
use Rattle.cedar_schema_ast.specs.Reference.{Reference, ActionReference, reference_to}
use Rattle.cedar_schema_ast.specs.TypeExpr.{type_expr}
use Rattle.cedar_schema_ast.specs.declared.json_schema.action_type.ActionEntityUID.{ActionEntityUID}
use Rattle.cedar_schema_ast.specs.declared.json_schema.action_type.ActionType.{ActionType}
use Rattle.cedar_schema_ast.specs.declared.json_schema.action_type.ApplySpec.{ApplySpec}
use Rattle.cedar_schema_ast.specs.declared.json_schema.reference_type.ReferenceType.{ReferenceType}
use Rattle.cedar_schema_ast.specs.declared.json_schema.reference_type.ReferenceType.TheVariants.{Entity}

-- the requests that an action is for: those with one of the principals and one of the resources,
-- and the context; or, of an external action, whatever its definition says elsewhere
pub data Requests : Type 0 where
  requests : List Reference → List Reference → Expr → Requests
  elsewhere : Requests

-- what is declared of an action: whether it is written with attributes, its parents, and the
-- requests that it is for
pub record ActionBody : Type 0 where
  pub has_attributes : Bool
  pub parents : List ActionReference
  pub applies_to : Requests

-- a name of an action's type that isn't written is the base name of all such types
abbrev pub plain_action_type : PlainName
plain_action_type = record { base = action_word; path = [] }

-- declarations over names of some form in a namespace, where it is given what a name refers to at a
-- place of each kind
module _ (N : Type 0) (refer : ReferenceType → N → Reference) (namespace : Option PlainName) where
  -- what the type of a parent refers to
  abbrev pub parent_type : Option N → Reference
  parent_type None = reference_to namespace Entity plain_action_type
  parent_type (Some name) = refer Entity name

  -- a parent of an action
  abbrev pub parent_action : ActionEntityUID N → ActionReference
  parent_action it = record { id = string_bytes it.id; ty = parent_type it.ty }

  -- the parents of an action; none where none are written
  abbrev pub parent_actions : Option (Vec (ActionEntityUID N) Global) → List ActionReference
  parent_actions None = []
  parent_actions (Some parents) = map parent_action parents.items

  -- the requests that an action is for; where none are written it is for none, and its context is
  -- the closed record without attributes
  abbrev pub applies_to : Option (ApplySpec N) → Requests
  applies_to None = requests [] [] (record_expr no_member false)
  applies_to (Some it) =
      requests (map (refer Entity) it.principal_types.items)
      (map (refer Entity) it.resource_types.items)
      (type_expr N refer it.context.0)

  -- the requests that a declaration gives by whether it is external
  abbrev pub requests_by : Bool → Option (ApplySpec N) → Requests
  requests_by true it = elsewhere
  requests_by false it = applies_to it

  -- what a declaration of an action says
  abbrev pub action_body : ActionType N → ActionBody
  action_body it = record {
    has_attributes = is_some it.attributes;
    parents = parent_actions it.member_of;
    applies_to =
        requests_by it.external it.applies_to;
  }
