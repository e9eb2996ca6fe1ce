use Rattle.std.specs.Prelude.{false, List, map, Option, None, Some, string_bytes}
use Rattle.cedar_ast.specs.EntityUID.{uid_of}
use Rattle.cedar_fragments.specs.DeclaredAs.{declared_action}
use Rattle.cedar_fragments.specs.declared.namespace.action_def.ActionDef.{ActionDef}
use Rattle.cedar_fragments.specs.declared.namespace.actions.ActionFragment.{ActionFragment}
use Rattle.cedar_fragments.specs.declared.namespace.actions.ActionParent.{ActionParent}
use Rattle.cedar_fragments.specs.declared.namespace.actions.ActionRequests.{ActionRequests}
use Rattle.cedar_fragments.specs.declared.namespace.actions.ActionsDef.{ActionsDef}
use Rattle.cedar_schema_ast.specs.Words.{ActionBody, ActionReference, Declaration, Reference, Requests, action, elsewhere, requests, type_expr}
use Rattle.cedar_schema_ast.specs.declared.json_schema.reference_type.ReferenceType.{ReferenceType}
use Rattle.cedar_schema_ast.specs.declared.json_schema.reference_type.ReferenceType.TheVariants.{Entity}

-- over names of some form, where it is given what a name refers to at a place of each kind
module _ (N : Type 0) (refer : ReferenceType → N → Reference) where
  -- the requests that an action is for; those of an external one are said elsewhere
  abbrev pub fragment_requests : Option (ActionRequests N) → Requests
  fragment_requests None = elsewhere
  fragment_requests (Some it) =
      requests (map (refer Entity) it.principals.items) (map (refer Entity) it.resources.items)
      (type_expr N refer it.context)

  -- a parent of an action
  abbrev pub fragment_parent : ActionParent N → ActionReference
  fragment_parent it = record { id = string_bytes it.id; ty = refer Entity it.ty }

-- over names of some form, and names of the types of actions of another
module _ (N : Type 0) (refer : ReferenceType → N → Reference) (A : Type 0)
    (refer_action : ReferenceType → A → Reference) where
  -- what is declared of an action, which has no attributes
  abbrev pub action_fragment_body : ActionFragment N A → ActionBody
  action_fragment_body it = record {
    has_attributes = false;
    parents = map (fragment_parent A refer_action) it.parents.items;
    applies_to = fragment_requests N refer it.requests;
  }

  -- the declaration of an action
  abbrev pub action_fragment_declaration : ActionDef N A → Declaration
  action_fragment_declaration def =
      declared_action (uid_of def.uid) (action (action_fragment_body def.fragment))

  -- the declarations of the actions
  abbrev pub action_fragment_declarations : ActionsDef N A → List Declaration
  action_fragment_declarations it = map action_fragment_declaration it.defs.items
