use Rattle.std.specs.Prelude.{◌≡◌, List, Option, None, Some, Contains, map}
use Rattle.cedar_ast.specs.Words.{PlainUid, uid_loc, uid_of, uid_type_loc}
use Rattle.cedar_ast.specs.declared.entity_uid.EntityUID.{EntityUID}
use Rattle.cedar_ast.specs.declared.loc.Loc.{Loc}
use Rattle.cedar_schema_elements.specs.ActionKind.{plain_kind}
use Rattle.cedar_schema_elements.specs.declared.action_id.ActionParts.{ActionParts}
use Rattle.cedar_schema_elements.specs.declared.action_id.ValidatorActionId.{ValidatorActionId}
use Rattle.cedar_schema_elements.specs.declared.action_kind.ValidatorActionKind.{ValidatorActionKind}
use Rattle.cedar_schema_elements.specs.declared.action_kind.ValidatorActionKind.TheVariants as variant
use Rattle.cedar_schema_semantics.specs.PlainSchema.{SchemaAction}
use Rattle.cedar_types.specs.declared.types.Type.{«Type»}

-- the parts of an action
abbrev pub parts_of : ValidatorActionId → ActionParts
parts_of it = it.parts.value

-- an action as plain data, but for its location
abbrev pub action_of : ValidatorActionId → SchemaAction
action_of it = record {
  uid = uid_of (parts_of it).name;
  kind = plain_kind (parts_of it).kind;
  descendants = map uid_of (parts_of it).descendants.keys;
}

-- where the action was declared
abbrev pub action_loc : ValidatorActionId → Option Loc
action_loc it = (parts_of it).loc

-- where the uid of the action was written
abbrev pub name_loc : ValidatorActionId → Option Loc
name_loc it = uid_loc (parts_of it).name

-- where the type in the uid of the action was written
abbrev pub name_type_loc : ValidatorActionId → Option Loc
name_type_loc it = uid_type_loc (parts_of it).name

-- an action has this uid, which was written where it says, and was declared at this place
pub record IsAction (name : EntityUID) (loc : Option Loc) (action : ValidatorActionId)
    : Type 0 where
  pub uid : (action_of action).uid ≡ uid_of name
  pub written : name_loc action ≡ uid_loc name
  pub type_written : name_type_loc action ≡ uid_type_loc name
  pub declared : action_loc action ≡ loc

-- the type of the context of a kind
abbrev pub borrowed_context : ValidatorActionKind → Option «Type»
borrowed_context (variant.Defined requests) = Some requests.value.context
borrowed_context variant.External = None

-- the type of the context that the action lends: that of a defined one, else none
abbrev pub context_of : ValidatorActionId → Option «Type»
context_of it = borrowed_context (parts_of it).kind

-- an action of a schema under its uid, as plain data
abbrev pub plain_action_entry : EntityUID × ValidatorActionId → PlainUid × SchemaAction
plain_action_entry entry = (uid_of entry.0, action_of entry.1)

-- the key of an action was written where its uid was, and the type in the one where that in the
-- other was
pub record IsLocatedAsKey (entry : EntityUID × ValidatorActionId) : Type 0 where
  pub uid : uid_loc entry.0 ≡ name_loc entry.1
  pub ty : uid_type_loc entry.0 ≡ name_type_loc entry.1

-- each key was written where the uid of its action was
abbrev pub AreLocatedAsKeys : List (EntityUID × ValidatorActionId) → Type 0
AreLocatedAsKeys entries = (entry : EntityUID × ValidatorActionId) → Contains entries entry
    → IsLocatedAsKey entry
