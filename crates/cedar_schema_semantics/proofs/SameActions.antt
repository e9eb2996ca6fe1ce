-- Kinds of actions, and actions, that are the same.
use Rattle.std.proofs.Common.{◌≡◌, refl, sym}
use Rattle.cedar_schema_semantics.specs.ActionEntities.{IsDefinedKind}
use Rattle.cedar_schema_semantics.specs.PlainSchema.{ActionKind, SchemaAction, defined_action, external_action}
use Rattle.cedar_schema_semantics.specs.SameSchema.{SameAction, SameActionKind}
use Rattle.cedar_schema_semantics.specs.Words.{PlainUid}

-- each kind is for the same requests as itself
pub kind_itself : (kind : ActionKind) → SameActionKind kind kind
kind_itself (defined_action principals resources context) = (λ it. (λ is. is, λ is. is), λ it. (λ is. is, λ is. is), refl)
kind_itself external_action = tt

-- the same kinds the other way round
pub kind_back : (kind other : ActionKind) → SameActionKind kind other → SameActionKind other kind
kind_back (defined_action principals resources context) (defined_action others other_resources other_context) same = (
  λ name. ((same.0 name).1, (same.0 name).0),
  λ name. ((same.1 name).1, (same.1 name).0),
  sym same.2,
)
kind_back external_action external_action same = tt
kind_back _ _ same = absurd same

-- the same actions the other way round
pub action_back : (it other : PlainUid × SchemaAction) → SameAction it other → SameAction other it
action_back it other same = record {
  key = sym same.key;
  uid = sym same.uid;
  kind = kind_back it.1.kind other.1.kind same.kind;
  descendants = λ uid. ((same.descendants uid).1, (same.descendants uid).0);
}

-- a kind for the same requests as a defined one is defined
pub defined_like : (kind other : ActionKind) → SameActionKind kind other → IsDefinedKind kind → IsDefinedKind other
defined_like (defined_action principals resources context) (defined_action others other_resources other_context) same is = tt
defined_like _ _ same is = absurd assumption
