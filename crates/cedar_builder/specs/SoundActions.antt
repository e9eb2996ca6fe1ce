-- What is certain of the declarations of actions once these are built.
use Rattle.std.specs.Prelude.{Contains, map}
use Rattle.cedar_ast.specs.Words.{PlainName, PlainUid, Text, Twice, extension_types}
use Rattle.cedar_ast.specs.declared.extension.Extensions.{Extensions}
use Rattle.cedar_elaboration.specs.Scope.{extension_name}
use Rattle.cedar_schema_ast.specs.Words.{ActionBody, ActionReference, Expr, Reference}
use Rattle.cedar_schema_semantics.specs.Words.{Bag, CountsInRequests, HasOpenRecord, IsActionParent, IsDescendantAction, IsFault, IsPrincipalOrResource, MentionsExtension, NamesAction, Refers, ResolvesTo, action_uids, context_not_record, declared_actions, declared_entities, defined_actions, defined_names}

-- no action has two definitions, and none is a descendant of itself; contexts are record types;
-- what counts has no open record, its extension types are handed in, and its references resolve;
-- parents name actions; principals and resources resolve, to declared entity types
pub record ActionsAreSound (bag : Bag) (extensions : Extensions) : Type 0 where
  pub once : (uid : PlainUid) → ¬ Twice (map (λ it. it.0) (defined_actions bag)) uid
  pub no_cycle : (uid : PlainUid) → ¬ IsDescendantAction bag uid uid
  pub records : (uid : PlainUid) → ¬ IsFault bag extensions (context_not_record uid)
  pub closed : (uid : PlainUid) (body : ActionBody) (expr : Expr)
      → Contains (declared_actions bag) (uid, body)
      → CountsInRequests body.applies_to expr → ¬ HasOpenRecord expr
  pub extension_types : (uid : PlainUid) (body : ActionBody) (expr : Expr)
      → Contains (declared_actions bag) (uid, body)
      → CountsInRequests body.applies_to expr → (word : Text) → MentionsExtension expr word
      → Contains (extension_types extensions) (extension_name word)
  pub resolves : (uid : PlainUid) (body : ActionBody) (expr : Expr)
      → Contains (declared_actions bag) (uid, body)
      → CountsInRequests body.applies_to expr → (reference : Reference) → Refers expr reference
      → (found : PlainName) × ResolvesTo (defined_names bag extensions) reference found
  pub named : (uid : PlainUid) (reference : ActionReference) → IsActionParent bag uid reference
      → (upper : PlainUid) × NamesAction (action_uids bag) reference upper
  pub placed : (uid : PlainUid) (body : ActionBody) (reference : Reference)
      → Contains (declared_actions bag) (uid, body)
      → IsPrincipalOrResource body.applies_to reference
      → (name : PlainName) × ResolvesTo (defined_names bag extensions) reference name
  pub entity_types : (uid : PlainUid) (body : ActionBody) (reference : Reference) (name : PlainName)
      → Contains (declared_actions bag) (uid, body)
      → IsPrincipalOrResource body.applies_to reference
      → ResolvesTo (defined_names bag extensions) reference name
      → Contains (map (λ it. it.0) (declared_entities bag)) name
