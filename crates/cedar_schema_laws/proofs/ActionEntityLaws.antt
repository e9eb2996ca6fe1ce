-- The entities of actions of a declared schema are those of the actions that are defined.
use Rattle.std.proofs.Common.{map, Contains}
use Rattle.cedar_ast.proofs.Basics.{Contains-image}
use Rattle.cedar_ast.proofs.Chains.{last_step}
use Rattle.cedar_schema_laws.proofs.ValidLaws.{listed_action}
use Rattle.cedar_schema_laws.specs.Words.{ActionEntitiesAreDeclared, ActionKind, ActionSays, Bag, DefinesAction, Extensions, HasParentAction, IsDeclaredActionKind, IsDeclaredSchema, IsDefinedKind, IsDescendantAction, ListsDescendantAction, PlainSchema, PlainUid, Requests, action_uids, defined_action, defined_actions, definitions, elsewhere, external_action, requests}
use Rattle.cedar_schema_semantics.proofs.NamedActions.{NamesAction-among}
use Rattle.cedar_schema_semantics.proofs.OccurrenceLemmas.{Contains-entry}
use Rattle.cedar_schema_semantics.proofs.TogetherLemmas.{defined_action_is_declared}

module _ (bag : Bag) (extensions : Extensions) (schema : PlainSchema) (declared : IsDeclaredSchema bag extensions schema) where
  -- a descendant of an action is listed
  descendant_listed : (lower upper : PlainUid) → IsDescendantAction bag lower upper → ListsDescendantAction schema lower upper
  descendant_listed lower upper below =
      let step = (last_step (HasParentAction bag) lower upper below).1 in
      let it = Contains-entry schema.actions upper (declared.each_action upper
      (NamesAction-among (action_uids bag) step.0 upper step.2)) in
      (it.0, it.1, ((declared.actions (upper, it.0) it.1).descendants lower).1 below)

  -- an action that the schema defines the bag defines
  defined_here : (uid : PlainUid) → DefinesAction schema uid → Contains (map (λ it. it.0) (defined_actions bag)) uid
  defined_here uid (action, there, is_defined) =
      let found = declared.actions (uid, action) there in by found.applies_to action.kind found.says found.kind is_defined where
        by : (it : Requests) (kind : ActionKind) → ActionSays bag uid it → IsDeclaredActionKind (definitions bag extensions) it kind
            → IsDefinedKind kind → Contains (map (λ it. it.0) (defined_actions bag)) uid
        by (requests ps rs context) kind says fits is_defined =
            Contains-image (λ (each : PlainUid × Requests). each.0) (defined_actions bag) (uid, requests ps rs context) says
        by elsewhere (defined_action ps rs ty) says fits is_defined = absurd fits
        by elsewhere external_action says fits is_defined = absurd is_defined

  -- an action that the bag defines the schema defines
  defined_there : (uid : PlainUid) → Contains (map (λ it. it.0) (defined_actions bag)) uid → DefinesAction schema uid
  defined_there uid defined =
      let it = Contains-entry schema.actions uid (declared.each_action uid (defined_action_is_declared bag uid defined)) in
      let found = declared.actions (uid, it.0) it.1 in
      (it.0, it.1, by found.applies_to it.0.kind found.says found.kind)
    where
      by : (it : Requests) (kind : ActionKind) → ActionSays bag uid it → IsDeclaredActionKind (definitions bag extensions) it kind
          → IsDefinedKind kind
      by (requests ps rs context) (defined_action ps' rs' ty) says fits = tt
      by (requests ps rs context) external_action says fits = absurd fits
      by elsewhere kind says fits = absurd (says.1 defined)

-- the entities of actions of a declared schema are those of the actions that are defined
pub entities_declared : ActionEntitiesAreDeclared
entities_declared bag extensions schema declared = (
  λ it among.
      (let of_action = declared.action_entities.entities it among in
      record {
        defined = defined_here bag extensions schema declared it.uid of_action.defined;
        attributes = of_action.attributes;
        tags = of_action.tags;
        ancestors = λ upper. (
          λ above. listed_action bag extensions schema declared it.uid upper ((of_action.ancestors upper).0 above),
          λ below. (of_action.ancestors upper).1 (descendant_listed bag extensions schema declared it.uid upper below),
        );
      }),
  λ uid defined. declared.action_entities.each uid (defined_there bag extensions schema declared uid defined),
)
