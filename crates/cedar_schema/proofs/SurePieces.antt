-- What the steps make sure of, together, is that the bag isn't ill-formed.
use Rattle.std.proofs.Common.{List, inl, inr, subst, map, Contains}
use Rattle.cedar_ast.proofs.Lists.{Contains-preimage}
use Rattle.cedar_schema.specs.Words.{ActionsAreSound, Bag, CommonTypesAreSound, EntityBody, EntityTypesAreSound, Expr, Extensions, HasNoDefinitionFault, HasOpenRecord, IsActionType, IsIllFormed, IsNamedOver, Names, PlainName, Reference, Refers, ResolvesTo, action_attributes, action_entity_type, declared_entities, defined_names, reserved_name}
use Rattle.cedar_schema_laws.proofs.MentionLemmas.{HasKnownExtensions}
use Rattle.cedar_schema_laws.proofs.SureBags.{of_counted, of_placed, sure_is_well}

module _ (bag : Bag) (extensions : Extensions) (names : Names) (built_in : List (PlainName × Expr))
    (over : IsNamedOver bag extensions names built_in) (definitions_sound : HasNoDefinitionFault bag) (common : CommonTypesAreSound bag extensions)
    (entities : EntityTypesAreSound bag extensions) (actions : ActionsAreSound bag extensions) where
  -- a declared entity type is no type of actions
  declared_no_action : (name : PlainName) → Contains (map (λ it. it.0) (declared_entities bag)) name → ¬ IsActionType name
  declared_no_action name among is_action =
      let found = Contains-preimage (λ (it : PlainName × EntityBody). it.0) (declared_entities bag) name among in
      let P : PlainName → Type 0 = λ each. Contains (declared_entities bag) (each, found.0.1) in
      definitions_sound extensions (action_entity_type name) tt (found.0.1, subst P found.2 found.1, is_action)

  -- nothing in the bag is at fault
  pub pieces_well : ¬ IsIllFormed bag extensions
  pieces_well =
      sure_is_well bag extensions (record {
        attributes = λ ids. definitions_sound extensions (action_attributes ids) tt;
        closed = of_counted bag (λ expr. ¬ HasOpenRecord expr) common.closed entities.closed actions.closed;
        known = of_counted bag (HasKnownExtensions extensions) common.known entities.extension_types actions.extension_types;
        places = λ reference name placed resolves. of_placed bag
            (λ each. ResolvesTo (defined_names bag extensions) each name → ¬ IsActionType name)
            (λ lower each parent is. declared_no_action name (entities.parents lower name each parent is))
            (λ uid body each among place is. declared_no_action name (actions.entity_types uid body each name among place is))
            reference placed resolves;
        resolves = λ reference has. elim has [
          | inl counts ↦ of_counted bag (λ expr. (each : Reference) → Refers expr each
              → (name : PlainName) × ResolvesTo (defined_names bag extensions) each name)
              common.resolves entities.resolves actions.resolves counts.0 counts.1 reference counts.2
          | inr placed ↦ of_placed bag (λ each. (name : PlainName) × ResolvesTo (defined_names bag extensions) each name)
              entities.placed actions.placed reference placed
        ];
        names = actions.named;
        types_shadow = over.types_shadow;
        actions_shadow = over.actions_shadow;
        entity_types_once = entities.once;
        common_types_once = common.once;
        actions_once = actions.once;
        no_action_cycle = actions.no_cycle;
        no_common_cycle = common.no_cycle;
        no_action_types = λ name. definitions_sound extensions (action_entity_type name) tt;
        shapes = entities.records;
        contexts = actions.records;
        unreserved = λ name. definitions_sound extensions (reserved_name name) tt;
        external_above = entities.external_above;
        enumerated_alone = entities.enumerated_alone;
      })
