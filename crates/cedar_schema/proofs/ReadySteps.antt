-- What each step is handed is what it asks for.
use Rattle.std.proofs.Common.{◌≡◌, List, map, ap, sym, subst, Contains}
use Rattle.cedar_ast.proofs.Lists.{Contains-preimage}
use Rattle.cedar_schema.proofs.KnownBags.{knows_all}
use Rattle.cedar_schema.specs.Words.{ActionBody, AreActionsOf, AreDeclaredEntityTypes, AreElaborated, AreTypesOf, Bag, CommonTypesAreSound, EntityBody, EntityType, Entries, Expr, Extensions, HoldsJust, IsNamedOver, IsReady, IsReserved, IsScopeOf, Names, PlainName, PlainUid, TypeScope, ValidatorEntityType, declared_actions, declared_common, declared_entities, defined_names, definitions, elaborated_types, extension_types, held_names, type_name}
use Rattle.cedar_schema_semantics.proofs.BuiltInLemmas.{one_definition}
use Rattle.cedar_schema_semantics.proofs.TogetherLemmas.{said_is_declared}

module _ (bag : Bag) (given : Extensions) (held : Names) (built_in : List (PlainName × Expr)) (over : IsNamedOver bag given held built_in)
    (common : List (PlainName × Expr)) (entity_types : List (PlainName × EntityBody)) (actions : List (PlainUid × ActionBody))
    (is_common : common ≡ declared_common bag) (is_entities : entity_types ≡ declared_entities bag)
    (is_actions : actions ≡ declared_actions bag)
    (unreserved : (name : PlainName) → Contains (definitions bag given).entities name → ¬ IsReserved name) where
  -- the common types can be elaborated
  pub types_of : AreTypesOf bag given common built_in held
  types_of = record {
    common = is_common;
    built_in = over.built_in;
    held = over.names;
    unreserved = unreserved;
    fit = over.fit;
  }

  module _ (known : TypeScope) (known_names : held_names known.defs.now ≡ held) (extensions_in_scope : known.extensions.now ≡ given)
      (written : AreElaborated bag given (elaborated_types known.common.now)) (sound : CommonTypesAreSound bag given) where
    -- the names in scope are those of the bag
    known_same : HoldsJust (held_names known.defs.now) (defined_names bag given)
    known_same =
        let P : Names → Type 0 = λ each. HoldsJust each (defined_names bag given) in
        subst P (sym known_names) over.names

    -- what is in scope is that of the bag
    known_of : IsScopeOf bag given known
    known_of = record {
      names = known_same;
      knows = λ expr counted. knows_all bag given known known_same written expr;
      extensions = ap extension_types extensions_in_scope;
      one_definition = one_definition bag given over.fit sound.once;
      unreserved = unreserved;
    }

    -- the entity types can be built
    pub ready : IsReady bag given entity_types known
    ready = record {
      entities = is_entities;
      known = known_of;
    }

    -- the actions can be built
    pub actions_of : (types : Entries EntityType ValidatorEntityType) → AreDeclaredEntityTypes bag given types.entries
        → AreActionsOf bag given actions types known
    actions_of types declared = record {
      actions = is_actions;
      entity_types = λ name. (
        λ among.
            let found = Contains-preimage (λ (it : EntityType × ValidatorEntityType). type_name it.0) types.entries name among in
            let it = declared.each found.0.0 found.0.1 found.1 in
            let P : PlainName → Type 0 = Contains (map (λ each. each.0) (declared_entities bag)) in
            subst P found.2 (said_is_declared bag (type_name found.0.0) it.body it.says),
        declared.complete name,
      );
      known = known_of;
    }
