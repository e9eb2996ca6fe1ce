-- Where a bag is sure to have none of the faults, kind by kind, it isn't ill-formed.
use Rattle.std.proofs.Common.{◌≡◌, List, sym, subst, refl, Contains}
use Rattle.cedar_schema_laws.proofs.MentionLemmas.{HasKnownExtensions}
use Rattle.cedar_schema_laws.proofs.ResolutionLaws.{resolved, named, some_first}
use Rattle.cedar_schema_laws.specs.Words.{ActionBody, ActionReference, Bag, Body, CountsIn, CountsInEntity, CountsInRequests, EntityBody, Expr, Extensions, Fault, HasOpenRecord, HasToResolve, IsActionParent, IsActionType, IsAtEntityTypePosition, IsCounted, IsEntityTypePosition, IsFault, IsIllFormed, IsParent, IsPrincipalOrResource, NamesAction, PlainName, PlainUid, Reference, ResolvesTo, Text, action, action_attributes, action_cycle, action_entity_type, action_not_defined, action_shadowing, action_uids, common_type, common_type_cycle, context_not_record, declared_actions, declared_common, declared_entities, declared_name, declared_uid, defined_names, duplicate_action, duplicate_common_type, duplicate_entity_type, entity_type, enumerated_below, extension_types, external_below_enumerated, open_record, reserved_name, shape_not_record, type_not_defined, type_shadowing, undeclared_entity_types, unknown_extension_type}
use Rattle.cedar_schema_semantics.proofs.DeclarationLemmas.{declares_common, declares_entity, declares_action}

module _ (bag : Bag) where
  -- what holds of each definition of a common type, of each expression that counts in what is
  -- declared of an entity type, and of each context, holds of each expression that counts
  pub of_counted : (P : Expr → Type 0) → ((it : PlainName × Expr) → Contains (declared_common bag) it → P it.1)
      → ((name : PlainName) (body : EntityBody) (expr : Expr) → Contains (declared_entities bag) (name, body)
      → CountsInEntity body expr → P expr)
      → ((uid : PlainUid) (body : ActionBody) (expr : Expr) → Contains (declared_actions bag) (uid, body)
      → CountsInRequests body.applies_to expr → P expr) → (expr : Expr) → IsCounted bag expr → P expr
  of_counted P common entities actions expr (it, among, counts) = by it.body refl counts where
    by : (body : Body) → it.body ≡ body → CountsIn body expr → P expr
    by (common_type definition) is here =
        rw here at (common (declared_name it, definition) (declares_common bag it definition among is))
    by (entity_type body) is here = entities (declared_name it) body expr (declares_entity bag it body among is) here
    by (action body) is here = actions (declared_uid it) body expr (declares_action bag it body among is) here

  -- what holds of each parent of an entity type, and of each principal and resource, holds of each
  -- reference that is placed
  pub of_placed : (P : Reference → Type 0)
      → ((name : PlainName) (reference : Reference) → IsParent bag name reference → P reference)
      → ((uid : PlainUid) (body : ActionBody) (reference : Reference) → Contains (declared_actions bag) (uid, body)
      → IsPrincipalOrResource body.applies_to reference → P reference)
      → (reference : Reference) → IsAtEntityTypePosition bag reference → P reference
  of_placed P parents requests reference (it, among, place) = by it.body refl place where
    by : (body : Body) → it.body ≡ body → IsEntityTypePosition body reference → P reference
    by (common_type definition) is here = absurd here
    by (entity_type body) is here = parents (declared_name it) reference (body, declares_entity bag it body among is, here)
    by (action body) is here = requests (declared_uid it) body reference (declares_action bag it body among is) here

-- of each kind of fault it is sure that it isn't one of the bag
pub record IsSure (bag : Bag) (extensions : Extensions) : Type 0 where
  pub attributes : (ids : List Text) → ¬ IsFault bag extensions (action_attributes ids)
  pub closed : (expr : Expr) → IsCounted bag expr → ¬ HasOpenRecord expr
  pub known : (expr : Expr) → IsCounted bag expr → HasKnownExtensions extensions expr
  pub places : (reference : Reference) (name : PlainName) → IsAtEntityTypePosition bag reference
      → ResolvesTo (defined_names bag extensions) reference name → ¬ IsActionType name
  pub resolves : (reference : Reference) → HasToResolve bag reference
      → (name : PlainName) × ResolvesTo (defined_names bag extensions) reference name
  pub names : (uid : PlainUid) (parent : ActionReference) → IsActionParent bag uid parent
      → (upper : PlainUid) × NamesAction (action_uids bag) parent upper
  pub types_shadow : (plain qualified : PlainName) → ¬ IsFault bag extensions (type_shadowing plain qualified)
  pub actions_shadow : (plain qualified : PlainUid) → ¬ IsFault bag extensions (action_shadowing plain qualified)
  pub entity_types_once : (name : PlainName) → ¬ IsFault bag extensions (duplicate_entity_type name)
  pub common_types_once : (name : PlainName) → ¬ IsFault bag extensions (duplicate_common_type name)
  pub actions_once : (uid : PlainUid) → ¬ IsFault bag extensions (duplicate_action uid)
  pub no_action_cycle : (uid : PlainUid) → ¬ IsFault bag extensions (action_cycle uid)
  pub no_common_cycle : (name : PlainName) → ¬ IsFault bag extensions (common_type_cycle name)
  pub no_action_types : (name : PlainName) → ¬ IsFault bag extensions (action_entity_type name)
  pub shapes : (name : PlainName) → ¬ IsFault bag extensions (shape_not_record name)
  pub contexts : (uid : PlainUid) → ¬ IsFault bag extensions (context_not_record uid)
  pub unreserved : (name : PlainName) → ¬ IsFault bag extensions (reserved_name name)
  pub external_above : (lower upper : PlainName) → ¬ IsFault bag extensions (external_below_enumerated lower upper)
  pub enumerated_alone : (lower upper : PlainName) → ¬ IsFault bag extensions (enumerated_below lower upper)

-- a bag of which that is sure isn't ill-formed
pub sure_is_well : (bag : Bag) (extensions : Extensions) → IsSure bag extensions → ¬ IsIllFormed bag extensions
sure_is_well bag extensions sure (fault, at_fault) = none fault at_fault where
  none : (fault : Fault) → ¬ IsFault bag extensions fault
  none (action_attributes ids) there = sure.attributes ids there
  none open_record (expr, counted, is_open) = sure.closed expr counted is_open
  none (undeclared_entity_types names) there =
      let found = some_first names there.0 in
      let each = there.1 found.0 found.1 in
      sure.places each.1 found.0 each.2 each.3 each.0
  none (type_not_defined references) there =
      let found = some_first references there.0 in
      let each = there.1 found.0 found.1 in
      resolved (defined_names bag extensions) found.0 (sure.resolves found.0 each.0) each.1
  none (action_not_defined actions) there =
      let found = some_first actions there.0 in
      let each = there.1 found.0 found.1 in
      named (action_uids bag) each.1 (sure.names each.0 each.1 each.2) each.4
  none (type_shadowing plain qualified) there = sure.types_shadow plain qualified there
  none (action_shadowing plain qualified) there = sure.actions_shadow plain qualified there
  none (duplicate_entity_type name) there = sure.entity_types_once name there
  none (duplicate_common_type name) there = sure.common_types_once name there
  none (duplicate_action uid) there = sure.actions_once uid there
  none (action_cycle uid) there = sure.no_action_cycle uid there
  none (common_type_cycle name) there = sure.no_common_cycle name there
  none (action_entity_type name) there = sure.no_action_types name there
  none (shape_not_record name) there = sure.shapes name there
  none (context_not_record uid) there = sure.contexts uid there
  none (unknown_extension_type name) (expr, counted, mentions, unqualified, unknown) =
      unknown (subst (Contains (extension_types extensions)) (λ i. record { base = name.base; path = sym unqualified i }) (sure.known expr counted name.base mentions))
  none (reserved_name name) there = sure.unreserved name there
  none (external_below_enumerated lower upper) there = sure.external_above lower upper there
  none (enumerated_below lower upper) there = sure.enumerated_alone lower upper there
  none _ there = absurd there
