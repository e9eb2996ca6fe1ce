-- Where each of two bags says all that the other does, they are ill-formed both or neither.
use Rattle.std.proofs.Common.{◌≡◌, List, ◌++◌, Option, map, ap, sym, ◌∙◌, refl, inl, inr, Contains}
use Rattle.std.proofs.lemmas.List.{map-append}
use Rattle.cedar_ast.proofs.Basics.{Contains-image}
use Rattle.cedar_ast.proofs.Chains.{refined}
use Rattle.cedar_ast.proofs.Lists.{Contains-preimage}
use Rattle.cedar_schema_laws.proofs.EnumeratedLemmas.{enumerated_parent}
use Rattle.cedar_schema_laws.proofs.SaidLemmas.{common_name_said, type_said, action_type_said, same_defined}
use Rattle.cedar_schema_laws.specs.Words.{ActionBody, ActionReference, Bag, Body, CountsIn, CountsInEntity, CountsInRequests, EntityBody, Expr, Extensions, Fault, HasParent, HasParentAction, HasToResolve, HasUnknownParent, IsAtEntityTypePosition, IsCounted, IsDescendant, IsDescendantAction, IsEntityTypePosition, IsExternalType, IsFault, IsIllFormed, IsPrincipalOrResource, NamesAction, PlainName, PlainUid, Reference, RefersToCommon, Requests, ResolvesTo, SameEntityBody, SameRequests, SaysAll, Text, Twice, action, action_attributes, action_cycle, action_entity_type, action_not_defined, action_shadowing, action_uids, built_ins, common_type, common_type_cycle, context_not_record, declared_actions, declared_common, declared_entities, declared_name, declared_uid, defined_actions, defined_entities, defined_names, definitions, duplicate_action, duplicate_common_type, duplicate_entity_type, elsewhere, entity_type, enumerated, enumerated_below, external, external_below_enumerated, one, open_record, requests, reserved_name, shape_not_record, standard, type_not_defined, type_shadowing, undeclared_entity_types, unknown_extension_type}
use Rattle.cedar_schema_semantics.proofs.DeclarationLemmas.{entity_declaration, action_declaration, common_declaration, declares_entity, declares_action, declares_common}
use Rattle.cedar_schema_semantics.proofs.DefinedLemmas.{resolves_there, unresolved_there, no_record_there}
use Rattle.cedar_schema_semantics.proofs.OccurrenceLemmas.{Twice-append, Twice-left, Twice-right, Twice-both, Contains-entry}
use Rattle.cedar_schema_semantics.proofs.ResolutionLemmas.{IsFirst-like}
use Rattle.cedar_schema_semantics.proofs.TogetherLemmas.{IsDefinition, AreRequests, entity_counted, requests_counted, request_placed, definition_declared, declared_definition, action_definition_declared, declared_action_definition}

-- what counts in what is declared of an entity type counts in the same
entity_counts : (body other : EntityBody) (expr : Expr) → SameEntityBody body other → CountsInEntity body expr → CountsInEntity other expr
entity_counts (standard ps shape tags) (standard ps' shape' tags') expr same counts =
    elim counts [ inl is ↦ inl (sym same.0 ∙ is) | inr is ↦ inr (sym same.1 ∙ is) ]
entity_counts _ _ _ same counts = absurd assumption

-- what counts in the requests of an action counts in the same
requests_count : (body other : Requests) (expr : Expr) → SameRequests body other → CountsInRequests body expr → CountsInRequests other expr
requests_count (requests ps rs context) (requests ps' rs' context') expr same counts = sym same.2 ∙ counts
requests_count _ _ _ same counts = absurd assumption

-- a principal or a resource of requests is one of the same
request_there : (body other : Requests) (reference : Reference) → SameRequests body other
    → IsPrincipalOrResource body reference → IsPrincipalOrResource other reference
request_there (requests ps rs context) (requests ps' rs' context') reference same place =
    elim place [ inl principal ↦ inl ((same.0 reference).0 principal) | inr resource ↦ inr ((same.1 reference).0 resource) ]
request_there _ _ _ same place = absurd assumption

-- what is the same as a definition is one
same_enumerated : (choices : List Text) (body : EntityBody) → SameEntityBody (enumerated choices) body → body ≡ enumerated choices
same_enumerated choices (enumerated others) same = ap enumerated (sym same)
same_enumerated choices _ same = absurd same

module _ (bag other : Bag) (said : SaysAll bag other) where
  -- a definition of an entity type in the one is declared in the other
  definition_said : (name : PlainName) (body : EntityBody) → IsDefinition body → Contains (declared_entities bag) (name, body)
      → (found : EntityBody) × Contains (declared_entities other) (name, found) × SameEntityBody body found
  definition_said name body is among =
      let found = said.entity_definitions name body (declared_definition bag name body is among) in
      (found.0, (definition_declared other name found.0 found.1).0, found.2)

  -- a definition of an action in the one is declared in the other
  action_definition_said : (uid : PlainUid) (body : ActionBody) → AreRequests body.applies_to
      → Contains (declared_actions bag) (uid, body) → (found : ActionBody) × Contains (declared_actions other) (uid, found)
      × SameRequests body.applies_to found.applies_to
  action_definition_said uid body are among =
      let same = said.action_definitions uid body.applies_to (declared_action_definition bag uid body body.applies_to among refl are) in
      let found = action_definition_declared other uid same.0 same.1 in
      (found.0, found.1, rw found.2 same.2)

  -- what counts in the one counts in the other
  counted_said : (expr : Expr) → IsCounted bag expr → IsCounted other expr
  counted_said expr (it, among, counts) = by it.body refl counts where
    by : (body : Body) → it.body ≡ body → CountsIn body expr → IsCounted other expr
    by (common_type definition) is same =
        let there = said.common (declared_name it, definition) (declares_common bag it definition among is) in
        let found = common_declaration other (declared_name it) definition there in
        (found.0, found.1, rw found.2 same)
    by (entity_type body) is counts =
        let there = definition_said (declared_name it) body (entity_counted body expr counts) (declares_entity bag it body among is) in
        let found = entity_declaration other (declared_name it) there.0 there.1 in
        (found.0, found.1, rw found.2 (entity_counts body there.0 expr there.2 counts))
    by (action body) is counts =
        let there = action_definition_said (declared_uid it) body (requests_counted body.applies_to expr counts)
        (declares_action bag it body among is) in
        let found = action_declaration other (declared_uid it) there.0 there.1 in
        (found.0, found.1, rw found.2 (requests_count body.applies_to there.0.applies_to expr there.2 counts))

  -- a place of an entity type in the one is one in the other
  pub placed_said : (reference : Reference) → IsAtEntityTypePosition bag reference → IsAtEntityTypePosition other reference
  placed_said reference (it, among, place) = by it.body refl place where
    by : (body : Body) → it.body ≡ body → IsEntityTypePosition body reference → IsAtEntityTypePosition other reference
    by (common_type definition) is place = absurd place
    by (entity_type body) is place =
        let there = said.parents (declared_name it) reference (body, declares_entity bag it body among is, place) in
        let found = entity_declaration other (declared_name it) there.0 there.1 in
        (found.0, found.1, rw found.2 there.2)
    by (action body) is place =
        let there = action_definition_said (declared_uid it) body (request_placed body.applies_to reference place)
        (declares_action bag it body among is) in
        let found = action_declaration other (declared_uid it) there.0 there.1 in
        (found.0, found.1, rw found.2 (request_there body.applies_to there.0.applies_to reference there.2 place))

  -- what has to resolve in the one has to in the other
  has_to_said : (reference : Reference) → HasToResolve bag reference → HasToResolve other reference
  has_to_said reference has =
      elim has [
        | inl counts ↦ inl (counts.0, counted_said counts.0 counts.1, counts.2)
        | inr placed ↦ inr (placed_said reference placed)
      ]

  -- a common type that is declared twice in the one, built-in types included, is so in the other
  common_twice_said : (extensions : Extensions) (name : PlainName)
      → Twice (map (λ it. it.0) (declared_common bag ++ built_ins extensions)) name
      → Twice (map (λ it. it.0) (declared_common other ++ built_ins extensions)) name
  common_twice_said extensions name twice =
      let key = λ (each : PlainName × Expr). each.0 in
      let ours = map key (declared_common bag) in
      let theirs = map key (declared_common other) in
      let built_in = map key (built_ins extensions) in
      rw (map-append key (declared_common other) (built_ins extensions)) (elim (Twice-append ours built_in name (rw (map-append key (declared_common bag) (built_ins extensions)) at twice)) [
        | inl left ↦ Twice-left theirs built_in name (said.common_twice name left)
        | inr rest ↦
            elim rest [
              | inl right ↦ Twice-right theirs built_in name right
              | inr both ↦ Twice-both theirs built_in name (common_name_said bag other said name both.0) both.1
            ]
      ])

module _ (bag other : Bag) (extensions : Extensions) (said : SaysAll bag other) (back : SaysAll other bag) where
  -- what a reference resolves to in the one it resolves to in the other
  pub resolves_said : (reference : Reference) (name : PlainName) → ResolvesTo (defined_names bag extensions) reference name
      → ResolvesTo (defined_names other extensions) reference name
  resolves_said = resolves_there (definitions bag extensions) (definitions other extensions) (same_defined bag other extensions said back)

  -- a reference to an action names the same
  names_action_said : (reference : ActionReference) (uid : PlainUid) → NamesAction (action_uids bag) reference uid
      → NamesAction (action_uids other) reference uid
  names_action_said reference uid names = (
    IsFirst-like (λ ty. Contains (action_uids bag) (record { ty = ty; eid = reference.id }))
        (λ ty. Contains (action_uids other) (record { ty = ty; eid = reference.id }))
        (λ ty among. said.actions _ among) (λ ty among. back.actions _ among) reference.ty.possibilities uid.ty names.0,
    names.1,
  )

  -- a parent in the one is one in the other
  has_parent_said : (lower upper : PlainName) → HasParent bag extensions lower upper → HasParent other extensions lower upper
  has_parent_said lower upper (reference, parent, resolves) =
      (reference, said.parents lower reference parent, resolves_said reference upper resolves)

  -- the same of actions
  has_parent_action_said : (lower upper : PlainUid) → HasParentAction bag lower upper → HasParentAction other lower upper
  has_parent_action_said lower upper (reference, parent, names) =
      (reference, said.action_parents lower reference parent, names_action_said reference upper names)

  -- a descendant in the one is one in the other
  pub descendant_said : (lower upper : PlainName) → IsDescendant bag extensions lower upper → IsDescendant other extensions lower upper
  descendant_said lower upper = refined (λ a b step. one (has_parent_said a b step))

  -- the same of actions
  pub descendant_action_said : (lower upper : PlainUid) → IsDescendantAction bag lower upper → IsDescendantAction other lower upper
  descendant_action_said lower upper = refined (λ a b step. one (has_parent_action_said a b step))

  -- a common type of the one refers to another as in the other
  refers_said : (name to : PlainName) → RefersToCommon (definitions bag extensions) name to
      → RefersToCommon (definitions other extensions) name to
  refers_said name to (definition, reference, body, among, refers, resolves, is_common) =
      let same = same_defined bag other extensions said back in (
        definition,
        reference,
        body,
        same.common (name, definition) among,
        refers,
        resolves_said reference to resolves,
        (is_common.0, same.common (to, body) is_common.1),
      )

  -- an unknown parent of an action is one
  unknown_parent_said : (carried : Text × Option Reference) → HasUnknownParent bag carried → HasUnknownParent other carried
  unknown_parent_said carried (uid, parent, stands, is, nothing) = (
    uid,
    parent,
    said.action_parents uid parent stands,
    is,
    λ ty possible there. nothing ty possible (back.actions _ there),
  )

  -- an external entity type of the one is one of the other
  pub external_said : (name : PlainName) → IsExternalType bag name → IsExternalType other name
  external_said name is_external = (
    said.entities name is_external.0,
    λ defined.
        (let key = λ (each : PlainName × EntityBody). each.0 in
        let it = Contains-preimage key (defined_entities other) name defined in
        let found = back.entity_definitions it.0.0 it.0.1 it.1 in
        is_external.1 (rw it.2 at (Contains-image key (defined_entities bag) (it.0.0, found.0) found.1))),
  )

  -- an enumerated entity type of the one is one of the other
  enumerated_said : (name : PlainName) (choices : List Text) → Contains (declared_entities bag) (name, enumerated choices)
      → Contains (declared_entities other) (name, enumerated choices)
  enumerated_said name choices among =
      let found = definition_said bag other said name (enumerated choices) tt among in
      rw (same_enumerated choices found.0 found.2) at found.1

  -- the standard entity type whose shape is at fault in the one has it in the other
  shape_said : (name : PlainName) (parents : List Reference) (shape : Expr) (tags : Option Expr)
      → Contains (declared_entities bag) (name, standard parents shape tags) → (found : List Reference)
      × (found_tags : Option Expr) × Contains (declared_entities other) (name, standard found shape found_tags)
  shape_said name parents shape tags among =
      let found = definition_said bag other said name (standard parents shape tags) tt among in by found.0 found.1 found.2 where
        by : (body : EntityBody) → Contains (declared_entities other) (name, body)
            → SameEntityBody (standard parents shape tags) body → (found : List Reference) × (found_tags : Option Expr)
            × Contains (declared_entities other) (name, standard found shape found_tags)
        by (standard ps shape' tags') among same = (ps, tags', rw same.0 among)
        by _ _ same = absurd same

  -- the requests whose context is at fault in the one are those of the other
  context_said : (uid : PlainUid) (principals resources : List Reference) (context : Expr)
      → Contains (defined_actions bag) (uid, requests principals resources context) → (ps : List Reference)
      × (rs : List Reference) × Contains (defined_actions other) (uid, requests ps rs context)
  context_said uid principals resources context among =
      let found = said.action_definitions uid (requests principals resources context) among in by found.0 found.1 found.2 where
        by : (it : Requests) → Contains (defined_actions other) (uid, it) → SameRequests (requests principals resources context) it
            → (ps : List Reference) × (rs : List Reference) × Contains (defined_actions other) (uid, requests ps rs context)
        by (requests ps rs context') among same = (ps, rs, rw same.2 among)
        by elsewhere among same = absurd same

  -- where the one has a fault the other is ill-formed
  pub fault_said : (fault : Fault) → IsFault bag extensions fault → IsIllFormed other extensions
  fault_said (action_attributes ids) at_fault = (
    action_attributes ids,
    (at_fault.0, at_fault.1, at_fault.2, λ id among. said.attributes at_fault.2 id (at_fault.3 id among)),
  )
  fault_said open_record at_fault = (open_record, (at_fault.0, counted_said bag other said at_fault.0 at_fault.1, at_fault.2))
  fault_said (undeclared_entity_types names) at_fault = (
    undeclared_entity_types names,
    (
      at_fault.0,
      λ name among.
          (let found = at_fault.1 name among in
          (found.0, found.1, placed_said bag other said found.1 found.2, resolves_said found.1 name found.3)),
    ),
  )
  fault_said (type_not_defined references) at_fault = (
    type_not_defined references,
    (
      at_fault.0,
      λ reference among.
          (let found = at_fault.1 reference among in (
            has_to_said bag other said reference found.0,
            unresolved_there (definitions bag extensions) (definitions other extensions)
                (same_defined bag other extensions said back) reference found.1,
          )),
    ),
  )
  fault_said (action_not_defined actions) at_fault = (
    action_not_defined actions,
    (at_fault.0, λ carried among. unknown_parent_said carried (at_fault.1 carried among)),
  )
  fault_said (type_shadowing name qualified) at_fault = (
    type_shadowing name qualified,
    (type_said bag other said name at_fault.0, type_said bag other said qualified at_fault.1, at_fault.2),
  )
  fault_said (action_shadowing uid qualified) at_fault = (
    action_shadowing uid qualified,
    (said.actions uid at_fault.0, said.actions qualified at_fault.1, at_fault.2),
  )
  fault_said (duplicate_entity_type name) at_fault = (duplicate_entity_type name, said.entities_twice name at_fault)
  fault_said (duplicate_common_type name) at_fault = (duplicate_common_type name, common_twice_said bag other said extensions name at_fault)
  fault_said (duplicate_action uid) at_fault = (duplicate_action uid, said.actions_twice uid at_fault)
  fault_said (action_cycle uid) at_fault = (action_cycle uid, descendant_action_said uid uid at_fault)
  fault_said (common_type_cycle name) at_fault = (
    common_type_cycle name,
    refined (λ a b step. one (refers_said a b step)) at_fault,
  )
  fault_said (action_entity_type name) at_fault =
      let key = λ (each : PlainName × EntityBody). each.0 in
      let there = said.entities name (Contains-image key (declared_entities bag) (name, at_fault.0) at_fault.1) in
      let found = Contains-entry (declared_entities other) name there in
      (action_entity_type name, (found.0, found.1, at_fault.2))
  fault_said (shape_not_record name) at_fault =
      let found = shape_said name at_fault.0 at_fault.1 at_fault.2 at_fault.3 in (
        shape_not_record name,
        (
          found.0,
          at_fault.1,
          found.1,
          found.2,
          no_record_there (definitions bag extensions) (definitions other extensions)
              (same_defined bag other extensions said back) at_fault.1 at_fault.4,
        ),
      )
  fault_said (context_not_record uid) at_fault =
      let found = context_said uid at_fault.0 at_fault.1 at_fault.2 at_fault.3 in (
        context_not_record uid,
        (
          found.0,
          found.1,
          at_fault.2,
          found.2,
          no_record_there (definitions bag extensions) (definitions other extensions)
              (same_defined bag other extensions said back) at_fault.2 at_fault.4,
        ),
      )
  fault_said (unknown_extension_type name) at_fault = (
    unknown_extension_type name,
    (at_fault.0, counted_said bag other said at_fault.0 at_fault.1, at_fault.2, at_fault.3, at_fault.4),
  )
  fault_said (reserved_name name) at_fault = (
    reserved_name name,
    (
      elim at_fault.0 [
        | inl is_entity ↦ inl (said.entities name is_entity)
        | inr of_action ↦ inr (action_type_said bag other said name of_action)
      ],
      at_fault.1,
    ),
  )
  fault_said (external_below_enumerated lower upper) at_fault = (
    external_below_enumerated lower upper,
    (
      at_fault.0,
      external_said lower at_fault.1,
      enumerated_said upper at_fault.0 at_fault.2,
      descendant_said lower upper at_fault.3,
    ),
  )
  fault_said (enumerated_below lower upper) at_fault =
      enumerated_parent other extensions lower upper at_fault.0 (enumerated_said lower at_fault.0 at_fault.3) (
        at_fault.2,
        said.parents lower at_fault.2 (external at_fault.1, at_fault.4, at_fault.5),
        resolves_said at_fault.2 upper at_fault.6,
      )
  fault_said _ at_fault = absurd at_fault
