-- What the parts of a definition declare: common types, entity types and actions.
use Rattle.std.proofs.Common.{◌≡◌, List, [], ◌∷◌, ◌++◌, map, ap, ◌∙◌, refl}
use Rattle.std.proofs.lemmas.List.{append-nil}
use Rattle.cedar_fragments.proofs.DeclaredNames.{name_declared, uid_declared, each_read, none_read, three_read}
use Rattle.cedar_fragments.specs.Words.{ActionDef, ActionsDef, CommonTypeDef, CommonTypeDefs, Declaration, EntityTypeDef, EntityTypesDef, Reference, ReferenceType, action, action_fragment_body, action_fragment_declaration, action_fragment_declarations, action_in, common_in, common_type, common_type_declaration, common_type_declarations, declared_actions, declared_common, declared_entities, declared_name, declared_uid, entity_in, entity_type, entity_type_declaration, entity_type_declarations, fragment_body, name_of, type_expr, type_name, uid_of}

module _ (N : Type 0) (refer : ReferenceType → N → Reference) where
  -- common types declare each its full name and its definition
  pub common_declared : (defs : List (CommonTypeDef N))
      → declared_common (map (common_type_declaration N refer) defs) ≡ map (λ def. (name_of def.name, type_expr N refer def.ty)) defs
  common_declared defs =
      each_read (λ it. common_in (declared_name it) it.body) (common_type_declaration N refer)
      (λ def. (name_of def.name, type_expr N refer def.ty))
      (λ def. ap (λ name. (name, type_expr N refer def.ty) ∷ []) (name_declared (name_of def.name) (common_type (type_expr N refer def.ty)))) defs

  -- entity types declare each its full name and what is declared of it
  pub entities_declared : (defs : List (EntityTypeDef N))
      → declared_entities (map (entity_type_declaration N refer) defs) ≡ map (λ def. (type_name def.name, fragment_body N refer def.fragment)) defs
  entities_declared defs =
      each_read (λ it. entity_in (declared_name it) it.body) (entity_type_declaration N refer)
      (λ def. (type_name def.name, fragment_body N refer def.fragment))
      (λ def. ap (λ name. (name, fragment_body N refer def.fragment) ∷ [])
      (name_declared (type_name def.name) (entity_type (fragment_body N refer def.fragment)))) defs

module _ (N : Type 0) (refer : ReferenceType → N → Reference) (A : Type 0) (refer_action : ReferenceType → A → Reference) where
  -- actions declare each its uid and what is declared of it
  pub actions_declared : (defs : List (ActionDef N A))
      → declared_actions (map (action_fragment_declaration N refer A refer_action) defs)
      ≡ map (λ def. (uid_of def.uid, action_fragment_body N refer A refer_action def.fragment)) defs
  actions_declared defs =
      each_read (λ it. action_in (declared_uid it) it.body) (action_fragment_declaration N refer A refer_action)
      (λ def. (uid_of def.uid, action_fragment_body N refer A refer_action def.fragment))
      (λ def. ap (λ uid. (uid, action_fragment_body N refer A refer_action def.fragment) ∷ [])
      (uid_declared (uid_of def.uid) (action (action_fragment_body N refer A refer_action def.fragment)) def.is_action)) defs

  module _ (common : CommonTypeDefs N) (entities : EntityTypesDef N) (actions : ActionsDef N A) where
    -- the common types that the three parts of a definition declare are those of the first
    pub common_of_three : declared_common (common_type_declarations N refer common ++ entity_type_declarations N refer entities
        ++ action_fragment_declarations N refer A refer_action actions)
        ≡ declared_common (common_type_declarations N refer common)
    common_of_three =
        let read : Declaration → List _ = λ it. common_in (declared_name it) it.body in
        three_read read (common_type_declarations N refer common) (entity_type_declarations N refer entities)
        (action_fragment_declarations N refer A refer_action actions)
        ∙ ((λ i.
        declared_common (common_type_declarations N refer common)
        ++ none_read read (entity_type_declaration N refer) (λ def. refl) entities.defs.items i
        ++ none_read read (action_fragment_declaration N refer A refer_action) (λ def. refl) actions.defs.items i)
        ∙ (append-nil _ ∙ append-nil _))

    -- the entity types that they declare are those of the second
    pub entities_of_three : declared_entities (common_type_declarations N refer common ++ entity_type_declarations N refer entities
        ++ action_fragment_declarations N refer A refer_action actions)
        ≡ declared_entities (entity_type_declarations N refer entities)
    entities_of_three =
        let read : Declaration → List _ = λ it. entity_in (declared_name it) it.body in
        three_read read (common_type_declarations N refer common) (entity_type_declarations N refer entities)
        (action_fragment_declarations N refer A refer_action actions)
        ∙ ((λ i.
        none_read read (common_type_declaration N refer) (λ def. refl) common.defs.items i
        ++ declared_entities (entity_type_declarations N refer entities)
        ++ none_read read (action_fragment_declaration N refer A refer_action) (λ def. refl) actions.defs.items i)
        ∙ append-nil _)

    -- the actions that they declare are those of the third
    pub actions_of_three : declared_actions (common_type_declarations N refer common ++ entity_type_declarations N refer entities
        ++ action_fragment_declarations N refer A refer_action actions)
        ≡ declared_actions (action_fragment_declarations N refer A refer_action actions)
    actions_of_three =
        let read : Declaration → List _ = λ it. action_in (declared_uid it) it.body in
        three_read read (common_type_declarations N refer common) (entity_type_declarations N refer entities)
        (action_fragment_declarations N refer A refer_action actions)
        ∙ (λ i.
        none_read read (common_type_declaration N refer) (λ def. refl) common.defs.items i
        ++ none_read read (entity_type_declaration N refer) (λ def. refl) entities.defs.items i
        ++ declared_actions (action_fragment_declarations N refer A refer_action actions))
