-- What the bag of a schema that is converted back declares, entry by entry.
use Rattle.std.proofs.Common.{◌≡◌, ◌↔◌, false, Option, map, ap, sym, subst, ◌∙◌, refl, Contains, inl, inr}
use Rattle.cedar_ast.proofs.Basics.{Contains-image}
use Rattle.cedar_ast.proofs.Lists.{Contains-preimage}
use Rattle.cedar_schema_laws.proofs.NamesConvertedBack.{action_there, from_schema, type_there}
use Rattle.cedar_schema_laws.specs.Words.{ActionBody, AreFullUids, AreRequestsWritten, Bag, Declaration, EntityBody, Expr, HasAction, HasEntityType, IsActionDeclaration, IsConvertedBack, IsKindWritten, IsPathOf, IsTypeDeclaration, ListsDescendant, ListsDescendantAction, PlainName, PlainSchema, PlainUid, SchemaAction, SchemaEntityType, action, action_uids, declared_actions, declared_common, declared_entities, entity_type}
use Rattle.cedar_schema_semantics.proofs.DeclarationLemmas.{action_declaration, common_declaration, declares_action, declares_entity, entity_declaration}

-- what is declared of an entity type is that of the one, in the namespace of its name
pub record IsTypeWritten (schema : PlainSchema) (it : PlainName × SchemaEntityType) (body : EntityBody) : Type 0 where
  pub namespace : Option PlainName
  pub path : IsPathOf namespace it.0.path
  pub kind : IsKindWritten namespace (λ upper. ListsDescendant schema it.0 upper) it.1.kind body

-- what is declared of an action is that of the one, in the namespace of its type
pub record IsActionWritten (schema : PlainSchema) (it : PlainUid × SchemaAction) (body : ActionBody) : Type 0 where
  pub namespace : Option PlainName
  pub path : IsPathOf namespace it.0.ty.path
  pub attributes : body.has_attributes ≡ false
  pub parents : AreFullUids namespace (λ upper. ListsDescendantAction schema it.0 upper) body.parents
  pub applies_to : AreRequestsWritten namespace it.1.kind body.applies_to

module _ (schema : PlainSchema) where
  -- the declaration of an entity type declares that of it
  pub type_written_by : (it : PlainName × SchemaEntityType) (d : Declaration) (declared : IsTypeDeclaration schema it d)
      → IsTypeWritten schema it declared.body
  type_written_by it d declared = record {
    namespace = d.namespace;
    path = ap (λ (name : PlainName). name.path) declared.name;
    kind = declared.kind;
  }

  -- the declaration of an action declares that of it
  pub action_written_by : (it : PlainUid × SchemaAction) (d : Declaration) (declared : IsActionDeclaration schema it d)
      → IsActionWritten schema it (record { has_attributes = false; parents = declared.parents; applies_to = declared.applies_to })
  action_written_by it d declared = record {
    namespace = d.namespace;
    path = ap (λ (uid : PlainUid). uid.ty.path) declared.uid;
    attributes = refl;
    parents = declared.above;
    applies_to = declared.kind;
  }

  -- a declaration of an entity type is of no action
  pub types_are_no_actions : (body : EntityBody) (other : ActionBody) → ¬ (entity_type body ≡ action other)
  types_are_no_actions body other same = cc

module _ (schema : PlainSchema) (bag : Bag) (written : IsConvertedBack schema bag) where
  -- an entity type of the schema is declared
  pub type_declared : (it : PlainName × SchemaEntityType) → Contains schema.entity_types it
      → (body : EntityBody) × Contains (declared_entities bag) (it.0, body) × IsTypeWritten schema it body
  type_declared it among =
      let d = type_there schema bag written it among in
      (d.2.body, rw d.2.name at (declares_entity bag d.0 d.2.body d.1 d.2.declares), type_written_by schema it d.0 d.2)

  -- an action of the schema is declared
  pub action_declared : (it : PlainUid × SchemaAction) → Contains schema.actions it
      → (body : ActionBody) × Contains (declared_actions bag) (it.0, body) × IsActionWritten schema it body
  action_declared it among =
      let d = action_there schema bag written it among in
      let body : ActionBody = record { has_attributes = false; parents = d.2.parents; applies_to = d.2.applies_to } in
      (body, rw d.2.uid at (declares_action bag d.0 body d.1 d.2.declares), action_written_by schema it d.0 d.2)

  -- an entity type that is declared is one of the schema
  pub declared_type_from : (name : PlainName) (body : EntityBody) → Contains (declared_entities bag) (name, body)
      → (it : SchemaEntityType) × Contains schema.entity_types (name, it) × IsTypeWritten schema (name, it) body
  declared_type_from name body among =
      let d = entity_declaration bag name body among in
      elim (from_schema schema bag written d.0 d.1) [
        | inl from ↦
            let same : entity_type from.2.body ≡ entity_type body = sym from.2.declares ∙ d.2 in
            let same_body : from.2.body ≡ body = cc in
            let key : from.0.0 ≡ name = sym from.2.name ∙ d.3 in
            let Written : PlainName → Type 0 = λ each. Contains schema.entity_types (each, from.0.1) × IsTypeWritten schema (each, from.0.1) body in
            let both = subst Written key (from.1, rw same_body at (type_written_by schema from.0 d.0 from.2)) in
            (from.0.1, both.0, both.1)
        | inr from ↦ absurd (types_are_no_actions schema body _ (sym d.2 ∙ from.2.declares))
      ]

  -- an action that is declared is one of the schema
  pub declared_action_from : (uid : PlainUid) (body : ActionBody) → Contains (declared_actions bag) (uid, body)
      → (it : SchemaAction) × Contains schema.actions (uid, it) × IsActionWritten schema (uid, it) body
  declared_action_from uid body among =
      let d = action_declaration bag uid body among in
      elim (from_schema schema bag written d.0 d.1) [
        | inl from ↦ absurd (types_are_no_actions schema _ body (sym from.2.declares ∙ d.2))
        | inr from ↦
            let made : ActionBody = record { has_attributes = false; parents = from.2.parents; applies_to = from.2.applies_to } in
            let same : action made ≡ action body = sym from.2.declares ∙ d.2 in
            let same_body : made ≡ body = cc in
            let key : from.0.0 ≡ uid = sym from.2.uid ∙ d.3 in
            let Written : PlainUid → Type 0 = λ each. Contains schema.actions (each, from.0.1) × IsActionWritten schema (each, from.0.1) body in
            let both = subst Written key (from.1, rw same_body at (action_written_by schema from.0 d.0 from.2)) in
            (from.0.1, both.0, both.1)
      ]

  -- no common type is declared
  pub no_common_type : (it : PlainName × Expr) → ¬ Contains (declared_common bag) it
  no_common_type it among =
      let d = common_declaration bag it.0 it.1 among in
      elim (from_schema schema bag written d.0 d.1) [
        | inl from ↦ let clash = sym d.2 ∙ from.2.declares in absurd cc
        | inr from ↦ let clash = sym d.2 ∙ from.2.declares in absurd cc
      ]

  -- the names of the declared entity types are those of the schema
  pub same_types : (name : PlainName) → Contains (map (λ it. it.0) (declared_entities bag)) name ↔ HasEntityType schema name
  same_types name = (
    λ among.
        let it = Contains-preimage (λ (each : PlainName × EntityBody). each.0) (declared_entities bag) name among in
        let from = declared_type_from it.0.0 it.0.1 it.1 in
        rw it.2 at (Contains-image (λ (each : PlainName × SchemaEntityType). each.0) schema.entity_types (it.0.0, from.0) from.1),
    λ has.
        let it = Contains-preimage (λ (each : PlainName × SchemaEntityType). each.0) schema.entity_types name has in
        let found = type_declared it.0 it.1 in
        rw it.2 at (Contains-image (λ (each : PlainName × EntityBody). each.0) (declared_entities bag) (it.0.0, found.0) found.1),
  )

  -- the uids of the declared actions are those of the schema
  pub same_uids : (uid : PlainUid) → Contains (action_uids bag) uid ↔ HasAction schema uid
  same_uids uid = (
    λ among.
        let it = Contains-preimage (λ (each : PlainUid × ActionBody). each.0) (declared_actions bag) uid among in
        let from = declared_action_from it.0.0 it.0.1 it.1 in
        rw it.2 at (Contains-image (λ (each : PlainUid × SchemaAction). each.0) schema.actions (it.0.0, from.0) from.1),
    λ has.
        let it = Contains-preimage (λ (each : PlainUid × SchemaAction). each.0) schema.actions uid has in
        let found = action_declared it.0 it.1 in
        rw it.2 at (Contains-image (λ (each : PlainUid × ActionBody). each.0) (declared_actions bag) (it.0.0, found.0) found.1),
  )
