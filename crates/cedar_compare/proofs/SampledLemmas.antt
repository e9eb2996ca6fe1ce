-- Types that are sampled, reported by their leaves.
use Rattle.std.proofs.Common.{◌≡◌, List, [], ◌++◌, Some, None, inl, inr, refl, subst, sym, ⊎_elim, Contains}
use Rattle.std.proofs.lemmas.List.Elements.{Contains-append_left, Contains-append_right}
use Rattle.std.specs.Option.{option_to_list}
use Rattle.cedar_ast.proofs.Lists.{Contains-cons}
use Rattle.cedar_compare.specs.Words.{ActionKind, AreInhabitedWith, EntityTypeKind, Exists, Extensions, Fields, FieldsHaveUids, IsContextIn, IsContextOf, IsLeafSampled, IsSampled, IsSchemaSampled, IsStandard, IsTypeOfKind, PlainName, PlainSchema, PlainUid, SchemaAction, SchemaEntityType, Tree, Ty, context_types, defined_action, end, entity_type_types, enumerated_kind, external_action, external_kind, field, field_types, kind_context, kind_fields, kind_openness, kind_tags, leaves, leaves_of_fields, record_of, schema_leaves, set_of, standard_kind, union_of}
use Rattle.cedar_schema_semantics.proofs.OccurrenceLemmas.{Contains-given}

module _ (extensions : Extensions) (samples : List Tree) (schema : PlainSchema) where
  -- a type is sampled in the schema
  abbrev Sampled : Ty → Type 0
  Sampled = IsSampled extensions samples schema

  -- the types of attributes are
  abbrev AreSampled : Fields → Type 0
  AreSampled fields = AreInhabitedWith extensions samples fields × FieldsHaveUids (Exists schema) fields

  mutual
    -- a type is sampled where its leaves are
    leaves_sampled : (ty : Ty) → ((leaf : Ty) → Contains (leaves ty) leaf → IsLeafSampled extensions samples schema leaf) → Sampled ty
    leaves_sampled (set_of ty) each =
        let element = leaves_sampled ty each in record { inhabited = element.inhabited; uids = element.uids }
    leaves_sampled (record_of fields openness) each =
        let all = fields_sampled fields each in record { inhabited = all.0; uids = all.1 }
    leaves_sampled (union_of names) each =
        let here = each (union_of names) (Contains-cons (union_of names) [] (union_of names) (inl refl)) in
        record { inhabited = here.0; uids = here.1 }
    leaves_sampled ty each = record { inhabited = (each ty (Contains-cons ty [] ty (inl refl))).0; uids = tt }

    -- and so are the types of attributes
    fields_sampled : (fields : Fields) → ((leaf : Ty) → Contains (leaves_of_fields fields) leaf → IsLeafSampled extensions samples schema leaf)
        → AreSampled fields
    fields_sampled end each = (tt, tt)
    fields_sampled (field name required ty rest) each =
        let first = leaves_sampled ty (λ leaf among. each leaf (Contains-append_left (leaves ty) (leaves_of_fields rest) leaf among)) in
        let others = fields_sampled rest (λ leaf among. each leaf (Contains-append_right (leaves ty) (leaves_of_fields rest) leaf among)) in
        ((first.inhabited, others.0), (first.uids, others.1))

  -- the types of attributes are sampled where each is
  types_sampled : (fields : Fields) → ((ty : Ty) → Contains (field_types fields) ty → Sampled ty) → AreSampled fields
  types_sampled end each = (tt, tt)
  types_sampled (field name required ty rest) each =
      let first = each ty (Contains-cons ty (field_types rest) ty (inl refl)) in
      let others = types_sampled rest (λ other among. each other (Contains-cons ty (field_types rest) other (inr among))) in
      ((first.inhabited, others.0), (first.uids, others.1))

  -- a type of a kind of entity type is sampled where those of its attributes and its tags are
  of_kind : (kind : EntityTypeKind) (ty : Ty) → IsTypeOfKind kind ty
      → ((part : Ty) → Contains (field_types (kind_fields kind) ++ option_to_list (kind_tags kind)) part → Sampled part) → Sampled ty
  of_kind (standard_kind fields openness tags) ty is each = ⊎_elim
      (λ attributes.
      (let all = types_sampled fields (λ part among. each part (Contains-append_left (field_types fields) (option_to_list tags) part among)) in
      let whole : Sampled (record_of fields openness) = record { inhabited = all.0; uids = all.1 } in
      subst Sampled (sym attributes) whole))
      (λ tag. each ty (Contains-append_right (field_types fields) (option_to_list tags) ty
      (subst (λ o. Contains (option_to_list o) ty) (sym tag) (Contains-cons ty [] ty (inl refl)))))
      is
  of_kind _ ty is each = absurd is

  -- the context of a kind of action is its context
  of_action : (kind : ActionKind) (ty : Ty) → IsContextOf kind ty → Contains (option_to_list (kind_context kind)) ty
  of_action (defined_action principals resources context) ty is =
      subst (λ c. Contains (option_to_list (Some c)) ty) (sym is) (Contains-cons ty [] ty (inl refl))
  of_action external_action ty is = absurd is

  -- the types in a schema are sampled where the leaves of all are
  pub schema_sampled : ((leaf : Ty) → Contains (schema_leaves schema.entity_types schema.actions) leaf
      → IsLeafSampled extensions samples schema leaf)
      → IsSchemaSampled extensions samples schema
  schema_sampled each ty is =
      let types = entity_type_types schema.entity_types in
      let contexts = context_types schema.actions in
      let of_types : (part : Ty) → Contains (types ++ contexts) part → Sampled part = λ part among.
      leaves_sampled part (λ leaf inside. each leaf (Contains-given leaves (types ++ contexts) part leaf among inside)) in
      let parts : PlainName × SchemaEntityType → List Ty = λ entry.
      field_types (kind_fields entry.1.kind) ++ option_to_list (kind_tags entry.1.kind) in
      ⊎_elim
      (λ (it, there, of). of_kind it.1.kind ty of
      (λ part among. of_types part (Contains-append_left types contexts part (Contains-given parts schema.entity_types it part there among))))
      (λ (it, there, of). of_types ty (Contains-append_right types contexts ty
      (Contains-given (λ (entry : PlainUid × SchemaAction). option_to_list (kind_context entry.1.kind)) schema.actions it ty there (of_action it.1.kind ty of))))
      is

  module _ (name : PlainName) (it : SchemaEntityType) (sampled : IsSchemaSampled extensions samples schema)
      (there : Contains schema.entity_types (name, it)) where
    -- the attributes of a standard entity type of a sampled schema are sampled
    pub attributes_sampled : IsStandard it.kind → Sampled (record_of (kind_fields it.kind) (kind_openness it.kind))
    attributes_sampled standard =
        sampled (record_of (kind_fields it.kind) (kind_openness it.kind)) (inl ((name, it), there, of_standard it.kind standard))
      where
        of_standard : (kind : EntityTypeKind) → IsStandard kind → IsTypeOfKind kind (record_of (kind_fields kind) (kind_openness kind))
        of_standard (standard_kind fields openness tags) standard = inl refl
        of_standard _ standard = absurd standard

    -- and so is the type of its tags
    pub tags_sampled : (ty : Ty) → kind_tags it.kind ≡ Some ty → Sampled ty
    tags_sampled ty is = sampled ty (inl ((name, it), there, of_tags it.kind is))
      where
        of_tags : (kind : EntityTypeKind) → kind_tags kind ≡ Some ty → IsTypeOfKind kind ty
        of_tags (standard_kind fields openness tags) is = inr is
        of_tags (enumerated_kind choices) is = let wrong : None ≡ Some ty = is in absurd cc
        of_tags external_kind is = let wrong : None ≡ Some ty = is in absurd cc

  -- the context of an action of a sampled schema is sampled
  pub context_sampled : (ty : Ty) → IsSchemaSampled extensions samples schema → IsContextIn schema ty → Sampled ty
  context_sampled ty sampled (uid, it, there, of) = sampled ty (inr ((uid, it), there, of))
