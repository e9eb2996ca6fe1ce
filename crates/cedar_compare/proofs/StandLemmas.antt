-- What may stand above entities, reported by the entity type of a name.
use Rattle.std.proofs.Common.{refl, subst, Contains}
use Rattle.cedar_compare.proofs.LostLemmas.{choices_of_id, id_of_choices}
use Rattle.cedar_compare.specs.Words.{EntityTypeKind, Extensions, IsEntityOfKind, IsEnumerated, IsKeyed, MayHave, MayStandAbove, PlainName, PlainSchema, PlainUid, SchemaEntityType, Text, bare_entity, enumerated_kind, kind_choices}

module _ (schema : PlainSchema) (name : PlainName) (upper : PlainUid) (ty : SchemaEntityType)
    (there : Contains schema.entity_types (upper.ty, ty)) where
  -- what may stand above a name has a type that lists it, and may have its id
  pub stands_listed : IsKeyed schema → MayStandAbove schema name upper → Contains ty.descendants name
  stands_listed keyed above =
      subst (λ (t : SchemaEntityType). Contains t.descendants name) (keyed.types upper.ty above.0 ty above.1 there) above.2

  pub stands_with : IsKeyed schema → MayStandAbove schema name upper → MayHave (kind_choices ty.kind) upper.eid
  stands_with keyed above =
      subst (λ (t : SchemaEntityType). MayHave (kind_choices t.kind) upper.eid) (keyed.types upper.ty above.0 ty above.1 there)
      (id_of_choices above.0.kind upper.eid above.3)

  -- and what has these may stand there
  pub may_stand : Contains ty.descendants name → MayHave (kind_choices ty.kind) upper.eid → MayStandAbove schema name upper
  may_stand below may = (ty, there, below, choices_of_id ty.kind upper.eid may)

-- the choices of an enumerated kind are entities of it
pub choice_of_kind : (extensions : Extensions) (schema : PlainSchema) (kind : EntityTypeKind) (name : PlainName) (id : Text)
    → IsEnumerated kind → MayHave (kind_choices kind) id → IsEntityOfKind extensions schema kind (bare_entity name id)
choice_of_kind extensions schema (enumerated_kind choices) name id enumerated may = (may, refl, refl, refl)
choice_of_kind extensions schema _ name id enumerated may = absurd enumerated
