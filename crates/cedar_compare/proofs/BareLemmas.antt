-- Entities without attributes, tags and ancestors, and enumerated entity types.
use Rattle.std.proofs.Common.{◌≡◌, List, refl, subst, sym, Contains}
use Rattle.cedar_compare.specs.Words.{ActionEntity, AreAncestorsIn, EntityTypeKind, Extensions, IsAlike, IsEntityOfKind, IsEntityOfType, IsEnumerated, IsKeyed, MayStandOver, PlainSchema, PlainUid, SchemaEntityType, enumerated_kind, external_kind, standard_kind}

-- a kind of the sort of an enumerated one is enumerated
pub alike_enumerated : (a b : EntityTypeKind) → IsAlike a b → IsEnumerated a → IsEnumerated b
alike_enumerated (enumerated_kind choices) (enumerated_kind others) alike enumerated = tt
alike_enumerated (standard_kind fields openness tags) b alike enumerated = absurd enumerated
alike_enumerated external_kind b alike enumerated = absurd enumerated
alike_enumerated a b alike enumerated = elim alike [ ]

-- a kind that is reported to be enumerated is
pub is_enumerated : (kind : EntityTypeKind) (choices : List _) → kind ≡ enumerated_kind choices → IsEnumerated kind
is_enumerated kind choices is = subst IsEnumerated (sym is) tt

-- an entity of a type is of the kind of the type of its name
pub of_its_kind : (extensions : Extensions) (schema : PlainSchema) → IsKeyed schema → (it : ActionEntity) (ty : SchemaEntityType)
    → Contains schema.entity_types (it.uid.ty, ty) → IsEntityOfType extensions schema it → IsEntityOfKind extensions schema ty.kind it
of_its_kind extensions schema keyed it ty there (other, among, of) =
    subst (λ (t : SchemaEntityType). IsEntityOfKind extensions schema t.kind it) (keyed.types it.uid.ty other ty among there) of

-- ancestors may stand above an entity where each may and is another one
pub ancestors_of_each : (schema : PlainSchema) (it : ActionEntity)
    → ((upper : PlainUid) → Contains it.ancestors upper → MayStandOver schema it.uid upper) → AreAncestorsIn schema it
ancestors_of_each schema it each = record {
  above = λ upper among. (each upper among).1;
  not_itself = λ among. (each it.uid among).0 refl;
}

pub each_of_ancestors : (schema : PlainSchema) (it : ActionEntity) → AreAncestorsIn schema it → (upper : PlainUid) → Contains it.ancestors upper
    → MayStandOver schema it.uid upper
each_of_ancestors schema it all upper among =
    (λ same. all.not_itself (subst (Contains it.ancestors) same among), all.above upper among)
