-- Types that stand for no record type.
use Rattle.std.proofs.Common.{◌≡◌, Bool, None, refl, ap, sym, ◌∙◌}
use Rattle.cedar_builder.specs.Words.{AttributeType, Attributes, Fields, IsRecordType, OpenTag, Record, Ty, «Type», attribute_of, attribute_step, attributes_step, fields_of, fold_out-Type, map-Type, out-Type, roll-Type, roll-out-Type, rolls-Record, ty_of, type_step}
use Rattle.cedar_types.specs.declared.entity_kind.EntityKind.TheVariants as kind
use Rattle.cedar_types.specs.declared.types.Type.TheOpen as layer

-- what one layer of a type stands for
abbrev folded : layer.Type-F «Type» AttributeType Attributes → Ty
folded it = type_step (map-Type «Type» AttributeType Attributes Ty (Bool × Ty) Fields ty_of attribute_of fields_of it)

-- a type stands for what its layer does
folded-out : (it : «Type») → ty_of it ≡ folded (out-Type it)
folded-out it = fold_out-Type Ty (Bool × Ty) Fields type_step attribute_step attributes_step it

-- a layer that is no record's stands for no record type
no_record_layer : (it : «Type») → ((attrs : Attributes) (openness : OpenTag) → ¬ (it ≡ Record attrs openness))
    → (part : layer.Type-F «Type» AttributeType Attributes) → out-Type it ≡ part → ¬ IsRecordType (folded part)
no_record_layer it other (layer.Record attrs openness) is holds =
    other attrs openness (sym (roll-out-Type it) ∙ (ap roll-Type is ∙ rolls-Record attrs openness))
no_record_layer it other (layer.Entity kind.AnyEntity) is holds = holds
no_record_layer it other (layer.Set None) is holds = holds
no_record_layer it other _ is holds = holds

-- a type that is no record type stands for none
pub no_record : (it : «Type») → ((attrs : Attributes) (openness : OpenTag) → ¬ (it ≡ Record attrs openness)) → ¬ IsRecordType (ty_of it)
no_record it other holds = no_record_layer it other (out-Type it) refl (rw (folded-out it) at holds)
