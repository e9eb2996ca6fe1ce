-- What is written of entity types.
use Rattle.std.proofs.Common.{◌≡◌, ◌≢◌, List, [], ◌∷◌, Bool, true, false, map, length, Option, Some, None, ap, codes, cond, refl, sym, subst}
use Rattle.std.specs.List.Sorted.{IsStrictlySortedBy}
use Rattle.cedar_json_writer.proofs.TypeReadBack.{empty-is}
use Rattle.cedar_json_writer.proofs.WritingLemmas.{none_both}
use Rattle.cedar_json_writer.proofs.WrittenTypes.{Entries, FreeType, listed, raw_ids}
use Rattle.cedar_json_writer.specs.Words.{AddsField, Each, Entity, Expr, IfThere, IsFree, IsWrittenEntity, RawName, SoundBody, SoundType, body_flaws, empty_record, flaws_in, is_empty_record, parents_held, raw_name, raw_reference, record_expr, reference_array, shape_held, standard, type_document, type_flaws}
use Rattle.json.specs.Token.{Token}

-- a record with an attribute isn't the one without any
pub filled_record : (entries : Entries) (additional : Bool) → length entries ≢ 0 → is_empty_record (record_expr (listed entries) additional) ≡ false
filled_record [] additional some = absurd (some refl)
filled_record (entry ∷ rest) true some = refl
filled_record (entry ∷ rest) false some = refl

-- the closed record without attributes is free
record_free : FreeType empty_record
unfolding type_flaws SoundType IsStrictlySortedBy
record_free = record { flawless = refl; sound = (tt, tt) }

-- a shape that has something is written
pub filled_shape : (ty : Expr) → is_empty_record ty ≡ false → shape_held ty ≡ Some (type_document ty)
filled_shape ty filled = ap (λ test. cond test None (Some (type_document ty))) filled

pub empty_free : (ty : Expr) → is_empty_record ty ≡ true → FreeType ty
empty_free ty e = subst FreeType (sym (empty-is ty e)) record_free

-- parents that are some are written
pub some_parents : (old new : List Token) (parents : List RawName) → length parents ≢ 0
    → AddsField old new (codes "memberOfTypes") (Some (reference_array (map (raw_reference None Entity) parents)))
    → AddsField old new (codes "memberOfTypes") (parents_held (map (raw_reference None Entity) parents))
some_parents old new [] some added = absurd (some refl)
some_parents old new (first ∷ rest) some added = added

-- names as they were written are sound
pub names_sound : (names : List RawName) → Each IsWrittenEntity (map (raw_reference None Entity) names)
names_sound [] = tt
names_sound (name ∷ rest) = ((raw_name name, raw_ids name, refl), names_sound rest)

pub standard_free : (parents : List RawName) (shape : Expr) (tags : Option Expr) → FreeType shape
    → IsFree (flaws_in type_flaws tags) (IfThere SoundType tags)
    → IsFree (body_flaws (standard (map (raw_reference None Entity) parents) shape tags)) (SoundBody (standard (map (raw_reference None Entity) parents) shape tags))
standard_free parents shape tags shaped tagged = record {
  flawless = none_both (type_flaws shape) (flaws_in type_flaws tags) shaped.flawless tagged.flawless;
  sound = (names_sound parents, shaped.sound, tagged.sound);
}
