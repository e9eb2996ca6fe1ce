-- What is written of actions.
use Rattle.std.proofs.Common.{◌≡◌, Global, List, [], ◌∷◌, ◌++◌, map, Option, Some, None, codes, option_map, refl}
use Rattle.std.specs.declared.vec.Vec.{Vec}
use Rattle.cedar_json_writer.proofs.WritingLemmas.{fields_after, flaw_left, flaw_right, none_both, object_added, object_closed}
use Rattle.cedar_json_writer.proofs.WrittenEntities.{names_sound}
use Rattle.cedar_json_writer.proofs.WrittenTypes.{FreeType, raw_ids}
use Rattle.cedar_json_writer.specs.Words.{ActionEntityUID, AddsField, AddsMembers, AddsValue, Each, Entity, Expr, IfThere, IsFlawOf, IsFree, IsWrittenEntity, RawName, SoundAction, SoundPairs, SoundParent, SoundRequests, WriteFault, WrittenAction, action_flaws, flaws_in, optional_member, pairs_flaws, raw_name, raw_reference, requests, requests_flaws, written_parent}
use Rattle.json.specs.Json.{Json, object, no_members, member}
use Rattle.json.specs.Token.{Token, begin_object, end_object}

-- the object of requests
pub requests_added : (old opened one_of two_of inside new : List Token) (principals resources : Json) (context : Option Json)
    → opened ≡ old ++ begin_object ∷ [] → AddsField opened one_of (codes "principalTypes") (Some principals)
    → AddsField one_of two_of (codes "resourceTypes") (Some resources) → AddsField two_of inside (codes "context") context
    → new ≡ inside ++ end_object ∷ []
    → AddsValue old new (object (member (codes "principalTypes") principals (member (codes "resourceTypes") resources
    (optional_member (codes "context") context no_members))))
requests_added old opened one_of two_of inside new principals resources context begun one two three ended =
    let p = optional_member (codes "principalTypes") (Some principals) in
    let r = optional_member (codes "resourceTypes") (Some resources) in
    let c = optional_member (codes "context") context in
    object_added old opened inside new (λ rest. p (r (c rest))) begun
    (fields_after opened two_of inside (λ rest. p (r rest)) c (fields_after opened one_of two_of p r one two) three) ended

pub requests_free : (principals resources : List RawName) (context : Expr) → FreeType context
    → IsFree (requests_flaws (requests (map (raw_reference None Entity) principals) (map (raw_reference None Entity) resources) context))
    (SoundRequests (requests (map (raw_reference None Entity) principals) (map (raw_reference None Entity) resources) context))
requests_free principals resources context free = record {
  flawless = free.flawless;
  sound = (names_sound principals, names_sound resources, free.sound);
}

type_sound : (ty : Option RawName) → IfThere IsWrittenEntity (option_map (raw_reference None Entity) ty)
type_sound None = tt
type_sound (Some name) = (raw_name name, raw_ids name, refl)

parents_sound : (parents : List (ActionEntityUID RawName)) → Each SoundParent (map written_parent parents)
parents_sound [] = tt
parents_sound (parent ∷ rest) = (type_sound parent.ty, parents_sound rest)

pub groups_sound : (groups : Option (Vec (ActionEntityUID RawName) Global)) → IfThere (Each SoundParent) (option_map (λ parents. map written_parent parents.items) groups)
groups_sound None = tt
groups_sound (Some parents) = parents_sound parents.items

-- the object of an action
pub action_added : (old opened applied grouped described new : List Token) (applies_to member_of attributes external : Option Json)
    → opened ≡ old ++ begin_object ∷ [] → AddsField opened applied (codes "appliesTo") applies_to → AddsField applied grouped (codes "memberOf") member_of
    → AddsField grouped described (codes "attributes") attributes → AddsMembers described new (optional_member (codes "external") external no_members)
    → AddsValue old new (object (optional_member (codes "appliesTo") applies_to (optional_member (codes "memberOf") member_of
    (optional_member (codes "attributes") attributes (optional_member (codes "external") external no_members)))))
action_added old opened applied grouped described new applies_to member_of attributes external begun one two three ended =
    let r = optional_member (codes "appliesTo") applies_to in
    let m = optional_member (codes "memberOf") member_of in
    let a = optional_member (codes "attributes") attributes in
    let e = optional_member (codes "external") external in
    object_closed old opened described new (λ rest. r (m (a rest))) (e no_members) begun
    (fields_after opened grouped described (λ rest. r (m rest)) a (fields_after opened applied grouped r m one two) three) ended

pub action_free : (it : WrittenAction) → IsFree (flaws_in requests_flaws it.applies_to) (IfThere SoundRequests it.applies_to)
    → IfThere (Each SoundParent) it.member_of → IsFree (flaws_in pairs_flaws it.attributes) (IfThere SoundPairs it.attributes)
    → IsFree (action_flaws it) (SoundAction it)
action_free it applied grouped described = record {
  flawless = none_both (flaws_in requests_flaws it.applies_to) (flaws_in pairs_flaws it.attributes) applied.flawless described.flawless;
  sound = record { attributes = described.sound; applies_to = applied.sound; member_of = grouped };
}

pub requests_flaw : (it : WrittenAction) (f : WriteFault) → IsFlawOf (flaws_in requests_flaws it.applies_to) f → IsFlawOf (action_flaws it) f
requests_flaw it f flawed = flaw_left (flaws_in requests_flaws it.applies_to) (flaws_in pairs_flaws it.attributes) f flawed

pub attributes_flaw : (it : WrittenAction) (f : WriteFault) → IsFlawOf (flaws_in pairs_flaws it.attributes) f → IsFlawOf (action_flaws it) f
attributes_flaw it f flawed = flaw_right (flaws_in requests_flaws it.applies_to) (flaws_in pairs_flaws it.attributes) f flawed
