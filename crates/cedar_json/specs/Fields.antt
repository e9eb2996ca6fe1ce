-- The fields of JSON objects. A field is found as the last of its name.
use Rattle.std.specs.Borrow.{Bor}
use Rattle.std.specs.Option.{unwrap_or}
use Rattle.std.specs.Prelude.{◌≡◌, ℕ, zero, suc, List, [], ◌∷◌, ◌++◌, Bool, true, false, ◌&&◌, ◌||◌, Option, Some, None, IsSomeAnd, cond, codes, map, option_and_then}
use Rattle.std.specs.Str.{bytes_eq}
use Rattle.cedar_ast.specs.Words.{Text, is_identifier_text}
use Rattle.cedar_json.specs.declared.fault.Row.{Row}
use Rattle.cedar_json.specs.declared.fault.Row.TheVariants.{OfType, OfCommonType, OfAttribute, OfEntityType, OfEnumeratedType, OfAction, OfAppliesTo, OfParent, OfEntityUid, OfCall, OfDefinition}
use Rattle.json.specs.Find.{as_bool, as_str, get}
use Rattle.json.specs.Json.{Json, null, boolean, number, string, array, object, Members, no_members, member}

-- a text is one of some
abbrev pub is_among : Text → List Text → Bool
is_among key [] = false
is_among key (name ∷ names) = bytes_eq key name || is_among key names

-- the texts that are borrowed
abbrev pub texts_of : List (Bor Text) → List Text
texts_of names = map (λ name. name.now) names

-- each key is one of some texts
abbrev pub keys_among : List Text → Members → Bool
keys_among names no_members = true
keys_among names (member key j rest) = is_among key names && keys_among names rest

-- the member at an index, in the order of the text
abbrev pub nth_member : ℕ → Members → Option (Text × Json)
nth_member n no_members = None
nth_member zero (member key j rest) = Some (key, j)
nth_member (suc n) (member key j rest) = nth_member n rest

-- the member at an index has a key that is none of some texts
abbrev pub IsOther : List Text → Members → ℕ → Type 0
IsOther names ms index = IsSomeAnd (nth_member index ms) (λ m. is_among m.0 names ≡ false)

-- the value is an object, and each of its fields has one of the names
abbrev pub has_only : List Text → Json → Bool
has_only names null = false
has_only names (boolean b) = false
has_only names (number s) = false
has_only names (string s) = false
has_only names (array js) = false
has_only names (object ms) = keys_among names ms

-- the fields of an object that describes a type, by the text of its field `type`
abbrev pub type_fields : Text → List Text
type_fields word =
    cond (bytes_eq word (codes "Set")) (codes "type" ∷ codes "element" ∷ [])
    (cond (bytes_eq word (codes "Record"))
    (codes "type" ∷ codes "attributes" ∷ codes "additionalAttributes" ∷ [])
    (cond (is_among word (codes "Entity" ∷ codes "EntityOrCommon" ∷ codes "Extension" ∷ []))
    (codes "type" ∷ codes "name" ∷ [])
    (codes "type" ∷ [])))

-- the text that a field holds
abbrev pub text_held : Text → Json → Option Text
text_held name j = option_and_then as_str (get name j)

-- the text of the field `type`, or the empty text where there is none
abbrev pub type_word : Json → Text
type_word j = unwrap_or (text_held (codes "type") j) []

-- the fields of an object of the kind: for one that describes a type besides, those of the type
abbrev pub own_fields : Row → Json → List Text
own_fields OfType j = type_fields (type_word j)
own_fields OfCommonType j = type_fields (type_word j)
own_fields OfAttribute j = type_fields (type_word j)
own_fields OfEntityType j =
    codes "memberOfTypes" ∷ codes "shape" ∷ codes "tags" ∷ codes "external" ∷ codes "annotations"
    ∷ []
own_fields OfEnumeratedType j = codes "enum" ∷ codes "external" ∷ codes "annotations" ∷ []
own_fields OfAction j =
    codes "appliesTo" ∷ codes "memberOf" ∷ codes "attributes" ∷ codes "external"
    ∷ codes "annotations" ∷ []
own_fields OfAppliesTo j = codes "principalTypes" ∷ codes "resourceTypes" ∷ codes "context" ∷ []
own_fields OfParent j = codes "id" ∷ codes "type" ∷ []
own_fields OfEntityUid j = codes "type" ∷ codes "id" ∷ []
own_fields OfCall j = codes "fn" ∷ codes "arg" ∷ []
own_fields OfDefinition j = codes "entityTypes" ∷ codes "actions" ∷ codes "commonTypes"
    ∷ codes "annotations" ∷ []

-- the fields that an object which describes a type has besides
abbrev pub further_fields : Row → List Text
further_fields OfType = []
further_fields OfCommonType = codes "annotations" ∷ []
further_fields OfAttribute = codes "required" ∷ codes "annotations" ∷ []
further_fields OfEntityType = []
further_fields OfEnumeratedType = []
further_fields OfAction = []
further_fields OfAppliesTo = []
further_fields OfParent = []
further_fields OfEntityUid = []
further_fields OfCall = []
further_fields OfDefinition = []

-- the fields that an object of the kind may have
abbrev pub known_fields : Row → Json → List Text
known_fields row j = own_fields row j ++ further_fields row

-- the truth value that a field holds, where its absence means `absent`
abbrev pub flag_or : Bool → Option Json → Option Bool
flag_or absent None = Some absent
flag_or absent (Some j) = as_bool j

-- a text or null
abbrev pub is_text_or_null : Json → Bool
is_text_or_null null = true
is_text_or_null (boolean b) = false
is_text_or_null (number s) = false
is_text_or_null (string s) = true
is_text_or_null (array js) = false
is_text_or_null (object ms) = false

-- each key is an identifier, and each value a text or null
abbrev pub are_annotations : Members → Bool
are_annotations no_members = true
are_annotations (member key j rest) =
    (is_identifier_text key && is_text_or_null j) && are_annotations rest

-- a field holds annotations, or is absent
abbrev pub annotations_fit : Option Json → Bool
annotations_fit None = true
annotations_fit (Some null) = false
annotations_fit (Some (boolean b)) = false
annotations_fit (Some (number s)) = false
annotations_fit (Some (string s)) = false
annotations_fit (Some (array js)) = false
annotations_fit (Some (object ms)) = are_annotations ms
