-- What is written of names and ids.
use Rattle.std.proofs.Common.{◌≡◌, List, [], ◌∷◌, ◌++◌, map, None, refl, ap, subst, ◌∙◌}
use Rattle.cedar_json_writer.proofs.WritingLemmas.{items_from}
use Rattle.cedar_json_writer.specs.Words.{ActionEntityUID, AddsValue, Eid, Entity, RawName, eid_text, name_text, parent_array, parent_document, raw_name, raw_reference, reference_array, reference_text, written_parent}
use Rattle.json.specs.Json.{Json, array, item, string}
use Rattle.json.specs.Token.{Token}
use Rattle.json.specs.Tree.{items_tokens}
use Rattle.json.specs.Value.{items_of}

-- a name as an item
abbrev pub name_item : RawName → Json
name_item name = string (name_text (raw_name name))

-- an id as an item
abbrev pub id_item : Eid → Json
id_item id = string (eid_text id)

names-items : (names : List RawName) → items_from name_item names ≡ items_of (map string (map reference_text (map (raw_reference None Entity) names)))
names-items [] = refl
names-items (name ∷ rest) = ap (item (name_item name)) (names-items rest)

-- the array of names
pub names-array : (names : List RawName) → array (items_from name_item names) ≡ reference_array (map (raw_reference None Entity) names)
names-array names = ap array (names-items names)

pub names_added : (old new : List Token) (names all : List RawName) → names ≡ all → AddsValue old new (array (items_from name_item names))
    → AddsValue old new (reference_array (map (raw_reference None Entity) all))
names_added old new names all same added =
    subst (λ (each : List RawName). AddsValue old new (reference_array (map (raw_reference None Entity) each))) same
    (subst (AddsValue old new) (names-array names) added)

-- the items of ids
pub ids-items : (ids : List Eid) → items_from id_item ids ≡ items_of (map string (map eid_text ids))
ids-items [] = refl
ids-items (id ∷ rest) = ap (item (id_item id)) (ids-items rest)

pub ids_added : (old new : List Token) (ids all : List Eid) → ids ≡ all → new ≡ old ++ items_tokens (items_from id_item ids)
    → new ≡ old ++ items_tokens (items_of (map string (map eid_text all)))
ids_added old new ids all same added =
    added ∙ ap (λ js. old ++ items_tokens js) (ids-items ids) ∙ ap (λ each. old ++ items_tokens (items_of (map string (map eid_text each)))) same

-- a parent as an item
abbrev pub parent_item : ActionEntityUID RawName → Json
parent_item it = parent_document (written_parent it)

parents-items : (parents : List (ActionEntityUID RawName)) → items_from parent_item parents ≡ items_of (map parent_document (map written_parent parents))
parents-items [] = refl
parents-items (parent ∷ rest) = ap (item (parent_item parent)) (parents-items rest)

pub parents_added : (old new : List Token) (parents all : List (ActionEntityUID RawName)) → parents ≡ all
    → AddsValue old new (array (items_from parent_item parents)) → AddsValue old new (parent_array (map written_parent all))
parents_added old new parents all same added =
    subst (λ (each : List (ActionEntityUID RawName)). AddsValue old new (parent_array (map written_parent each))) same
    (subst (λ js. AddsValue old new (array js)) (parents-items parents) added)
