-- What the attributes of a record stand for, as their pairs are gone over, looked up and made.
use Rattle.std.proofs.Common.{◌≡◌, Bool, true, false, refl, sym, ap, ◌∙◌, map, length, Result, Ok, Err, IfOk, List, [], ◌∷◌, Option, Some, None, cond, string_bytes, if◌then◌else◌}
use Rattle.std.proofs.lemmas.List.{length-map}
use Rattle.std.proofs.lemmas.Map.Text.{is_eq-slice_cmp}
use Rattle.std.specs.Cmp.Lexicographic.{nat_list_eq_equiv}
use Rattle.std.specs.Option.{option_map, option_or}
use Rattle.std.specs.Str.{bytes_eq}
use Rattle.std.specs.declared.alloc.Global.{Global}
use Rattle.std.specs.declared.rc.Rc.{Rc}
use Rattle.std.specs.declared.string.String.{String}
use Rattle.cedar_types.specs.Words.{AttributeType, Attributes, ByName, Fields, HoldsLast, IsSortedByName, IsSortedByName-fields, KeepsLast, Text, Ty, attribute_of, end, entry_texts, field, field_at, field_names, field_names-pairs, fields_from, fields_of, fields_of-pairs, last_named, located, located_attributes, out-Attributes, out-roll-Attributes, pairs_of, plain_attributes, roll-Attributes, value_at, with_texts}

-- a choice between an attribute and what an option stands for is what the choice of the two stands
-- for
option_map-chosen : {A B : Type 0} (f : A → B) (b : Bool) (x : A) (m : Option B) (n : Option A) → m ≡ option_map f n
    → (if b then Some (f x) else m) ≡ option_map f (cond b (Some x) n)
option_map-chosen f true x m n h = refl
option_map-chosen f false x m n h = h

-- the attribute of a name is what the pair of the name stands for
pub field_at-entries : (name : Text) (entries : List (String Global × AttributeType))
    → field_at name (fields_from (plain_attributes entries)) ≡ option_map attribute_of (value_at name entries)
field_at-entries name [] = refl
field_at-entries name (entry ∷ rest) =
    rw (is_eq-slice_cmp name (string_bytes entry.0))
    (option_map-chosen attribute_of (bytes_eq name (string_bytes entry.0)) entry.1 _ _ (field_at-entries name rest))

-- the attribute of a name among those that attributes stand for is what the pair of the name stands
-- for
pub field_at-pairs : (name : Text) (all : Attributes) → field_at name (fields_of all) ≡ option_map attribute_of (value_at name (pairs_of all))
field_at-pairs name all = ap (field_at name) (fields_of-pairs all) ∙ field_at-entries name (pairs_of all)

-- what is seen of the one that stands in the front, or else of others
option_or-seen : {A B : Type 0} (f : A → B) (b : Bool) (x : A) (m : Option B) (n : Option A) → m ≡ option_map f n
    → option_or m (if b then Some (f x) else None) ≡ option_map f (option_or n (if b then Some x else None))
option_or-seen f true x m None is = ap (λ found. option_or found (Some (f x))) is
option_or-seen f false x m None is = ap (λ found. option_or found None) is
option_or-seen f b x m (Some y) is = ap (λ found. option_or found (if b then Some (f x) else None)) is

-- the last of some pairs with a name, seen by f, is the last with the name of the pairs seen by f
pub last_named-seen : {A B : Type 0} (f : A → B) (name : Text) (items : List (String Global × A))
    → last_named name (map (λ item. (string_bytes item.0, f item.1)) items) ≡ option_map f (last_named name (with_texts items))
last_named-seen f name [] = refl
last_named-seen f name (item ∷ rest) =
    option_or-seen f (bytes_eq name (string_bytes item.0)) item.1 _ (last_named name (with_texts rest)) (last_named-seen f name rest)

-- the pairs that attributes are made of are theirs
pub pairs_of-made : (held : Rc (ByName AttributeType) Global) → pairs_of (roll-Attributes (record { attrs = held })) ≡ held.value.entries.items
pairs_of-made held = ap (λ all. all.attrs.value.entries.items) (out-roll-Attributes (record { attrs = held }))

-- a shared list that keeps the last value of each name
abbrev IsMade : List (String Global × AttributeType) → ByName AttributeType → Type 0
IsMade items all = (name : Text) → value_at name all.entries.items ≡ last_named name (with_texts items)

-- the attributes that are made of such a list are the last of the pairs
pub HoldsLast-made : (items : List (String Global × AttributeType)) (held : Rc (ByName AttributeType) Global)
    (all : ByName AttributeType) → held.value ≡ all → IsMade items all
    → HoldsLast (plain_attributes items) (fields_of (roll-Attributes (record { attrs = held })))
HoldsLast-made items held all is made name =
    field_at-pairs name _
    ∙ (ap (λ pairs. option_map attribute_of (value_at name pairs)) (pairs_of-made held ∙ ap (λ each. each.entries.items) is)
    ∙ (ap (option_map attribute_of) (made name) ∙ sym (last_named-seen attribute_of name items)))

-- the attributes that are made of such a list keep the locations of the last of the pairs
pub KeepsLast-made : (items : List (String Global × AttributeType)) (held : Rc (ByName AttributeType) Global)
    (all : ByName AttributeType) → held.value ≡ all → IsMade items all
    → KeepsLast (located_attributes items) (roll-Attributes (record { attrs = held }))
KeepsLast-made items held all is made name =
    ap (λ pairs. option_map located (value_at name pairs)) (pairs_of-made held ∙ ap (λ each. each.entries.items) is)
    ∙ (ap (option_map located) (made name) ∙ sym (last_named-seen located name items))

-- the first of some attributes is found by its name
first_found : (b : Bool) (x : Bool × Ty) (m : Option (Bool × Ty)) → b ≡ true → (if b then Some x else m) ≡ Some x
first_found true x m is = refl
first_found false x m is = absurd cc

-- attributes that are the last of no pairs are none
pub HoldsLast-none : (fields : Fields) → HoldsLast [] fields → fields ≡ end
HoldsLast-none end holds = refl
HoldsLast-none (field name required ty rest) holds =
    let found : field_at name (field name required ty rest) ≡ Some (required, ty) =
    first_found (bytes_eq name name) (required, ty) (field_at name rest) (nat_list_eq_equiv.refl name) in
    let none : field_at name (field name required ty rest) ≡ None = holds name in
    absurd cc

-- there are as many pairs as names of what they stand for
pub length-fields : (all : Attributes) (held : ByName AttributeType) → held ≡ (out-Attributes all).attrs.value
    → length held.entries.items ≡ length (field_names (fields_of all))
length-fields all held is =
    sym (length-map held.entries.items (λ entry. string_bytes entry.0))
    ∙ (ap (λ each. length (entry_texts each.entries.items)) is ∙ sym (ap length (field_names-pairs all)))

-- the names of any attributes that are answered are sorted
pub IfOk-sorted_by_name : {E : Type 0} (answer : Result Attributes E) → IfOk answer (λ all. IsSortedByName (fields_of all))
IfOk-sorted_by_name (Ok all) = IsSortedByName-fields all
IfOk-sorted_by_name (Err error) = tt

-- attributes that are made of no pairs are none
pub IfOk-none : {E : Type 0} (items : List (String Global × AttributeType)) (answer : Result Attributes E) → items ≡ []
    → IfOk answer (λ all. HoldsLast (plain_attributes items) (fields_of all)) → IfOk answer (λ all. fields_of all ≡ end)
IfOk-none items (Ok all) none holds = HoldsLast-none (fields_of all) (rw none at holds)
IfOk-none items (Err error) none holds = tt
