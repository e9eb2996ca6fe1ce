-- Attributes whose names are sorted without duplicates are the same where they hold the same.
use Rattle.std.proofs.Common.{◌≡◌, Bool, true, false, Option, Some, None, List, [], ◌∷◌, refl, sym, ap, subst, ◌∙◌, if◌then◌else◌, Ordering}
use Rattle.std.proofs.lemmas.Map.Text.{is_eq-slice_cmp}
use Rattle.std.proofs.lemmas.Slice.Eq.{bytes_eq-Decides}
use Rattle.std.specs.Cmp.Lexicographic.{nat_list_cmp_total, nat_list_eq_equiv}
use Rattle.std.specs.List.{AllByRecursion}
use Rattle.std.specs.List.Sorted.{IsStrictlySortedBy}
use Rattle.std.specs.Option.{option_or}
use Rattle.std.specs.Ordering.{is_eq, ordering_reverse}
use Rattle.std.specs.Str.{bytes_eq}
use Rattle.std.specs.declared.cmp.Ordering.TheVariants.{Less, Equal, Greater}
use Rattle.cedar_ast.proofs.Texts.{text_cmp-Equal}
use Rattle.cedar_type_rules.specs.Words.{Fields, HoldsLast, IsSortedByName, Text, Ty, end, field, field_at, field_names, fields_from, last_named, text_cmp}

-- the name is below each of the names
abbrev pub IsBelowEach : Text → Fields → Type 0
IsBelowEach name fields = AllByRecursion (λ other. text_cmp name other ≡ Less) (field_names fields)

-- nothing after an option leaves it
option_or-None : (found : Option (Bool × Ty)) → option_or found None ≡ found
option_or-None None = refl
option_or-None (Some attribute) = refl

-- a text that is compared as another than an equal one isn't equal
unequal : (a b : Text) → text_cmp a b ≡ Less → bytes_eq a b ≡ false
unequal a b below = sym (is_eq-slice_cmp a b) ∙ ap is_eq below

-- a name below each of the names isn't among them
field_at-below : (name : Text) (fields : Fields) → IsBelowEach name fields → field_at name fields ≡ None
field_at-below name end below = refl
field_at-below name (field other required ty rest) below = rw (unequal name other below.0) (field_at-below name rest below.1)

-- the first attribute is found under its name
field_at-here : (name : Text) (required : Bool) (ty : Ty) (rest : Fields)
    → field_at name (field name required ty rest) ≡ Some (required, ty)
field_at-here name required ty rest = rw (nat_list_eq_equiv.refl name)

-- a name below one that is below each of the names is below each of them
below_each-trans : (a b : Text) (fields : Fields) → text_cmp a b ≡ Less → IsBelowEach b fields → IsBelowEach a fields
below_each-trans a b end below each = tt
below_each-trans a b (field other required ty rest) below each =
    (nat_list_cmp_total.trans a b other below each.0, below_each-trans a b rest below each.1)

-- the names after the first one are above it
pub first_below : (name : Text) (required : Bool) (ty : Ty) (rest : Fields) → IsSortedByName (field name required ty rest)
    → IsBelowEach name rest
unfolding IsStrictlySortedBy
first_below name required ty rest sorted_by_name = sorted_by_name.0

-- the names after the first one are sorted
pub rest_sorted_by_name : (name : Text) (required : Bool) (ty : Ty) (rest : Fields)
    → IsSortedByName (field name required ty rest) → IsSortedByName rest
unfolding IsStrictlySortedBy
rest_sorted_by_name name required ty rest sorted_by_name = sorted_by_name.1

-- fields that hold the same under each name
abbrev pub HoldSame : Fields → Fields → Type 0
HoldSame fields others = (name : Text) → field_at name fields ≡ field_at name others

-- an attribute isn't none
found_attribute : (attribute : Bool × Ty) → ¬ (Some attribute ≡ None)
found_attribute attribute wrong = cc

-- one attribute is found where another is
same_attribute : (attribute other : Bool × Ty) → Some attribute ≡ Some other → attribute ≡ other
same_attribute attribute other same = cc

-- where the first name is below the other's first, the two don't hold the same
below_differs : (name other : Text) (required required' : Bool) (ty ty' : Ty) (rest rest' : Fields)
    → IsSortedByName (field other required' ty' rest') → text_cmp name other ≡ Less
    → ¬ HoldSame (field name required ty rest) (field other required' ty' rest')
below_differs name other required required' ty ty' rest rest' sorted_by_name below same =
    let absent : field_at name (field other required' ty' rest') ≡ None =
    field_at-below name (field other required' ty' rest')
    (below, below_each-trans name other rest' below (first_below other required' ty' rest' sorted_by_name)) in
    let here : field_at name (field name required ty rest) ≡ Some (required, ty) = field_at-here name required ty rest in
    found_attribute (required, ty) (sym here ∙ (same name ∙ absent))

-- where two begin with one name, the rests hold the same
rests_same : (name : Text) (required required' : Bool) (ty ty' : Ty) (rest rest' : Fields)
    → IsSortedByName (field name required ty rest) → IsSortedByName (field name required' ty' rest')
    → HoldSame (field name required ty rest) (field name required' ty' rest') → HoldSame rest rest'
rests_same name required required' ty ty' rest rest' sorted_by_name sorted_by_name' same each =
    let P : Bool → Type 0 = λ b. bytes_eq each name ≡ b → field_at each rest ≡ field_at each rest' in
    let equal : P true = λ is. rw ((bytes_eq-Decides each name).0 is) (field_at-below name rest
    (first_below name required ty rest sorted_by_name) ∙ sym
    (field_at-below name rest' (first_below name required' ty' rest' sorted_by_name'))) in
    let other : P false = λ isn't. let h : (if bytes_eq each name then Some (required, ty) else field_at each rest)
    ≡ (if bytes_eq each name then Some (required', ty') else field_at each rest') = same each in rw isn't at h in
    elim (bytes_eq each name) as P [ true ↦ equal | false ↦ other ] refl

-- two that begin with one name and hold the same are equal if their rests are
joined : (name : Text) (required required' : Bool) (ty ty' : Ty) (rest rest' : Fields)
    → IsSortedByName (field name required ty rest) → IsSortedByName (field name required' ty' rest')
    → HoldSame (field name required ty rest) (field name required' ty' rest') → (HoldSame rest rest' → rest ≡ rest')
    → field name required ty rest ≡ field name required' ty' rest'
joined name required required' ty ty' rest rest' sorted_by_name sorted_by_name' same tails =
    let firsts = same_attribute (required, ty) (required', ty') (sym (field_at-here name required ty rest)
    ∙ (same name ∙ field_at-here name required' ty' rest')) in
    ap (λ first. field name first.0 first.1 rest) firsts
    ∙ ap (λ tail. field name required' ty' tail) (tails (rests_same name required required' ty ty' rest rest' sorted_by_name sorted_by_name' same))

-- sorted fields that hold the same under each name are equal
pub same-sorted_by_name : (fields others : Fields) → IsSortedByName fields → IsSortedByName others → HoldSame fields others → fields ≡ others
same-sorted_by_name end end sorted_by_name sorted_by_name' same = refl
same-sorted_by_name end (field name required ty rest) sorted_by_name sorted_by_name' same =
    absurd (found_attribute (required, ty) (sym (field_at-here name required ty rest) ∙ sym (same name)))
same-sorted_by_name (field name required ty rest) end sorted_by_name sorted_by_name' same =
    absurd (found_attribute (required, ty) (sym (field_at-here name required ty rest) ∙ same name))
same-sorted_by_name (field name required ty rest) (field other required' ty' rest') sorted_by_name sorted_by_name' same =
    let P : Ordering → Type 0 = λ o. text_cmp name other ≡ o → field name required ty rest ≡ field other required' ty' rest' in
    let below : P Less = λ is. absurd (below_differs name other required required' ty ty' rest rest' sorted_by_name' is same) in
    let above : P Greater = λ is. absurd (below_differs other name required' required ty' ty rest' rest sorted_by_name
    (nat_list_cmp_total.antisymm other name ∙ ap ordering_reverse is) (λ each. sym (same each))) in
    let Q : Text → Type 0 = λ t. IsSortedByName (field t required' ty' rest')
    → HoldSame (field name required ty rest) (field t required' ty' rest')
    → field name required ty rest ≡ field t required' ty' rest' in
    let tails : HoldSame rest rest' → rest ≡ rest' = same-sorted_by_name rest rest'
    (rest_sorted_by_name name required ty rest sorted_by_name) (rest_sorted_by_name other required' ty' rest' sorted_by_name') in
    let equal : P Equal = λ is. subst Q ((text_cmp-Equal name other).0 is)
    (λ ascends holds. joined name required required' ty ty' rest rest' sorted_by_name ascends holds tails) sorted_by_name' same in
    elim (text_cmp name other) as P [ Less ↦ below | Equal ↦ equal | Greater ↦ above ] refl

-- where the names of some pairs are sorted without duplicates, the last of a name is its only one
last_named-sorted_by_name : (name : Text) (items : List (Text × (Bool × Ty))) → IsSortedByName (fields_from items)
    → last_named name items ≡ field_at name (fields_from items)
last_named-sorted_by_name name [] sorted_by_name = refl
last_named-sorted_by_name name (item ∷ rest) sorted_by_name =
    let below = first_below item.0 item.1.0 item.1.1 (fields_from rest) sorted_by_name in
    let tail = last_named-sorted_by_name name rest (rest_sorted_by_name item.0 item.1.0 item.1.1 (fields_from rest) sorted_by_name) in
    let P : Bool → Type 0 = λ b. bytes_eq name item.0 ≡ b → option_or (last_named name rest)
    (if b then Some item.1 else None) ≡ (if b then Some item.1 else field_at name (fields_from rest)) in
    let equal : P true = λ is. ap (λ found. option_or found (Some item.1)) (tail
    ∙ rw (← ((bytes_eq-Decides name item.0).0 is)) at (field_at-below item.0 (fields_from rest) below)) in
    let other : P false = λ isn't. option_or-None (last_named name rest) ∙ tail in
    elim (bytes_eq name item.0) as P [ true ↦ equal | false ↦ other ] refl

-- attributes in order that hold the last of pairs in order are those of the pairs
pub fields_from-HoldsLast : (items : List (Text × (Bool × Ty))) (fields : Fields) → IsSortedByName (fields_from items)
    → IsSortedByName fields → HoldsLast items fields → fields ≡ fields_from items
fields_from-HoldsLast items fields in_order sorted_by_name holds =
    same-sorted_by_name fields (fields_from items) sorted_by_name in_order (λ name. holds name ∙ last_named-sorted_by_name name items in_order)
