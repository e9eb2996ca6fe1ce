-- Items of arrays that are read one after another.
use Rattle.std.proofs.Common.{◌≡◌, ℕ, zero, suc, ◌+◌, ◌<◌, ◌≤◌, List, [], ◌∷◌, ◌++◌, length, drop, drop_of_length-le, get_or, map, Option, Some, None, option_map, option_and_then, refl, ap, sym, ◌∙◌, arith, append_assoc, append-nil}
use Rattle.std.proofs.lemmas.List.{drop_more, map-append}
use Rattle.std.specs.declared.alloc.Global.{Global}
use Rattle.cedar_json.specs.Lists.{all_of}
use Rattle.json.specs.Find.{get_item}
use Rattle.json.specs.Json.{Json, Items, no_items, item}
use Rattle.json.specs.Value.{items_view, value_view}
use Rattle.json.specs.declared.value.Value.{Value}

get_item-view : (xs : List (Value Global)) (index : ℕ) (x : Value Global) → index < length xs
    → get_item index (items_view xs) ≡ Some (value_view (get_or xs index x))
get_item-view [] index x within = absurd (omega (arith, within))
get_item-view (first ∷ rest) zero x within = refl
get_item-view (first ∷ rest) (suc index) x within = get_item-view rest index x (omega (arith, within))

-- the item at an index
pub get_item-is : (xs all : List (Value Global)) (index : ℕ) (x : Value Global) → xs ≡ all → index < length xs → x ≡ get_or xs index x
    → get_item index (items_view all) ≡ Some (value_view x)
get_item-is xs all index x same within is =
    ap (λ ys. get_item index (items_view ys)) (sym same) ∙ get_item-view xs index x within ∙ ap (λ y. Some (value_view y)) (sym is)

-- the item at an index, and those after it
pub items_from_index : (xs all : List (Value Global)) (index : ℕ) (x : Value Global) → xs ≡ all → index < length xs → x ≡ get_or xs index x
    → drop index all ≡ x ∷ drop (index + 1) all
items_from_index xs all index x same within is =
    ap (drop index) (sym same) ∙ drop_more xs index x within ∙ ap (λ y. y ∷ drop (index + 1) xs) (sym is)
    ∙ ap (λ ys. x ∷ drop (index + 1) ys) same

module _ {A B : Type 0} (f : Json → Option A) (view : B → A) where
  abbrev after : List B → Option (List A) → Option (List A)
  after made o = option_map (λ others. map view made ++ others) o

  pub nothing_made : (o : Option (List A)) → o ≡ after [] o
  nothing_made None = refl
  nothing_made (Some others) = refl

  pushed : (made : List B) (y : B) (o : Option (List A)) → after made (option_map (λ others. view y ∷ others) o) ≡ after (made ++ y ∷ []) o
  pushed made y None = refl
  pushed made y (Some others) =
      ap Some (sym (ap (λ front. front ++ others) (map-append view made (y ∷ [])) ∙ append_assoc (map view made) (view y ∷ []) others))

  -- where none is left, all were made
  pub all_made : (xs all : List (Value Global)) (index : ℕ) (made : List B) → xs ≡ all → length xs ≤ index
      → all_of f (items_view all) ≡ after made (all_of f (items_view (drop index all))) → all_of f (items_view all) ≡ Some (map view made)
  all_made xs all index made same end so_far =
      so_far ∙ ap (λ ys. after made (all_of f (items_view (drop index ys)))) (sym same)
      ∙ ap (λ ys. after made (all_of f (items_view ys))) (drop_of_length-le xs end) ∙ ap Some (append-nil (map view made))

  -- at an item
  module _ (all : List (Value Global)) (index : ℕ) (x : Value Global) (made : List B) (here : drop index all ≡ x ∷ drop (index + 1) all)
      (so_far : all_of f (items_view all) ≡ after made (all_of f (items_view (drop index all)))) where
    abbrev rest : Option (List A)
    rest = all_of f (items_view (drop (index + 1) all))

    abbrev with_item : Option A → Option (List A)
    with_item o = after made (option_and_then (λ it. option_map (λ others. it ∷ others) rest) o)

    step : all_of f (items_view all) ≡ with_item (f (value_view x))
    step = so_far ∙ ap (λ ys. after made (all_of f (items_view ys))) here

    pub no_item : f (value_view x) ≡ None → all_of f (items_view all) ≡ None
    no_item e = step ∙ ap with_item e

    pub item_more : (y : B) (new : List B) → f (value_view x) ≡ Some (view y) → new ≡ made ++ y ∷ []
        → all_of f (items_view all) ≡ after new rest
    item_more y new is grown = step ∙ ap with_item is ∙ pushed made y rest ∙ ap (λ m. after m rest) (sym grown)

some_first : {A : Type 0} (first : A) (o : Option (List A)) → option_map (λ others. first ∷ others) o ≡ Some [] → ⊥
some_first first None e = absurd (cc)
some_first first (Some others) e = absurd (cc)

some_begun : {A : Type 0} (o : Option A) (rest : Option (List A))
    → option_and_then (λ it. option_map (λ others. it ∷ others) rest) o ≡ Some [] → ⊥
some_begun None rest e = absurd (cc)
some_begun (Some first) rest e = some_first first rest e

all_of-nothing : {A : Type 0} (f : Json → Option A) (js : Items) → all_of f js ≡ Some [] → js ≡ no_items
all_of-nothing f no_items e = refl
all_of-nothing f (item j rest) e = absurd (some_begun (f j) (all_of f rest) e)

-- where the items of an array describe nothing there is none
pub none_listed : {A : Type 0} (f : Json → Option A) (o : Option Items) → option_and_then (all_of f) o ≡ Some [] → o ≡ Some no_items
none_listed f None e = absurd (cc)
none_listed f (Some js) e = ap Some (all_of-nothing f js e)

-- a list without length has no items
pub no_length : {A : Type 0} (xs : List A) → length xs ≡ 0 → xs ≡ []
no_length [] e = refl
no_length (x ∷ xs) e = absurd (omega (arith, e))
