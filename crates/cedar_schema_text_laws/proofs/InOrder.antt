-- What stands in the order of its names: it stays in that order, and no name stands again.
use Rattle.std.proofs.Common.{◌≡◌, Bool, false, List, [], ◌∷◌, ◌++◌, map, Option, Some, None, bytes_eq, cond, refl, sym, ap, subst, ◌∙◌, inl, inr, append-nil, append_assoc}
use Rattle.std.proofs.lemmas.Bool.{cases_Bool}
use Rattle.std.proofs.lemmas.List.{map-append, map-id}
use Rattle.std.specs.Bool.{⊤}
use Rattle.std.proofs.lemmas.Slice.Eq.{bytes_eq-Decides}
use Rattle.std.specs.BTreeMap.{insert_entry}
use Rattle.std.specs.Cmp.{IsTotalOrder}
use Rattle.std.specs.List.{AllByRecursion, fold}
use Rattle.std.specs.List.Sorted.{IsStrictlySortedBy}
use Rattle.std.specs.Map.{keys_of}
use Rattle.std.specs.Ordering.{ordering_reverse}
use Rattle.std.specs.declared.cmp.Ordering.{Ordering}
use Rattle.std.specs.declared.cmp.Ordering.TheVariants.{Greater, Less}
use Rattle.cedar_ast.proofs.Ordered.{above_front, not_itself}
use Rattle.cedar_ast.proofs.Texts.{text_cmp-total}
use Rattle.cedar_ast.specs.Words.{Text, text_cmp}
use Rattle.cedar_json_writer.proofs.WrittenOrder.{put-last, still_sorted}
use Rattle.cedar_schema_grammar.specs.Tree.{Name}
use Rattle.cedar_schema_text.proofs.SoFar.{seen, seen-insert}
use Rattle.cedar_schema_text.specs.Faults.{first_named, repeat_of, repeats, repeats_behind}
use Rattle.cedar_schema_text.specs.Meaning.{in_order}
use Rattle.cedar_schema_text.specs.declared.fault.Repeated.{Repeated}

module _ {K V : Type 0} {R : K → K → Ordering} (total : IsTotalOrder R) where
  folded : (before entries : List (K × V)) → IsStrictlySortedBy R (keys_of before ++ keys_of entries)
      → fold (λ done entry. insert_entry R done entry.0 entry.1) before entries ≡ before ++ entries
  folded before [] sorted = sym (append-nil before)
  folded before (entry ∷ rest) sorted =
      ap (λ (done : List (K × V)). fold (λ done entry. insert_entry R done entry.0 entry.1) done rest)
      (put-last total before entry.0 entry.1 (keys_of rest) sorted)
      ∙ (folded (before ++ entry ∷ []) rest (still_sorted total before entry.0 entry.1 (keys_of rest) sorted)
      ∙ append_assoc before (entry ∷ []) rest)

  -- entries that stand in order stay so
  pub in_order-sorted : (entries : List (K × V)) → IsStrictlySortedBy R (keys_of entries) → in_order R entries ≡ entries
  in_order-sorted entries sorted = folded [] entries sorted

-- the texts of names
abbrev pub texts_of : List Name → List Text
texts_of names = map (λ x. x.text) names

-- things, each with a name, that stand in the order of their keys, which the texts of the names tell apart
module _ {B K : Type 0} {R : K → K → Ordering} (total : IsTotalOrder R) (name : B → Name) (key : B → K) (Good : B → Type 0)
    (tells : (a b : B) → Good a → Good b → (name a).text ≡ (name b).text → key a ≡ key b) (what : Repeated) where
  other_text : (x y : B) → Good x → Good y → R (key x) (key y) ≡ Greater → bytes_eq (name y).text (name x).text ≡ false
  other_text x y good also above = elim (cases_Bool (bytes_eq (name y).text (name x).text)) [
    | inr differs ↦ differs
    | inl alike ↦
        let same : key y ≡ key x = tells y x also good ((bytes_eq-Decides (name y).text (name x).text).0 alike) in
        let less : R (key y) (key x) ≡ Less = total.antisymm (key y) (key x) ∙ ap ordering_reverse above in
        absurd (not_itself R total (key y) (key x) same less)
  ]

  none_named : (x : B) (before : List B) → Good x → AllByRecursion Good before → AllByRecursion (λ other. R (key x) other ≡ Greater) (map key before)
      → first_named (name x).text (map name before) ≡ None
  none_named x [] good goods above = refl
  none_named x (y ∷ before) good goods above =
      ap (λ (test : Bool). cond test (Some (name y)) (first_named (name x).text (map name before))) (other_text x y good goods.0 above.0)
      ∙ none_named x before good goods.1 above.1

  good_more : (before : List B) (x : B) → AllByRecursion Good before → Good x → AllByRecursion Good (before ++ x ∷ [])
  good_more [] x goods good = (good, tt)
  good_more (y ∷ before) x goods good = (goods.0, good_more before x goods.1 good)

  none_behind : (before items : List B) → AllByRecursion Good before → AllByRecursion Good items
      → IsStrictlySortedBy R (map key before ++ map key items) → repeats_behind what (map name before) (map name items) ≡ []
  none_behind before [] goods more sorted = refl
  none_behind before (x ∷ items) goods more sorted =
      let alone = none_named x before more.0 goods (above_front total (map key before) (key x) (map key items) sorted) in
      let moved : map key (before ++ x ∷ []) ++ map key items ≡ map key before ++ map key (x ∷ items) =
      ap (λ (front : List K). front ++ map key items) (map-append key before (x ∷ []))
      ∙ append_assoc (map key before) (key x ∷ []) (map key items) in
      ap (λ (first : Option Name). repeat_of what first (name x) ++ repeats_behind what (map name before ++ name x ∷ []) (map name items)) alone
      ∙ (ap (λ (front : List Name). repeats_behind what front (map name items)) (sym (map-append name before (x ∷ [])))
      ∙ none_behind (before ++ x ∷ []) items (good_more before x goods more.0) more.1 (subst (IsStrictlySortedBy R) (sym moved) sorted))

  -- of such names none stands again
  pub repeats-keyed : (items : List B) → AllByRecursion Good items → IsStrictlySortedBy R (map key items) → repeats what (map name items) ≡ []
  repeats-keyed items goods sorted = none_behind [] items tt goods sorted

all_good : {B : Type 0} (items : List B) → AllByRecursion (λ (item : B). ⊤) items
all_good [] = tt
all_good (item ∷ items) = (tt, all_good items)

-- of names in the order of their texts none stands again
pub repeats-sorted : (what : Repeated) (names : List Name) → IsStrictlySortedBy text_cmp (texts_of names) → repeats what names ≡ []
repeats-sorted what names sorted =
    ap (repeats what) (sym (map-id names))
    ∙ repeats-keyed text_cmp-total (λ x. x) (λ x. x.text) (λ x. ⊤) (λ a b good also same. same) what names (all_good names) sorted

-- entries that stand in the order of keys stay so, as they are seen
pub in_order-seen : {K V L C : Type 0} (R : K → K → Ordering) (cmp : L → L → Ordering) (key : K → L) (shown : V → C)
    (order : (a b : K) → R a b ≡ cmp (key a) (key b)) (entries : List (K × V))
    → seen R cmp key shown order (in_order R entries) ≡ in_order cmp (seen R cmp key shown order entries)
in_order-seen R cmp key shown order entries = by [] entries where
  by : (before these : List _)
      → seen R cmp key shown order (fold (λ done entry. insert_entry R done entry.0 entry.1) before these)
      ≡ fold (λ done entry. insert_entry cmp done entry.0 entry.1) (seen R cmp key shown order before) (seen R cmp key shown order these)
  by before [] = refl
  by before (entry ∷ rest) =
      by (insert_entry R before entry.0 entry.1) rest
      ∙ ap (λ done. fold (λ done entry. insert_entry cmp done entry.0 entry.1) done (seen R cmp key shown order rest))
      (seen-insert R cmp key shown order before entry.0 entry.1)
