-- Nodes that are put under their names one after another, each in place of an earlier one of its
-- name.
use Rattle.std.proofs.Common.{◌≡◌, ◌++◌, Bool, true, false, cond, Contains, List, [], ◌∷◌, None, Some, refl, ap, sym, subst, ◌∙◌, inl, inr}
use Rattle.std.specs.BTreeMap.{BTreeMap, get, insert_entry, is_at}
use Rattle.std.specs.Cmp.{IsTotalOrder}
use Rattle.std.specs.Map.{remove_entry}
use Rattle.std.specs.Option.{option_or}
use Rattle.std.specs.Ordering.{is_eq, ordering_reverse}
use Rattle.std.specs.declared.cmp.Ordering.{Ordering}
use Rattle.std.specs.declared.cmp.Ordering.TheVariants.{Less, Equal, Greater}
use Rattle.cedar_graph.proofs.MovingLemmas.{put_again, replaced_in_order}
use Rattle.cedar_validation.specs.LastNamed.{last_that}

-- an item that is put behind the others is the last, if it passes
last_more : {A : Type 0} (test : A → Bool) (items : List A) (item : A)
    → last_that test (items ++ item ∷ []) ≡ cond (test item) (Some item) (last_that test items)
last_more test [] item = refl
last_more test (first ∷ rest) item =
    ap (λ o. option_or o (cond (test first) (Some first) None)) (last_more test rest item)
    ∙ elim (test item) as
    (λ b. option_or (cond b (Some item) (last_that test rest)) (cond (test first) (Some first) None)
    ≡ cond b (Some item) (option_or (last_that test rest) (cond (test first) (Some first) None)))
    [ true ↦ refl | false ↦ refl ]

-- an answer ties exactly where it does the other way round
tie_reversed : (o : Ordering) → is_eq (ordering_reverse o) ≡ is_eq o
tie_reversed Less = refl
tie_reversed Equal = refl
tie_reversed Greater = refl

-- of the nodes the last of each name stands under it, and something holds of each entry
pub record AreNamed {K V N : Type 0} (cmp : K → K → Ordering) (order : N → N → Ordering) (key_name : K → N) (node_name : V → N)
    (P : K × V → Type 0) (named : BTreeMap K V) (nodes : List V) : Type 0 where
  pub last : (name : K) → get cmp named name ≡ last_that (λ it. is_eq (order (key_name name) (node_name it))) nodes
  pub each : (it : K × V) → Contains named.entries it → P it

-- so it is once one more was put under its name, in place of an earlier one
pub named_more : {K V N : Type 0} (cmp : K → K → Ordering) (order : N → N → Ordering) (key_name : K → N) (node_name : V → N)
    (P : K × V → Type 0) → IsTotalOrder order → ((a b : K) → cmp a b ≡ order (key_name a) (key_name b))
    → (old without new : BTreeMap K V) (nodes : List V) (key : K) (node : V) → key_name key ≡ node_name node → P (key, node)
    → without.entries ≡ remove_entry (is_at (cmp key)) old.entries
    → ((name : K) → get cmp without name ≡ cond (is_at (cmp key) name) None (get cmp old name)) → get cmp without key ≡ None
    → new.entries ≡ insert_entry cmp without.entries key node
    → ((name : K) → get cmp new name ≡ cond (is_at (cmp key) name) (Some node) (get cmp without name))
    → AreNamed cmp order key_name node_name P old nodes → AreNamed cmp order key_name node_name P new (nodes ++ node ∷ [])
named_more cmp order key_name node_name P total ties old without new nodes key node own here taken takes absent put puts so_far = record {
  last = λ name.
      let test : is_at (cmp key) name ≡ is_eq (order (key_name name) (node_name node)) =
      ap is_eq (ties key name ∙ total.antisymm (key_name key) (key_name name)) ∙ tie_reversed (order (key_name name) (key_name key))
      ∙ ap (λ each. is_eq (order (key_name name) each)) own in
      put_again (is_at (cmp key) name) (Some node) (get cmp old name) (get cmp without name) (takes name) (get cmp new name) (puts name)
      ∙ ((λ i. cond (test i) (Some node) (so_far.last name i))
      ∙ sym (last_more (λ it. is_eq (order (key_name name) (node_name it))) nodes node));
  each = λ it among. elim (replaced_in_order cmp (is_at (cmp key)) old without new key node taken absent put it among) [ inl same ↦ subst P same here | inr there ↦ so_far.each it there ];
}
