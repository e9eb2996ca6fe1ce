-- Entries put into a map, and taken out of it.
use Rattle.std.proofs.Common.{◌≡◌, ◌⊎◌, inl, inr, Bool, true, false, cond, List, [], ◌∷◌, Option, None, Some, BTreeMap, refl, subst, ◌∙◌, Contains, arith}
use Rattle.std.proofs.lemmas.List.Elements.{Contains-append_right}
use Rattle.std.specs.BTreeMap as tree
use Rattle.std.specs.BTreeMap.{insert_entry, is_at}
use Rattle.std.specs.Map.{lookup, remove_entry}
use Rattle.std.specs.declared.cmp.Ordering.{Ordering}
use Rattle.std.specs.declared.cmp.Ordering.TheVariants.{Less, Equal, Greater}
use Rattle.cedar_ast.proofs.Lists.{Contains-cons_cases}

module _ {K X : Type 0} where
  -- an entry of those into which one was put at a new key is that one, or stood there
  pub inserted : (cmp : K → K → Ordering) (es : List (K × X)) (key : K) (value : X) (entry : K × X)
      → lookup (is_at (cmp key)) es ≡ None → Contains (insert_entry cmp es key value) entry
      → ((key, value) ≡ entry) ⊎ Contains es entry
  inserted cmp [] key value entry new among = Contains-cons_cases (key, value) [] entry among
  inserted cmp (e ∷ es) key value entry new among = by (cmp key e.0) refl new among (inserted cmp es key value entry) where
    by : (o : Ordering) → cmp key e.0 ≡ o → lookup (is_at (cmp key)) (e ∷ es) ≡ None
        → Contains (insert_entry cmp (e ∷ es) key value) entry
        → (lookup (is_at (cmp key)) es ≡ None → Contains (insert_entry cmp es key value) entry → ((key, value) ≡ entry) ⊎ Contains es entry)
        → ((key, value) ≡ entry) ⊎ Contains (e ∷ es) entry
    by Less is new among more = Contains-cons_cases (key, value) (e ∷ es) entry (rw is at among)
    by Equal is new among more = let no : Some e.1 ≡ None = rw is at new in cc
    by Greater is new among more =
        let rest : lookup (is_at (cmp key)) es ≡ None = rw is at new in
        elim (Contains-cons_cases e (insert_entry cmp es key value) entry (rw is at among)) [ inl same ↦ inr (subst (Contains (e ∷ es)) same (0, omega arith, refl)) | inr later ↦ elim (more rest later) [ inl it ↦ inl it | inr there ↦ inr (Contains-append_right (e ∷ []) es entry there) ] ]

  -- an entry of those from which one was taken stood there before
  pub kept_entry : (test : K → Bool) (es : List (K × X)) (entry : K × X) → Contains (remove_entry test es) entry → Contains es entry
  kept_entry test [] entry among = among
  kept_entry test (e ∷ es) entry among = by (test e.0) refl among (kept_entry test es entry) where
    by : (b : Bool) → test e.0 ≡ b → Contains (remove_entry test (e ∷ es)) entry
        → (Contains (remove_entry test es) entry → Contains es entry) → Contains (e ∷ es) entry
    by true is among more = Contains-append_right (e ∷ []) es entry (rw is at among)
    by false is among more =
        elim (Contains-cons_cases e (remove_entry test es) entry (rw is at among)) [ inl same ↦ subst (Contains (e ∷ es)) same (0, omega arith, refl) | inr later ↦ Contains-append_right (e ∷ []) es entry (more later) ]

-- an entry of a map, in which one was put where one of its key was taken out, is that one or stood
-- there before
pub replaced_in_order : {K X : Type 0} (cmp : K → K → Ordering) (test : K → Bool) (before without after : BTreeMap K X) (key : K) (value : X)
    → without.entries ≡ remove_entry test before.entries → tree.get cmp without key ≡ None
    → after.entries ≡ insert_entry cmp without.entries key value
    → (entry : K × X) → Contains after.entries entry → ((key, value) ≡ entry) ⊎ Contains before.entries entry
replaced_in_order cmp test before without after key value taken absent put entry among =
    elim (inserted cmp without.entries key value entry absent (subst (λ es. Contains es entry) put among)) [ inl same ↦ inl same | inr there ↦ inr (kept_entry test before.entries entry (subst (λ es. Contains es entry) taken there)) ]

-- what is put at a key is found there, whatever was taken out before
pub put_again : {X : Type 0} (b : Bool) (put : Option X) (before without : Option X) → without ≡ cond b None before
    → (after : Option X) → after ≡ cond b put without → after ≡ cond b put before
put_again true put before without taken after is = is
put_again false put before without taken after is = is ∙ taken
