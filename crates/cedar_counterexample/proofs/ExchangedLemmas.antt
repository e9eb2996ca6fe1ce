-- Values that are exchanged one after another.
use Rattle.std.proofs.Common.{◌≡◌, refl, ap, sym, ◌∙◌, List, [], ◌∷◌, ◌++◌, map, string_bytes, string_cmp, append_assoc, Global}
use Rattle.std.proofs.lemmas.List.{map-append, append-nil}
use Rattle.std.specs.BTreeMap.{insert_entry}
use Rattle.std.specs.List.{AllByRecursion}
use Rattle.std.specs.List.Sorted.{IsStrictlySortedBy}
use Rattle.std.specs.Map.{keys_of}
use Rattle.std.specs.declared.cmp.Ordering.TheVariants.{Greater}
use Rattle.std.specs.declared.string.String.{String}
use Rattle.cedar_ast.proofs.Ordered.{above_front, insert_entry-end}
use Rattle.cedar_ast.proofs.Texts.{text_cmp-total}
use Rattle.cedar_ast.proofs.TreeLemmas.{entry_names-entries}
use Rattle.cedar_ast.proofs.ValueCopies.{Pairs, plain_pairs}
use Rattle.cedar_ast.specs.Text.{text_cmp}
use Rattle.cedar_counterexample.specs.Words.{AreExchanged, EntriesAreExchanged, IsExchanged, PlainUid, RestrictedExpr, Text, entries_from, tree_of, trees_of}
use Rattle.cedar_entities.proofs.ExchangeLemmas.{names_exchanged}

module _ (R : PlainUid → PlainUid → Type 0) where
  -- values are exchanged so far: those that are done, others are left
  pub record ExchangedSoFar (all made left : List RestrictedExpr) : Type 0 where
    pub done : List RestrictedExpr
    pub split : all ≡ done ++ left
    pub others : AreExchanged R (trees_of done) (trees_of made)

  one_more : (done made : List RestrictedExpr) (value other : RestrictedExpr) → AreExchanged R (trees_of done) (trees_of made)
      → IsExchanged R (tree_of value) (tree_of other) → AreExchanged R (trees_of (done ++ value ∷ [])) (trees_of (made ++ other ∷ []))
  one_more [] [] value other are one = (one, tt)
  one_more [] (first ∷ rest) value other are one = elim are [ ]
  one_more (first ∷ rest) [] value other are one = elim are [ ]
  one_more (first ∷ rest) (made ∷ more) value other are one = (are.0, one_more rest more value other are.1 one)

  -- one more is exchanged
  pub exchanged_more : (all made rest : List RestrictedExpr) (value other : RestrictedExpr) → ExchangedSoFar all made (value ∷ rest)
      → IsExchanged R (tree_of value) (tree_of other) → ExchangedSoFar all (made ++ other ∷ []) rest
  exchanged_more all made rest value other so_far one = record {
    done = so_far.done ++ value ∷ [];
    split = so_far.split ∙ sym (append_assoc so_far.done (value ∷ []) rest);
    others = one_more so_far.done made value other so_far.others one;
  }

  -- where none is left, all are exchanged
  pub exchanged_all : (all made left : List RestrictedExpr) → left ≡ [] → ExchangedSoFar all made left → AreExchanged R (trees_of all) (trees_of made)
  exchanged_all all made left nothing so_far =
      let whole : all ≡ so_far.done = so_far.split ∙ (ap (λ rest. so_far.done ++ rest) nothing ∙ append-nil so_far.done) in
      rw whole so_far.others

  -- the values of a record are exchanged so far
  pub record PairsSoFar (all made left : Pairs) : Type 0 where
    pub done : Pairs
    pub split : all ≡ done ++ left
    pub others : EntriesAreExchanged R (entries_from (plain_pairs done)) (entries_from (plain_pairs made))

  pair_more : (done made : Pairs) (key copied : String Global) (value other : RestrictedExpr)
      → EntriesAreExchanged R (entries_from (plain_pairs done)) (entries_from (plain_pairs made)) → string_bytes copied ≡ string_bytes key
      → IsExchanged R (tree_of value) (tree_of other)
      → EntriesAreExchanged R (entries_from (plain_pairs (done ++ (key, value) ∷ []))) (entries_from (plain_pairs (made ++ (copied, other) ∷ [])))
  pair_more [] [] key copied value other are named one = (named, one, tt)
  pair_more [] (first ∷ rest) key copied value other are named one = elim are [ ]
  pair_more (first ∷ rest) [] key copied value other are named one = elim are [ ]
  pair_more (first ∷ rest) (made ∷ more) key copied value other are named one =
      (are.0, are.1, pair_more rest more key copied value other are.2 named one)

  -- a key above the names of all others is above their keys
  keys_below : (key : String Global) (name : Text) (pairs : Pairs) → string_bytes key ≡ name
      → AllByRecursion (λ other. text_cmp name other ≡ Greater) (map (λ pair. string_bytes pair.0) pairs)
      → AllByRecursion (λ other. string_cmp key other ≡ Greater) (keys_of pairs)
  keys_below key name [] is above = tt
  keys_below key name (pair ∷ rest) is above = (rw is above.0, keys_below key name rest is above.1)

  -- one more is exchanged, and goes to the end
  pub pairs_more : (all made left rest : Pairs) (key copied : String Global) (value other : RestrictedExpr)
      → IsStrictlySortedBy text_cmp (map (λ pair. string_bytes pair.0) all) → left ≡ (key, value) ∷ rest
      → string_bytes copied ≡ string_bytes key → IsExchanged R (tree_of value) (tree_of other) → PairsSoFar all made left
      → PairsSoFar all (insert_entry string_cmp made copied other) rest
  pairs_more all made left rest key copied value other sorted_by_name is named one so_far =
      let texts : Pairs → List Text = λ pairs. map (λ pair. string_bytes pair.0) pairs in
      let whole : texts all ≡ texts so_far.done ++ string_bytes key ∷ texts rest =
      ap texts (so_far.split ∙ ap (λ others. so_far.done ++ others) is) ∙ map-append (λ pair. string_bytes pair.0) so_far.done ((key, value) ∷ rest) in
      let before : texts so_far.done ≡ texts made =
      sym (entry_names-entries so_far.done)
      ∙ (sym (names_exchanged R (entries_from (plain_pairs so_far.done)) (entries_from (plain_pairs made)) so_far.others)
      ∙ entry_names-entries made) in
      let above = rw before at (above_front text_cmp-total (texts so_far.done) (string_bytes key) (texts rest) (rw whole at sorted_by_name)) in
      let at_end : insert_entry string_cmp made copied other ≡ made ++ (copied, other) ∷ [] =
      insert_entry-end string_cmp made copied other (keys_below copied (string_bytes key) made named above) in
      rw at_end (record {
        done = so_far.done ++ (key, value) ∷ [];
        split = so_far.split ∙ (ap (λ others. so_far.done ++ others) is ∙ sym (append_assoc so_far.done ((key, value) ∷ []) rest));
        others = pair_more so_far.done made key copied value other so_far.others named one;
      })

  -- where none is left, all are exchanged
  pub pairs_all : (all made left : Pairs) → left ≡ [] → PairsSoFar all made left
      → EntriesAreExchanged R (entries_from (plain_pairs all)) (entries_from (plain_pairs made))
  pairs_all all made left nothing so_far =
      let whole : all ≡ so_far.done = so_far.split ∙ (ap (λ rest. so_far.done ++ rest) nothing ∙ append-nil so_far.done) in
      rw whole so_far.others
