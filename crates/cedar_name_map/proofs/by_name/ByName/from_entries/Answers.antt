use Rattle.std.proofs.Common.{rules, ap, sym, subst, ◌∙◌, string_bytes}
use Rattle.std.proofs.lemmas.Fn.{dedup_same}
use Rattle.std.proofs.lemmas.List.Sorted.{answers_always, ranks_by}
use Rattle.cedar_ast.proofs.Texts.{text_cmp-total}
use Rattle.cedar_name_map.proofs.MadeLemmas.{same_text, text_below, AreSortedByName-distinct, value_at-distinct, value_at-sorted, value_at-reverse}
use Rattle.cedar_name_map.proofs.by_name.ByName.from_entries.Goals as goal
use Rattle.cedar_name_map.specs.ByName.{AreSortedByName, value_at}

pub invariant_of-result : goal.invariant_of-result
invariant_of-result g c =
    let sorted = c.in_ok-sort_by.ensures.sorted text_below (ranks_by text_cmp-total (λ pair. string_bytes pair.0))
    (answers_always _ _ _ (λ f a r f' called. search rules)) in
    let distinct = dedup_same _ same_text _ (λ x y b f' x' y' called. search rules) _ _ c.dedup_by.ensures.filtered in
    record { sorted_by_name = subst AreSortedByName (sym distinct) (AreSortedByName-distinct _ sorted) }

pub returns : goal.returns
returns g c name =
    let stable = c.in_ok-sort_by.ensures.stable text_below (ranks_by text_cmp-total (λ pair. string_bytes pair.0))
    (answers_always _ _ _ (λ f a r f' called. search rules)) in
    let distinct = dedup_same _ same_text _ (λ x y b f' x' y' called. search rules) _ _ c.dedup_by.ensures.filtered in
    ap (value_at name) distinct
    ∙ (value_at-distinct name _
    ∙ (value_at-sorted name _ _ stable
    ∙ (ap (value_at name) c.reverse.ensures.items ∙ value_at-reverse name c.args.entries.items)))
