use Rattle.std.proofs.Common.{ap, length, sym, ◌≡◌, ◌∙◌}
use Rattle.std.proofs.lemmas.Iterator.{items_from_drains}
use Rattle.std.proofs.lemmas.Iterator.Adapters.{YieldsList-from_vec}
use Rattle.std.proofs.lemmas.List.{map-id}
use Rattle.std.proofs.lemmas.List.Sorted.{list_any-IsPermutation}
use Rattle.std.specs.List.{list_any}
use Rattle.std.specs.Ordering.{eq_by_cmp}
use Rattle.cedar_name_resolution.proofs.defs.name_lists.set_of.Goals as goal

-- what is collected are the items, last first, among which a search finds the same
pub returns : goal.returns
returns g c =
    let last_first = c.reverse.new.self.items in
    let ran = c.in_ok-from_iter.ensures.ran in
    let same : ran.1 ≡ last_first = sym (map-id ran.1)
    ∙ items_from_drains ran.1 ran.3 (YieldsList-from_vec last_first ran.2.0 (ran.0.rest.ok.0 ∙ ap length ran.2.0)) in (
      λ key. let is_key = eq_by_cmp g.K.Ord.cmp key in
          ran.4.0 key ∙ ap (list_any is_key) same
          ∙ sym (list_any-IsPermutation is_key c.args.items.items last_first c.reverse.ensures.permutation),
      ran.4.1,
    )
