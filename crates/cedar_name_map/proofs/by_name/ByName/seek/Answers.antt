use Rattle.std.proofs.Common.{◌≡◌, refl, sym, ap, ◌∙◌}
use Rattle.std.specs.declared.cmp.Ordering.TheVariants.{Greater}
use Rattle.cedar_name_map.proofs.SearchLemmas.{text_at, stands_where_tied}
use Rattle.cedar_name_map.proofs.by_name.ByName.seek.Goals as goal
use Rattle.cedar_name_map.specs.Words.{text_cmp}

-- a name that ties stands there
pub returns-in-Equal-clause-stands : goal.returns-in-Equal-clause-stands
returns-in-Equal-clause-stands g c =
    let there = stands_where_tied _ c.args.name.now c.loop-at.at c.index-entries-at.result c.loop-at-test.true in
    let found = rw c.as_slice-entries.ensures.value at (there.0 (ap (λ bytes. text_cmp bytes c.args.name.now) (sym c.as_str.ensures.value) ∙ sym c.in-Equal.ensures)) in
    (λ _. found, λ _. refl)

-- one that is above doesn't
pub returns-in-Greater-clause-stands : goal.returns-in-Greater-clause-stands
returns-in-Greater-clause-stands g c =
    let all = c.as_slice-entries.result.now in
    let x = c.index-entries-at.result in
    let there = stands_where_tied all c.args.name.now c.loop-at.at x c.loop-at-test.true in
    let above : text_cmp (text_at all c.loop-at.at x) c.args.name.now ≡ Greater =
    ap (λ bytes. text_cmp bytes c.args.name.now) (sym c.as_str.ensures.value) ∙ sym c.in-Greater.ensures in
    (λ e. absurd cc, λ found. absurd (let equal = there.1 (rw (← c.as_slice-entries.ensures.value) at found) in cc))
