use Rattle.std.proofs.Common.{◌≡◌, ◌<◌, ◌-◌, List, length, take, get_or, arith, subst}
use Rattle.cedar_cycles.proofs.Reading.{last_stands, pending_by_last}
use Rattle.cedar_cycles.proofs.search.visit.Goals as goal
use Rattle.cedar_cycles.specs.declared.search.Group.{Group}

pub follow-requires-clause-of_last : goal.follow-requires-clause-of_last
follow-requires-clause-of_last c = λ group among.
    let groups = c.loop-group.search.groups.items in
    let last = c.in-Some.group.now in
    let at : (0 < length groups) × (last ≡ get_or groups (length groups - 1) last) =
    let At : List Group → Type 0 = λ each. (0 < length each) × (last ≡ get_or each (length each - 1) last) in
    subst At c.deref.ensures.value (c.in-Some.ensures.item.3.0, c.in-Some.ensures.item.1) in
    let le = pending_by_last groups (take (length groups - 1) groups) last group c.loop-group.invariant.under_way.parts.in_order
    (last_stands groups last at.0 at.1) among in
    omega (arith, le, c.if-len-group.true, c.len.ensures)
