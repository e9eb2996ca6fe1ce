use Rattle.std.proofs.Common.{◌≡◌, IfOk, List, map, arith, subst}
use Rattle.cedar_cycles.proofs.AtRest.{flags_right}
use Rattle.cedar_cycles.proofs.search.on_cycles.Goals as goal
use Rattle.cedar_cycles.specs.Search.{is_on_cycle}
use Rattle.cedar_cycles.specs.declared.search.Mark.{Mark}

pub returns-clause-flags : goal.returns-clause-flags
returns-clause-flags c =
    let search = c.loop-start.search in
    let targets = c.args.targets.now.items in
    let Right : List Mark → Type 0 = λ marks. IfOk c.flags.result (λ flags. flags.items ≡ map is_on_cycle marks) in
    flags_right c.flags.result targets search.marks.items search.path.items search.pending.items search.groups.items c.args.targets.now.len
    (subst Right c.deref.ensures.value c.flags.ensures) c.loop-start.invariant.under_way c.loop-start.invariant.at_rest
    (λ number within. c.loop-start.invariant.met number (omega (arith, within, c.loop-start-test.false, c.loop-start.auto.start-end, c.len-start-end.ensures)))
