use Rattle.std.proofs.Common.{◌≡◌}
use Rattle.cedar_name_resolution.proofs.ResolveLemmas.{first_at}
use Rattle.cedar_name_resolution.proofs.defs.resolve.first_defined.Goals as goal
use Rattle.cedar_name_resolution.specs.Words.{IsDefined, PlainName, held_names, name_of}

pub returns-in-Some-2 : goal.returns-in-Some-2
returns-in-Some-2 c =
    let Defines : PlainName → Type 0 = IsDefined (held_names c.args.all_defs.now) c.args.kind in
    let head = c.args.names.now.head in
    let item = c.name-item.result in
    let none : ¬ Defines (name_of head) = rw c.in_default.is at c.in_ok-name.ensures in
    let one : (name_of c.in-Some-2.name ≡ name_of item) × Defines (name_of item) = rw c.in-Some-2.is at c.in_ok-name-2.ensures in
    let first = first_at Defines name_of head c.deref-name-items.result.now c.loop-name.name-index item c.loop-name-test.true c.name-item.is
    none c.loop-name.invariant one.1 in
    rw one.0 (rw c.deref-name-items.ensures.value at first)
