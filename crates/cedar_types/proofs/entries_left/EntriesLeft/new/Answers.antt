use Rattle.std.proofs.Common.{◌∙◌}
use Rattle.cedar_types.proofs.EntriesLeftSteps.{AreSortedByName-keys, entries_left-next}
use Rattle.cedar_types.proofs.entries_left.EntriesLeft.new.Goals as goal

pub returns-clause-ascend : goal.returns-clause-ascend
returns-clause-ascend c =
    let next = entries_left-next c.iter-rest.result c.next-first.result c.next-first.new.self c.next-first.ensures.steps in
    rw (next ∙ c.iter-rest.ensures.rest) (AreSortedByName-keys c.args.values.now.entries c.iter-rest.ensures.ordered)
