use Rattle.std.proofs.Common.{◌≡◌, ℕ, ◌<◌, get_or}
use Rattle.cedar_graph.proofs.closing.gather_all.Given as goal
use Rattle.cedar_graph.specs.Gathered.{GathersMore}

abbrev pub invariant-loop-number : goal.invariant-loop-number
invariant-loop-number l = GathersMore l.mark (λ number. (k : ℕ) × (k < l.number-index) × (get_or l.numbers k 0 ≡ number))
    l.initial.marks.items l.initial.found.items l.marks.items l.found.items
