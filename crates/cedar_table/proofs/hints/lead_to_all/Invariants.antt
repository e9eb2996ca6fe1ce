use Rattle.std.proofs.Common.{◌<◌, ℕ, IfSome, slice_get}
use Rattle.cedar_table.proofs.hints.lead_to_all.Given as goal
use Rattle.cedar_table.specs.Hints.{HintLeadsTo, hash_by}

abbrev pub invariant-loop-place : goal.invariant-loop-place
invariant-loop-place g l = (place : ℕ) → place < l.place
    → IfSome (slice_get l.keys place) (λ key. HintLeadsTo l.rows (hash_by l.begun (g.K.QuickHash.quick_input key)) place)
