use Rattle.std.proofs.Common.{◌<◌, ℕ}
use Rattle.cedar_table.proofs.hints.place_hinted.Given as goal
use Rattle.cedar_table.specs.Hints.{IsPassed, RowIs}

abbrev pub invariant-loop-step : goal.invariant-loop-step
invariant-loop-step l = (earlier : ℕ) → earlier < l.step → RowIs l.rows l.hash earlier (IsPassed l.hash)
