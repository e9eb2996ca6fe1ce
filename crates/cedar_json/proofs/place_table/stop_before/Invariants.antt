use Rattle.std.proofs.Common.{◌≤◌, length}
use Rattle.cedar_json.proofs.place_table.stop_before.Given as goal

abbrev pub invariant-loop-stop : goal.invariant-loop-stop
invariant-loop-stop l = l.stop ≤ length l.text

abbrev pub decreases-loop-stop : goal.decreases-loop-stop
decreases-loop-stop l = l.stop
