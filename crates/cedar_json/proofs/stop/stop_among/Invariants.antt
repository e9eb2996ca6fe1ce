use Rattle.std.proofs.Common.{◌≡◌, ◌≤◌, length, vec_len}
use Rattle.cedar_json.proofs.stop.stop_among.Given as goal
use Rattle.cedar_json.specs.Nesting.{nests_too_deep}

abbrev pub invariant-loop-token : goal.invariant-loop-token
invariant-loop-token l = record {
  within : l.up_to ≤ l.end;
  same : nests_too_deep (vec_len l.nesting.open) l.reader ≡ nests_too_deep (vec_len l.fn.nesting.open) l.fn.reader;
}

abbrev pub decreases-loop-token : goal.decreases-loop-token
decreases-loop-token l = length l.reader
