use Rattle.std.proofs.Common.{◌≡◌, [], drop}
use Rattle.cedar_json.proofs.ExtensionLemmas.{shown}
use Rattle.cedar_json.proofs.extensions.functions_of.Given as goal
use Rattle.cedar_json.specs.ExtensionRows.{AreRows, inserted}

abbrev pub invariant-loop-row : goal.invariant-loop-row
invariant-loop-row l = record {
  made : inserted (drop l.row-index l.rows) (shown l.all.entries) ≡ inserted l.rows [];
  left : AreRows (drop l.row-index l.rows);
}
