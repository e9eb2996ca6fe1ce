use Rattle.std.proofs.Common.{◌-◌, ◌≤◌, length}
use Rattle.cedar_ast.specs.Text.{text_cmp}
use Rattle.cedar_name_map.proofs.RisingLemmas.{Passed}
use Rattle.cedar_name_map.proofs.SearchLemmas.{text_of}
use Rattle.cedar_name_map.proofs.by_name.ByName.seek.Given as goal

abbrev pub invariant-loop-at : goal.invariant-loop-at
invariant-loop-at g l =
    Passed text_of text_cmp l.entries l.name l.fn.from l.at × (l.fn.from ≤ length l.entries → l.at ≤ length l.entries)

abbrev pub decreases-loop-at : goal.decreases-loop-at
decreases-loop-at g l = length l.entries - l.at
