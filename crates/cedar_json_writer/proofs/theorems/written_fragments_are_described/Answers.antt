use Rattle.cedar_json_writer.proofs.FragmentReadBack.{fragment_back}
use Rattle.cedar_json_writer.proofs.WrittenOrder.{both_none}
use Rattle.cedar_json_writer.proofs.theorems.written_fragments_are_described.Goals as goal
use Rattle.cedar_json_writer.specs.Flaws.{nesting_flaws, parts_flaws}

pub returns : goal.returns
returns c it sound writable = fragment_back it sound (both_none (parts_flaws it) (nesting_flaws it) writable).0
