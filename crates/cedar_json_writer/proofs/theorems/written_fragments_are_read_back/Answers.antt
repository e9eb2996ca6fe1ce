use Rattle.cedar_json_writer.proofs.WrittenTwice.{read_back}
use Rattle.cedar_json_writer.proofs.theorems.written_fragments_are_read_back.Goals as goal

pub returns : goal.returns
returns c = read_back
