use Rattle.std.proofs.Common.{sym}
use Rattle.cedar_json.specs.DefinitionFormat.{written_fragment}
use Rattle.cedar_json_writer.proofs.WrittenTwice.{described_once}
use Rattle.cedar_schema_text_laws.proofs.theorems.what_was_read_stays_through_json.Goals as goal

pub returns : goal.returns
returns c = λ it other rewritten.
    sym (described_once rewritten.text (written_fragment it) (written_fragment other) (rewritten.is_written rewritten.is_read.is_short) rewritten.is_read)
