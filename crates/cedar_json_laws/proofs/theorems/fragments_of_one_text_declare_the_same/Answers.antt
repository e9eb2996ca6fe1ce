use Rattle.cedar_json.specs.DefinitionFormat.{written_fragment}
use Rattle.cedar_json_laws.proofs.Declared.{declares_alike}
use Rattle.cedar_json_laws.proofs.theorems.fragments_of_one_text_declare_the_same.Goals as goal
use Rattle.cedar_json_writer.proofs.WrittenTwice.{described_once}

pub returns : goal.returns
returns c = λ text fragment other one two.
    declares_alike fragment other (described_once text (written_fragment fragment) (written_fragment other) one two)
