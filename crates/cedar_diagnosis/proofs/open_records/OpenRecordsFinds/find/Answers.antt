use Rattle.std.proofs.Common.{◌≡◌, map, refl}
use Rattle.cedar_diagnosis.proofs.AddingLemmas.{adds_found}
use Rattle.cedar_diagnosis.proofs.open_records.OpenRecordsFinds.find.Goals as goal
use Rattle.cedar_diagnosis.specs.Lent.{declaration_of}
use Rattle.cedar_diagnosis.specs.Mentioned.{HasOpenIn}
use Rattle.cedar_schema_semantics.specs.Words.{Fault, open_record}

-- an open record is found
pub returns-then-mentions : goal.returns-then-mentions
returns-then-mentions c =
    let Finds : Fault → Type 0 = λ fault. HasOpenIn (declaration_of c.args.it.now).body × (open_record ≡ fault) in
    adds_found c.add_key.result Finds (map (λ _. open_record) c.args.keys.now.keys) (map (λ _. open_record) c.add_key.new.keys.keys) open_record
    (c.in_ok-mentions.ensures.open_record.0 c.if-mentions.true, refl) (λ fault found. found.1) c.add_key.ensures
