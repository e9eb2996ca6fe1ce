use Rattle.std.proofs.Common.{◌≡◌, subst, ⊎_elim}
use Rattle.cedar_json_laws.proofs.Declared.{declares_alike}
use Rattle.cedar_json_laws.proofs.theorems.written_schemas_are_built_again.Goals as goal
use Rattle.cedar_json_laws.specs.Words.{Bag, Fragment, IsConvertedBack, IsRewritten, RawName, raw_fragment, schema_of, written_fragment}
use Rattle.cedar_json_writer.proofs.WrittenTwice.{described_once}
use Rattle.cedar_schema.proofs.SchemaEquality.{schemas-Same}
use Rattle.cedar_schema_laws.proofs.ComeBack.{declared_schemas_come_back}

-- what is read declares what was written
same_bag : (fragment read : Fragment RawName) → IsRewritten fragment read → raw_fragment fragment ≡ raw_fragment read
same_bag fragment read rewritten =
    declares_alike fragment read (described_once rewritten.text (written_fragment fragment) (written_fragment read)
    (rewritten.is_written rewritten.is_read.is_short) rewritten.is_read)

pub returns-clause-equal : goal.returns-clause-equal
returns-clause-equal c = λ bag extensions schema other fragment read fit places built writable written rewritten rebuilt.
    let again = subst (λ (each : Bag). IsConvertedBack (schema_of schema) each) (same_bag fragment read rewritten) written in
    let back = declared_schemas_come_back bag (raw_fragment read) extensions (schema_of schema) fit places built.well_formed built.declared
    writable again in
    (schemas-Same schema other).1 (rebuilt.only (schema_of schema) back.1)

pub returns-clause-refused : goal.returns-clause-refused
returns-clause-refused c = λ bag extensions schema fragment read fault fit places built writable written rewritten rebuilt.
    let again = subst (λ (each : Bag). IsConvertedBack (schema_of schema) each) (same_bag fragment read rewritten) written in
    let back = declared_schemas_come_back bag (raw_fragment read) extensions (schema_of schema) fit places built.well_formed built.declared
    writable again in
    ⊎_elim (λ memory. memory) (λ at_fault. absurd (back.0 (fault, at_fault))) rebuilt.fault
