use Rattle.std.proofs.Common.{[]}
use Rattle.cedar_schema.proofs.SchemaEquality.{schemas-Same}
use Rattle.cedar_schema_text_laws.proofs.FormsDeclared.{form_is_declared}
use Rattle.cedar_schema_text_laws.specs.Words.{first_beside, schema_of}
use Rattle.cedar_schema_text_meaning.proofs.AnsweredAlike.{come_back_through_text}
use Rattle.cedar_schema_text_laws.proofs.theorems.written_schemas_are_built_again.Goals as goal

pub returns-clause-equal : goal.returns-clause-equal
returns-clause-equal c = λ bag extensions schema other fragment read fit known places built convertible converted writable form rebuilt.
    (schemas-Same schema other).1 (come_back_through_text bag extensions (schema_of schema) fragment read _ fit known places built convertible converted
    ([], λ item. (λ among. among, λ among. among), writable)
    ([], λ item. (λ among. among, λ among. among), form_is_declared (first_beside fragment []) fragment read form) rebuilt)

pub returns-clause-refused : goal.returns-clause-refused
returns-clause-refused c = λ bag extensions schema fragment read fault fit known places built convertible converted writable form rebuilt.
    come_back_through_text bag extensions (schema_of schema) fragment read _ fit known places built convertible converted
    ([], λ item. (λ among. among, λ among. among), writable)
    ([], λ item. (λ among. among, λ among. among), form_is_declared (first_beside fragment []) fragment read form) rebuilt
