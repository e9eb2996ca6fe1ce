use Rattle.cedar_schema_ast.proofs.NestingLemmas.{WithinByRest}
use Rattle.cedar_schema_ast.proofs.json_schema.nesting.+nesting.Given as goal

abbrev pub invariant-record_is_within-loop-name : goal.invariant-record_is_within-loop-name
invariant-record_is_within-loop-name g l = WithinByRest g.row.N.Denot l.record_type l.levels l._name-iterator
