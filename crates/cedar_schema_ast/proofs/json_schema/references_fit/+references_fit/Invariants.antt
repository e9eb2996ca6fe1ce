use Rattle.cedar_schema_ast.proofs.FitLemmas.{FitByRest}
use Rattle.cedar_schema_ast.proofs.json_schema.references_fit.+references_fit.Given as goal

abbrev pub invariant-record_references_fit-loop-name :
    goal.invariant-record_references_fit-loop-name
invariant-record_references_fit-loop-name l = FitByRest l.record_type l._name-iterator
