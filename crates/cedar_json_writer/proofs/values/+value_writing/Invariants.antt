use Rattle.std.proofs.Common.{drop}
use Rattle.cedar_ast.specs.RestrictedExpr.{tree_of}
use Rattle.cedar_json_writer.proofs.WritingLemmas.{SoFar}
use Rattle.cedar_json_writer.proofs.WrittenValues.{ValuesSoFar, pairs_shape}
use Rattle.cedar_json_writer.proofs.values.+value_writing.Given as goal

abbrev pub invariant-write_values-loop-value : goal.invariant-write_values-loop-value
invariant-write_values-loop-value l = ValuesSoFar l.initial.out l.out l.value-items (drop l.value-index l.value-items)

abbrev pub invariant-write_record_value-loop-name : goal.invariant-write_record_value-loop-name
invariant-write_record_value-loop-name l = SoFar (pairs_shape tree_of) l.initial.out l.out l.values.entries l.name-iterator
