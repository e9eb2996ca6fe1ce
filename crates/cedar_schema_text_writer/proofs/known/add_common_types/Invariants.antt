use Rattle.std.proofs.Common.{map}
use Rattle.cedar_ast.specs.Words.{name_of}
use Rattle.cedar_name_resolution.proofs.SetLemmas.{AddedSoFar}
use Rattle.cedar_name_resolution.specs.Words.{namespace_name}
use Rattle.cedar_schema_text_writer.proofs.NamesGiven.{common_given}
use Rattle.cedar_schema_text_writer.proofs.known.add_common_types.Given as goal

abbrev pub invariant-loop-id : goal.invariant-loop-id
invariant-loop-id l =
    AddedSoFar (common_given (namespace_name l.namespace)) (map name_of l.initial.names.items) l.all.entries (map name_of l.names.items) l.id-iterator
