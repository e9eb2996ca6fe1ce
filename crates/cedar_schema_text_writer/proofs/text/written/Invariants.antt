use Rattle.std.proofs.Common.{false}
use Rattle.cedar_name_resolution.specs.Words.{held_names}
use Rattle.cedar_schema_text_writer.proofs.Written.{Leaves}
use Rattle.cedar_schema_text_writer.specs.Layout.{namespaces_pieces}
use Rattle.cedar_schema_text_writer.specs.Names.{first_standing}
use Rattle.cedar_schema_text_writer.proofs.text.written.Given as goal

abbrev pub invariant-loop-namespace : goal.invariant-loop-namespace
invariant-loop-namespace l =
    let pieces = namespaces_pieces (first_standing (held_names l.known)) in
    Leaves l.initial.out l.out (pieces false l.fragment.0.entries) (pieces l.begun l.namespace-iterator)
