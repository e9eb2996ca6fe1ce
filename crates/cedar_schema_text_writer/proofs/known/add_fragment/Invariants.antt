use Rattle.cedar_name_resolution.specs.Words.{listed_names}
use Rattle.cedar_schema_text_writer.proofs.NamesGiven.{NamesSoFar, definition_names}
use Rattle.cedar_schema_text_writer.proofs.known.add_fragment.Given as goal

abbrev pub invariant-loop-namespace : goal.invariant-loop-namespace
invariant-loop-namespace l =
    NamesSoFar definition_names (listed_names l.initial.lists) l.fragment.0.entries (listed_names l.lists) l.namespace-iterator
