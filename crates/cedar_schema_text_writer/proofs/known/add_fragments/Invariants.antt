use Rattle.std.proofs.Common.{take}
use Rattle.cedar_name_resolution.specs.Words.{HoldsAlso, listed_names, names_together}
use Rattle.cedar_schema_text_writer.proofs.NamesGiven.{fragment_names}
use Rattle.cedar_schema_text_writer.proofs.known.add_fragments.Given as goal

abbrev pub invariant-loop-fragment : goal.invariant-loop-fragment
invariant-loop-fragment l =
    HoldsAlso (listed_names l.lists) (listed_names l.initial.lists) (names_together fragment_names (take l.fragment-index l.fragments))
