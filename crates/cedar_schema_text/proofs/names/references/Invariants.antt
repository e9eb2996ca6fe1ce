use Rattle.std.proofs.Common.{map, take}
use Rattle.cedar_schema_grammar.specs.Plain.{path_of}
use Rattle.cedar_schema_text.proofs.SoFar.{ListedSoFar}
use Rattle.cedar_schema_text.specs.Faults.{name_faults}
use Rattle.cedar_schema_text.specs.Meaning.{name_meant}
use Rattle.cedar_schema_text.specs.Shown.{name_shown}
use Rattle.cedar_schema_text.proofs.names.references.Given as goal

abbrev pub invariant-loop-path : goal.invariant-loop-path
invariant-loop-path l =
    ListedSoFar name_faults name_meant name_shown (map path_of (take l.path-index l.paths)) l.names.items
