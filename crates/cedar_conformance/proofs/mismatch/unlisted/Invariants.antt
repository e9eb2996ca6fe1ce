use Rattle.std.proofs.Common.{map, string_bytes}
use Rattle.cedar_conformance.proofs.NameLemmas.{NamesSoFar}
use Rattle.cedar_conformance.proofs.mismatch.unlisted.Given as goal
use Rattle.cedar_conformance.specs.Mismatch.{key_texts}
use Rattle.cedar_types.specs.Words.{field_names, fields_of}

abbrev pub invariant-loop-name : goal.invariant-loop-name
invariant-loop-name g l =
    NamesSoFar (field_names (fields_of l.fn.attrs)) (key_texts l.fn.values) (map string_bytes l.name-iterator)
