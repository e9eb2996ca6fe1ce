use Rattle.std.proofs.Common.{map, take}
use Rattle.cedar_ast.specs.Words.{type_name}
use Rattle.cedar_diagnosis.proofs.enumerated.EnumeratedBelow.add_all.Given as goal
use Rattle.cedar_diagnosis.specs.Adding.{Adds, SomeGives}
use Rattle.cedar_diagnosis.specs.Finding.{IsBelow}
use Rattle.cedar_diagnosis.specs.KeyTies.{below_told}
use Rattle.cedar_diagnosis.specs.Mentioned.{reference_of}
use Rattle.cedar_name_resolution.specs.Words.{held_names}

abbrev pub invariant-loop-it : goal.invariant-loop-it
invariant-loop-it l =
    Adds (SomeGives (IsBelow (held_names l.self.defs.now) (type_name l.lower)) (map reference_of (take l.it-index l.references)))
    (map below_told l.fn.keys.keys) (map below_told l.keys.keys)
