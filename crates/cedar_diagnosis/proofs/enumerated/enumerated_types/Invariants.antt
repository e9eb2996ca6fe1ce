use Rattle.std.proofs.Common.{[], map, take}
use Rattle.cedar_ast.specs.Words.{type_name}
use Rattle.cedar_diagnosis.proofs.enumerated.enumerated_types.Given as goal
use Rattle.cedar_diagnosis.specs.Adding.{Adds, SomeGives}
use Rattle.cedar_diagnosis.specs.Finding.{IsEnumeratedName}
use Rattle.cedar_diagnosis.specs.Lent.{declaration_of}

abbrev pub invariant-loop-it : goal.invariant-loop-it
invariant-loop-it l = Adds (SomeGives IsEnumeratedName (map declaration_of (take l.it-index l.bag))) [] (map type_name l.types.keys)
