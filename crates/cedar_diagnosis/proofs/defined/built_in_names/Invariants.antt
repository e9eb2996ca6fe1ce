use Rattle.std.proofs.Common.{[], map, take}
use Rattle.cedar_ast.specs.Words.{id_text, name_of}
use Rattle.cedar_diagnosis.proofs.defined.built_in_names.Given as goal
use Rattle.cedar_diagnosis.specs.Adding.{Adds, SomeGives}
use Rattle.cedar_diagnosis.specs.BuiltIn.{IsBuiltInName}
use Rattle.cedar_name_resolution.specs.Words.{held_names, type_names}

abbrev pub invariant-loop-word : goal.invariant-loop-word
invariant-loop-word l =
    Adds (SomeGives (IsBuiltInName (type_names (held_names l.declared))) (map id_text (take l.word-index l.words))) [] (map name_of l.names.items)
