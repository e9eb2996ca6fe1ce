use Rattle.std.proofs.Common.{◌≡◌, map, take}
use Rattle.cedar_schema_grammar.specs.Plain.{declaration_of}
use Rattle.cedar_schema_text.specs.Here.{lent}
use Rattle.cedar_schema_text.proofs.meaning.each.Given as goal

abbrev pub invariant-loop-declaration : goal.invariant-loop-declaration
invariant-loop-declaration l =
    map lent l.all.items ≡ map declaration_of (take l.declaration-index l.declarations)
