use Rattle.std.proofs.Common.{◌≡◌, map, take}
use Rattle.cedar_schema_text.specs.Here.{entity_here, lent}
use Rattle.cedar_schema_text.specs.Meaning.{entities_in}
use Rattle.cedar_schema_text.proofs.declared.entities_in.Given as goal

abbrev pub invariant-loop-declaration : goal.invariant-loop-declaration
invariant-loop-declaration l =
    map entity_here l.all.items ≡ entities_in (map lent (take l.declaration-index l.declarations))
