use Rattle.std.proofs.Common.{◌≡◌, map, take}
use Rattle.cedar_schema_text.specs.Here.{common_here, lent}
use Rattle.cedar_schema_text.specs.Meaning.{commons_in}
use Rattle.cedar_schema_text.proofs.declared.commons_in.Given as goal

abbrev pub invariant-loop-declaration : goal.invariant-loop-declaration
invariant-loop-declaration l =
    map common_here l.all.items ≡ commons_in (map lent (take l.declaration-index l.declarations))
