use Rattle.std.proofs.Common.{◌≡◌, map, take}
use Rattle.cedar_schema_text.specs.Here.{action_here, lent}
use Rattle.cedar_schema_text.specs.Meaning.{actions_in}
use Rattle.cedar_schema_text.proofs.declared.actions_in.Given as goal

abbrev pub invariant-loop-declaration : goal.invariant-loop-declaration
invariant-loop-declaration l =
    map action_here l.all.items ≡ actions_in (map lent (take l.declaration-index l.declarations))
