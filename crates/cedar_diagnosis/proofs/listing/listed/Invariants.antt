use Rattle.std.proofs.Common.{◌≡◌, take}
use Rattle.std.specs.List.{flat_map}
use Rattle.cedar_diagnosis.proofs.listing.listed.Given as goal
use Rattle.cedar_diagnosis.specs.Lent.{declarations_of}
use Rattle.cedar_schema_ast.specs.Words.{raw_fragment}

abbrev pub invariant-loop-fragment : goal.invariant-loop-fragment
invariant-loop-fragment l = declarations_of l.listed.items ≡ flat_map raw_fragment (take l.fragment-index l.fragments)
