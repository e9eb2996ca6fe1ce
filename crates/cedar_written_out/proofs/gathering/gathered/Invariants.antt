use Rattle.std.proofs.Common.{◌≡◌, List, map, take}
use Rattle.cedar_fragments.specs.Words.{written_fragment}
use Rattle.cedar_fragments.specs.declared.namespace.fragment.ValidatorSchemaFragment.{ValidatorSchemaFragment}
use Rattle.cedar_written_out.proofs.gathering.gathered.Given as goal
use Rattle.cedar_written_out.specs.Words.{AreCollectedDeclarations, RawName, raw_fragment, raw_reference}

abbrev pub invariant-loop-fragment : goal.invariant-loop-fragment
invariant-loop-fragment l =
    (made : List (ValidatorSchemaFragment RawName RawName))
    × (map (written_fragment RawName raw_reference) made ≡ map raw_fragment (take l.fragment-index l.fragments))
    × AreCollectedDeclarations RawName raw_reference made l.gathered
