use Rattle.std.proofs.Common.{◌≡◌, List}
use Rattle.std.specs.List.{flat_map}
use Rattle.std.specs.Vec.Iter.{into_iter_items}
use Rattle.cedar_fragments.specs.Words.{fragment_common_names, named_namespaces, raw_common_names, raw_namespaces}
use Rattle.cedar_schema.proofs.WrittenSoFar.{WrittenSoFar}
use Rattle.cedar_schema.proofs.raw.build_raw.Given as goal
use Rattle.cedar_schema.specs.Words.{AreCollectedFragments, RawName, ValidatorSchemaFragment}
use Rattle.cedar_schema_ast.specs.Words.{raw_reference}

abbrev pub invariant-loop-fragment : goal.invariant-loop-fragment
invariant-loop-fragment l =
    (made : List (ValidatorSchemaFragment RawName RawName)) × WrittenSoFar l.fn.fragments.items made (into_iter_items l.fragment-iterator)
    × (flat_map (fragment_common_names RawName RawName) made ≡ flat_map raw_common_names l.yielded)
    × (flat_map (named_namespaces RawName RawName) made ≡ flat_map raw_namespaces l.yielded)
    × AreCollectedFragments RawName raw_reference made l.taken
