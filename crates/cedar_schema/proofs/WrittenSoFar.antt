-- Fragments that are taken over as they are written, one after another.
use Rattle.std.proofs.Common.{◌≡◌, List, ◌∷◌, ◌++◌, Contains, refl, arith, ap}
use Rattle.std.proofs.lemmas.List.Elements.{Contains-append_right}
use Rattle.std.specs.List.{AllByRecursion}
use Rattle.cedar_fragments.specs.Words.{IsSound, written_fragment}
use Rattle.cedar_name_resolution.proofs.ListedSoFar.{ListedSoFar}
use Rattle.cedar_schema.specs.Words.{Fragment, RawName, ValidatorSchemaFragment}
use Rattle.cedar_schema_ast.specs.Words.{raw_fragment, raw_reference}

-- some fragments have given others that declare the same, soundly, and more are left
abbrev pub WrittenSoFar : List (Fragment RawName) → List (ValidatorSchemaFragment RawName RawName) → List (Fragment RawName) → Type 0
WrittenSoFar all made left = ListedSoFar (AllByRecursion IsSound) raw_fragment (written_fragment RawName raw_reference) all made left

-- the next fragment is among all
pub next_fragment : (all left rest : List (Fragment RawName)) (made : List (ValidatorSchemaFragment RawName RawName)) (fragment : Fragment RawName)
    → left ≡ fragment ∷ rest → WrittenSoFar all made left → Contains all fragment
next_fragment all left rest made fragment is so_far =
    rw (so_far.split, ap (λ others. so_far.done ++ others) is)
    (Contains-append_right so_far.done (fragment ∷ rest) fragment (0, omega arith, refl))
