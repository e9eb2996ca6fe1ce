use Rattle.std.proofs.Common.{◌≡◌, [], ◌∷◌, ◌++◌, map, ap, refl, subst, ◌∙◌}
use Rattle.std.proofs.lemmas.List.{take_all}
use Rattle.cedar_fragments.proofs.DeclaredNames.{written_names_are_declared}
use Rattle.cedar_fragments.proofs.FragmentLemmas.{flat_map-same}
use Rattle.cedar_fragments.specs.Words.{declared_names, written_bag, written_fragment}
use Rattle.cedar_name_resolution.proofs.ExitLemmas.{exit_holds}
use Rattle.cedar_name_resolution.proofs.NamesDefined.{just_declared}
use Rattle.cedar_name_resolution.specs.Words.{listed_names}
use Rattle.cedar_written_out.proofs.CopiedFragments.{copied_fragment}
use Rattle.cedar_written_out.proofs.GatheredLemmas.{among_all, fault_of_copy, maps_more}
use Rattle.cedar_written_out.proofs.gathering.gathered.Goals as goal
use Rattle.cedar_written_out.specs.Words.{Bag, IsGathered, RawName, raw_bag, raw_fragment, raw_reference}

-- at first no fragment is taken over
pub loop-fragment-init : goal.loop-fragment-init
loop-fragment-init c = ([], refl, c.in_ok-gathered.ensures)

-- one more declares what its copy does
pub loop-fragment-preserved : goal.loop-fragment-preserved
loop-fragment-preserved c =
    let so_far = c.loop-fragment.invariant in
    let written = c.in_ok-written in (
      so_far.0 ++ written.written ∷ [],
      maps_more so_far.0 c.args.fragments.now c.loop-fragment.fragment-index written.written c.fragment-item.result
          c.loop-fragment-test.true c.fragment-item.is so_far.1
          (written.ensures.declarations ∙ copied_fragment c.fragment-item.result c.in_ok-clone.field-0 c.in_ok-clone.ensures),
      c.in_ok-gathered-2.ensures so_far.0 so_far.2,
    )

-- what is refused as it is taken over is a fault of the bag
pub returns-in_err-written-clause-fault : goal.returns-in_err-written-clause-fault
returns-in_err-written-clause-fault c =
    exit_holds _ _ _ c.from_residual-in_err-written.ensures.1
    (fault_of_copy c.args.fragments.now c.fragment-item.result c.in_ok-clone.field-0 _
    (among_all c.args.fragments.now c.loop-fragment.fragment-index c.fragment-item.result c.loop-fragment-test.true c.fragment-item.is)
    (copied_fragment c.fragment-item.result c.in_ok-clone.field-0 c.in_ok-clone.ensures) c.in_err-written.ensures.fault)

-- what is gathered is what all declare
pub returns-clause-gathered : goal.returns-clause-gathered
returns-clause-gathered c =
    let so_far = c.loop-fragment.invariant in
    let all = c.args.fragments.now in
    let same : written_bag RawName raw_reference so_far.0 ≡ raw_bag all =
    flat_map-same (written_fragment RawName raw_reference) raw_fragment so_far.0 all
    (so_far.1 ∙ ap (map raw_fragment) (take_all c.loop-fragment.fragment-index all c.loop-fragment-test.false)) in
    let P : Bag → Type 0 = λ bag. IsGathered bag c.loop-fragment.gathered in
    subst P same (record {
      names = just_declared (listed_names c.loop-fragment.gathered.names) (declared_names RawName RawName so_far.0)
          (written_bag RawName raw_reference so_far.0) so_far.2.names (written_names_are_declared RawName raw_reference so_far.0);
      declarations = so_far.2.declarations;
    })
