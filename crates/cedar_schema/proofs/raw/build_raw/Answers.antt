use Rattle.std.proofs.Common.{◌≡◌, [], ◌∷◌, ◌++◌, Err, IfOk, List, ap, arith, inl, inr, refl, subst, sym, ◌∙◌}
use Rattle.std.proofs.lemmas.List.{nil_from_length}
use Rattle.std.proofs.lemmas.Result.{err_from_is_err_and, IfErr-weaker, IfOk-weaker}
use Rattle.std.specs.List.{flat_map}
use Rattle.std.specs.Result.{result_map_both}
use Rattle.cedar_fragments.proofs.FragmentLemmas.{flat_map-each, flat_map-included, flat_map-same, refusal_included}
use Rattle.cedar_fragments.proofs.NamedOfDefinition.{named_among, none_named}
use Rattle.cedar_fragments.proofs.SoundLemmas.{sound_bag}
use Rattle.cedar_fragments.specs.Words.{IsSound, raw_common_names, raw_namespaces, written_fragment}
use Rattle.cedar_name_resolution.proofs.ExitLemmas.{exit_holds}
use Rattle.cedar_name_resolution.proofs.ListedSoFar.{ListedSoFar-more, ListedSoFar-none, listed_each, listed_same}
use Rattle.cedar_name_resolution.proofs.OneMore.{flat_one_more}
use Rattle.cedar_schema.proofs.AllYielded.{all_yielded}
use Rattle.cedar_schema.proofs.Mapped.{IfErr-unmapped}
use Rattle.cedar_schema.proofs.WrittenSoFar.{next_fragment}
use Rattle.cedar_schema.proofs.raw.build_raw.Goals as goal
use Rattle.cedar_schema.specs.Words.{Bag, DefinedNamespace, IsBuiltFrom, LocatedName, RawName, Shows, fault_of, parts_schema, raw_bag, raw_fragment, written_bag}
use Rattle.cedar_schema_ast.specs.Words.{raw_reference}
use Rattle.cedar_schema_laws.proofs.BuiltFrom.{built_from}

-- at first no fragment is taken over
pub loop-fragment-init : goal.loop-fragment-init
loop-fragment-init c = (
  [],
  ListedSoFar-none _ _ _ _ _ _ (sym c.into_iter-fragment-iterator.ensures.into_iter_gives.0) refl,
  refl,
  refl,
  c.in_ok-taken.ensures,
)

-- what is refused as it is taken over is a fault of the bag
pub returns-in_err-written-clause-built : goal.returns-in_err-written-clause-built
returns-in_err-written-clause-built c =
    let all = c.args.fragments.items in
    let given = c.args.extensions.now in
    let so_far = c.loop-fragment.invariant in
    let among = next_fragment all _ _ so_far.0 c.in-Some.fragment c.in-Some.ensures.steps.0 so_far.1 in
    let fault = refusal_included (raw_fragment c.in-Some.fragment) (raw_bag all) (flat_map-included raw_fragment all c.in-Some.fragment among) _
    c.in_err-written.ensures.fault in
    let refused = built_from (raw_bag all) given c.requires (Err (fault_of c.in_err-written.field-0.0))
    (elim fault [ inl memory ↦ inl memory | inr at_fault ↦ inr (at_fault.1 given) ]) tt tt in
    let p = err_from_is_err_and c.from_residual-in_err-written.result c.from_residual-in_err-written.ensures.1 in
    rw (p.1, p.2) refused

-- and names all actions with attributes of one definition
pub returns-in_err-written-clause-all_named : goal.returns-in_err-written-clause-all_named
returns-in_err-written-clause-all_named c =
    let all = c.args.fragments.items in
    let so_far = c.loop-fragment.invariant in
    let among = next_fragment all _ _ so_far.0 c.in-Some.fragment c.in-Some.ensures.steps.0 so_far.1 in
    exit_holds _ _ _ c.from_residual-in_err-written.ensures.1
    (named_among all c.in-Some.fragment among _ c.in_err-written.ensures.all_named)

-- one more keeps its declarations, names and locations
pub loop-fragment-preserved : goal.loop-fragment-preserved
loop-fragment-preserved c =
    let so_far = c.loop-fragment.invariant in
    let written = c.in_ok-written in (
      so_far.0 ++ written.written ∷ [],
      ListedSoFar-more _ _ _ _ _ _ so_far.0 _ c.in-Some.fragment written.written c.in-Some.ensures.steps.0 refl
          written.ensures.declarations written.ensures.sound so_far.1,
      flat_one_more _ _ so_far.0 _ c.loop-fragment.yielded written.written c.in-Some.fragment refl so_far.2
          written.ensures.common_types,
      flat_one_more _ _ so_far.0 _ c.loop-fragment.yielded written.written c.in-Some.fragment refl so_far.3
          written.ensures.namespaces,
      c.in_ok-taken-2.ensures so_far.0 so_far.4,
    )

-- what is taken over declares what is written
pub returns-clause-built : goal.returns-clause-built
returns-clause-built c =
    let so_far = c.loop-fragment.invariant in
    let none_left = nil_from_length _ (omega (arith, c.in-None.ensures.steps.0, c.loop-fragment.fragment-iterator.rest.ok.0)) in
    let same : written_bag RawName raw_reference so_far.0 ≡ raw_bag c.args.fragments.items =
    flat_map-same (written_fragment RawName raw_reference) raw_fragment _ _ (listed_same _ _ _ _ _ _ none_left so_far.1) in
    let P : Bag → Type 0 = λ bag. IsBuiltFrom bag c.args.extensions.now (result_map_both parts_schema fault_of c.build_collected.result) in
    subst P same (c.build_collected.ensures.built so_far.0 so_far.4)

-- it has no fault of a definition, so the build refuses no actions with attributes
pub returns-clause-all_named : goal.returns-clause-all_named
returns-clause-all_named c =
    let all = c.args.fragments.items in
    let so_far = c.loop-fragment.invariant in
    let none_left = nil_from_length _ (omega (arith, c.in-None.ensures.steps.0, c.loop-fragment.fragment-iterator.rest.ok.0)) in
    let same : written_bag RawName raw_reference so_far.0 ≡ raw_bag all =
    flat_map-same (written_fragment RawName raw_reference) raw_fragment _ _ (listed_same _ _ _ _ _ _ none_left so_far.1) in
    let P : Bag → Type 0 = λ bag. IsBuiltFrom bag c.args.extensions.now (result_map_both parts_schema fault_of c.build_collected.result) in
    let built = subst P same (c.build_collected.ensures.built so_far.0 so_far.4) in
    let no_fault = sound_bag (raw_bag all)
    (flat_map-each raw_fragment IsSound _ (listed_each _ _ _ _ _ _ none_left so_far.1)) in
    IfErr-weaker c.build_collected.result _ _
    (λ error. none_named all (raw_bag all) c.args.extensions.now no_fault (fault_of error))
    (IfErr-unmapped parts_schema fault_of c.build_collected.result _ built.fault)

-- and the common types and namespaces of what is written
pub returns-clause-located : goal.returns-clause-located
returns-clause-located c =
    let so_far = c.loop-fragment.invariant in
    let all = c.args.fragments.items in
    let begun = c.into_iter-fragment-iterator in
    let each = all_yielded begun.result c.loop-fragment.fragment-iterator c.next.new.self all c.loop-fragment.yielded
    begun.ensures.into_iter_gives.0 begun.result.rest.ok.0 c.loop-fragment.yielded_by c.in-None.ensures.steps in
    let P : List LocatedName × List DefinedNamespace → Type 0 = λ it. IfOk c.build_collected.result (λ parts. Shows it.0 it.1 parts.located) in
    subst P (λ i. ((so_far.2 ∙ ap (flat_map raw_common_names) each) i, (so_far.3 ∙ ap (flat_map raw_namespaces) each) i))
    (IfOk-weaker c.build_collected.result _ _ (λ parts shown. (shown so_far.0 so_far.4).shown) c.build_collected.ensures.located)
