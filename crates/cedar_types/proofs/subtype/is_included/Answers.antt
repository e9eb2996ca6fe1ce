use Rattle.std.proofs.Common.{refl}
use Rattle.std.specs.Slice.Iter.{iter_rest}
use Rattle.cedar_ast.proofs.Inclusion.{Included-step, Included-head}
use Rattle.cedar_ast.proofs.PlainNames.{name_cmp-total}
use Rattle.cedar_name_map.proofs.RisingLemmas.{sought-Decides, sought-next}
use Rattle.cedar_types.proofs.UnionSteps.{Included-empty}
use Rattle.cedar_types.proofs.subtype.is_included.Goals as goal
use Rattle.cedar_types.specs.Words.{lub_names, lub_types, name_cmp, type_name}

-- a type that the upper union lacks is against it
pub returns-then-not-is_there : goal.returns-then-not-is_there
returns-then-not-is_there c =
    let upper = c.args.upper.now in
    let so_far = rw c.in-Some.ensures.steps at c.loop-ty.invariant in
    let there = sought-Decides type_name type_name name_cmp name_cmp-total (lub_types upper) upper.sorted c.loop-ty.at c.seek-place.result.0 c.in-Some.ty.now _ so_far.1
    c.seek-place.ensures.passed c.seek-place.ensures.stays c.seek-place.result.1 c.seek-place.ensures.stands in
    (λ wrong. absurd cc, λ all. absurd (let found = there.1 (Included-head _ _ _ (so_far.0.1 all)) in let none = c.if-not-is_there.true in cc))

-- past a type of both the rest decides
pub loop-ty-preserved : goal.loop-ty-preserved
loop-ty-preserved c =
    let upper = c.args.upper.now in
    let so_far = rw c.in-Some.ensures.steps at c.loop-ty.invariant in
    let there = sought-Decides type_name type_name name_cmp name_cmp-total (lub_types upper) upper.sorted c.loop-ty.at c.seek-place.result.0 c.in-Some.ty.now _ so_far.1
    c.seek-place.ensures.passed c.seek-place.ensures.stays c.seek-place.result.1 c.seek-place.ensures.stands in (
      Included-step _ _ _ so_far.0 (there.0 c.if-not-is_there.false),
      sought-next type_name type_name name_cmp name_cmp-total (lub_types upper) upper.sorted c.loop-ty.at c.seek-place.result.0 c.in-Some.ty.now _ so_far.1
          c.seek-place.ensures.passed c.seek-place.ensures.stays,
    )

-- where none is left, all are included
pub returns : goal.returns
returns c =
    let upper = lub_names c.args.upper.now in
    (λ _. c.loop-ty.invariant.0.0 (Included-empty (iter_rest c.loop-ty.ty-iterator) upper c.in-None.ensures.steps.0), λ _. refl)
