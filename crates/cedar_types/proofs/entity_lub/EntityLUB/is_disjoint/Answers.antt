use Rattle.std.proofs.Common.{sym, ◌∙◌, refl}
use Rattle.std.proofs.lemmas.Bool.{false≢true}
use Rattle.std.proofs.lemmas.List.{take_all}
use Rattle.cedar_ast.proofs.PlainNames.{name_cmp-total}
use Rattle.cedar_ast.proofs.TreeLemmas.{drop-at}
use Rattle.cedar_name_map.proofs.RisingLemmas.{sought-Decides, sought-next}
use Rattle.cedar_types.proofs.UnionLemmas.{AreDisjoint-more, Contains-names}
use Rattle.cedar_types.proofs.entity_lub.EntityLUB.is_disjoint.Goals as goal
use Rattle.cedar_types.specs.Words.{lub_names, lub_types, name_cmp, type_name}

-- a type of both is against it
pub returns-then-is_there : goal.returns-then-is_there
returns-then-is_there c =
    let other = c.args.other.now in
    let ahead = rw (drop-at _ c.loop-ty.ty-index c.ty-item.result c.loop-ty-test.true c.ty-item.is) at c.loop-ty.invariant.1 in
    let there = sought-Decides type_name type_name name_cmp name_cmp-total (lub_types other) other.sorted c.loop-ty.at c.seek-place.result.0 c.ty-item.result _ ahead
    c.seek-place.ensures.passed c.seek-place.ensures.stays c.seek-place.result.1 c.seek-place.ensures.stands in (
      λ wrong. absurd (false≢true wrong),
      λ apart. absurd ((rw (← c.as_slice-ty-items.ensures) at apart)
          (type_name c.ty-item.result) (Contains-names _ c.loop-ty.ty-index c.ty-item.result c.loop-ty-test.true
          c.ty-item.is) (there.0 c.if-is_there.true)),
    )

-- past a type that the other lacks the rest decides
pub loop-ty-preserved : goal.loop-ty-preserved
loop-ty-preserved c =
    let other = c.args.other.now in
    let ahead = rw (drop-at _ c.loop-ty.ty-index c.ty-item.result c.loop-ty-test.true c.ty-item.is) at c.loop-ty.invariant.1 in
    let there = sought-Decides type_name type_name name_cmp name_cmp-total (lub_types other) other.sorted c.loop-ty.at c.seek-place.result.0 c.ty-item.result _ ahead
    c.seek-place.ensures.passed c.seek-place.ensures.stays c.seek-place.result.1 c.seek-place.ensures.stands in (
      AreDisjoint-more c.as_slice-ty-items.result.now (lub_names other) c.loop-ty.ty-index c.ty-item.result
          c.loop-ty-test.true c.ty-item.is c.loop-ty.invariant.0
          (λ among. false≢true (sym c.if-is_there.false ∙ there.1 among)),
      sought-next type_name type_name name_cmp name_cmp-total (lub_types other) other.sorted c.loop-ty.at c.seek-place.result.0 c.ty-item.result _ ahead
          c.seek-place.ensures.passed c.seek-place.ensures.stays,
    )

-- where none is left, no type is of both
pub returns : goal.returns
returns c = (
  λ _. rw (take_all c.loop-ty.ty-index c.as_slice-ty-items.result.now c.loop-ty-test.false
      ∙ c.as_slice-ty-items.ensures) at c.loop-ty.invariant.0,
  λ _. refl,
)
