use Rattle.std.proofs.Common.{refl, ap, sym, ◌∙◌, string_bytes, map}
use Rattle.std.proofs.lemmas.Simd.{map-map}
use Rattle.std.specs.String.{string_cmp}
use Rattle.cedar_ast.proofs.Inclusion.{Included-step, Included-head}
use Rattle.cedar_ast.proofs.Ordered.{IsStrictlySortedBy-map}
use Rattle.cedar_ast.proofs.Texts.{text_cmp-total}
use Rattle.cedar_ast.proofs.TreeLemmas.{entry_names-entries}
use Rattle.cedar_name_map.proofs.RisingLemmas.{Ahead-first}
use Rattle.cedar_name_map.proofs.SearchLemmas.{text_of}
use Rattle.cedar_types.proofs.SubtypeSteps.{IsAt-held, Sought-held, sought-name, sought-on}
use Rattle.cedar_types.proofs.member.all_listed.Goals as goal
use Rattle.cedar_types.specs.Words.{field_names, fields_of, pairs_of, text_cmp}

-- at first the names are those of the entries
pub loop-name-init : goal.loop-name-init
loop-name-init c =
    let listed = field_names (fields_of c.args.attrs.now) in
    let keys = c.into_iter-name-iterator.ensures.into_iter_gives ∙ c.keys-name-items.ensures.rest in (
      rw (← (entry_names-entries c.args.values.now.entries
          ∙ (sym (map-map string_bytes (λ entry. entry.0) c.args.values.now.entries) ∙ ap (map string_bytes) (sym keys)))) (λ h. h, λ h. h),
      Ahead-first text_of string_bytes text_cmp text_cmp-total (pairs_of c.args.attrs.now) c.into_iter-name-iterator.result
          (rw keys (IsStrictlySortedBy-map string_cmp text_cmp string_bytes (λ a b. refl) _ c.keys-name-items.ensures.ordered)),
    )

-- a name that isn't listed fails
pub returns-then-not-is_there : goal.returns-then-not-is_there
returns-then-not-is_there c =
    let attrs = c.args.attrs.now in
    let name = c.in-Some.name.now in
    let listed = field_names (fields_of attrs) in
    let so_far = rw c.in-Some.ensures.steps at c.loop-name.invariant in
    let sought = Sought-held attrs c.loop-name.at c.seek-place.result.0 c.deref.result.now _ (string_bytes name)
    c.deref.ensures c.deref-in-loop-name.ensures c.seek-place.ensures.passed c.seek-place.ensures.stays in
    let here = IsAt-held attrs c.seek-place.result.0 c.deref.result.now _ (string_bytes name) c.seek-place.result.1
    c.deref.ensures c.deref-in-loop-name.ensures c.seek-place.ensures.stands in
    let there = sought-name attrs c.loop-name.at c.seek-place.result.0 name _ so_far.1 sought c.seek-place.result.1 here in (
      λ wrong. absurd cc,
      λ all. absurd (let found = there.1 (Included-head _ _ _ (so_far.0.1 all)) in let none = c.if-not-is_there.true in cc),
    )

-- past a name that is listed the rest decides
pub loop-name-preserved : goal.loop-name-preserved
loop-name-preserved c =
    let attrs = c.args.attrs.now in
    let name = c.in-Some.name.now in
    let listed = field_names (fields_of attrs) in
    let so_far = rw c.in-Some.ensures.steps at c.loop-name.invariant in
    let sought = Sought-held attrs c.loop-name.at c.seek-place.result.0 c.deref.result.now _ (string_bytes name)
    c.deref.ensures c.deref-in-loop-name.ensures c.seek-place.ensures.passed c.seek-place.ensures.stays in
    let here = IsAt-held attrs c.seek-place.result.0 c.deref.result.now _ (string_bytes name) c.seek-place.result.1
    c.deref.ensures c.deref-in-loop-name.ensures c.seek-place.ensures.stands in
    let there = sought-name attrs c.loop-name.at c.seek-place.result.0 name _ so_far.1 sought c.seek-place.result.1 here in (
      Included-step _ _ _ so_far.0 (there.0 c.if-not-is_there.false),
      sought-on attrs c.loop-name.at c.seek-place.result.0 name _ so_far.1 sought,
    )
