use Rattle.std.proofs.Common.{ap, ◌∙◌, string_bytes}
use Rattle.cedar_ast.proofs.TreeLemmas.{drop-at}
use Rattle.cedar_types.proofs.+subtype.Goals as goal
use Rattle.cedar_types.proofs.SubtypeSteps.{WalkedBelow-first, WalkedBelow-missed, WalkedBelow-fails, WalkedBelow-next, Sought-held, IsAt-held, AttributeBelow-held}

-- at first all attributes of the upper record are left
pub subtype::fields_fit-loop-name-init : goal.subtype::fields_fit-loop-name-init
subtype::fields_fit-loop-name-init t c =
    let same = c.as_slice-name-items.ensures ∙ ap (λ all. all.entries.items) c.deref-2.ensures in
    rw same (WalkedBelow-first c.args.mode c.args.lower.now c.args.upper.now)

-- an attribute that the lower record lacks fails
pub subtype::fields_fit-returns-then-not-is_there : goal.subtype::fields_fit-returns-then-not-is_there
subtype::fields_fit-returns-then-not-is_there t c =
    let lower = c.args.lower.now in
    let item = c.loop-name-item.result in
    let walked = rw (drop-at _ c.loop-name.name-index item c.loop-name-test.true c.loop-name-item.is) at c.loop-name.invariant in
    let sought = Sought-held lower c.loop-name.at c.seek-place.result.0 c.deref-in-loop-name.result.now _ (string_bytes item.0)
    c.deref-in-loop-name.ensures c.deref-in-loop-name-2.ensures c.seek-place.ensures.passed c.seek-place.ensures.stays in
    let here = IsAt-held lower c.seek-place.result.0 c.deref-in-loop-name.result.now _ (string_bytes item.0) c.seek-place.result.1
    c.deref-in-loop-name.ensures c.deref-in-loop-name-2.ensures c.seek-place.ensures.stands in
    WalkedBelow-missed c.args.mode lower c.args.upper.now c.loop-name.at c.seek-place.result.0 item _ walked sought
    (λ is. absurd (let there = here.1 is in let none = c.if-not-is_there.true in cc))

-- so does one that doesn't lie below
pub subtype::fields_fit-returns-then-not-attribute_fits :
    goal.subtype::fields_fit-returns-then-not-attribute_fits
subtype::fields_fit-returns-then-not-attribute_fits t c =
    let lower = c.args.lower.now in
    let item = c.loop-name-item.result in
    let walked = rw (drop-at _ c.loop-name.name-index item c.loop-name-test.true c.loop-name-item.is) at c.loop-name.invariant in
    let sought = Sought-held lower c.loop-name.at c.seek-place.result.0 c.deref-in-loop-name.result.now _ (string_bytes item.0)
    c.deref-in-loop-name.ensures c.deref-in-loop-name-2.ensures c.seek-place.ensures.passed c.seek-place.ensures.stays in
    let here = IsAt-held lower c.seek-place.result.0 c.deref-in-loop-name.result.now _ (string_bytes item.0) c.seek-place.result.1
    c.deref-in-loop-name.ensures c.deref-in-loop-name-2.ensures c.seek-place.ensures.stands in
    WalkedBelow-fails c.args.mode lower c.args.upper.now c.loop-name.at c.seek-place.result.0 item _ walked sought
    c.index-own-place.result (here.0 c.if-not-is_there.false)
    (AttributeBelow-held c.args.mode lower c.as_slice-own.result.now c.seek-place.result.0 c.index-own-place.result item _ c.attribute_fits.result
    (c.as_slice-own.ensures ∙ ap (λ all. all.entries.items) c.deref.ensures) c.if-not-attribute_fits.true c.attribute_fits.ensures)

-- past one that lies below the rest decides
pub subtype::fields_fit-loop-name-preserved : goal.subtype::fields_fit-loop-name-preserved
subtype::fields_fit-loop-name-preserved t c =
    let lower = c.args.lower.now in
    let item = c.loop-name-item.result in
    let walked = rw (drop-at _ c.loop-name.name-index item c.loop-name-test.true c.loop-name-item.is) at c.loop-name.invariant in
    let sought = Sought-held lower c.loop-name.at c.seek-place.result.0 c.deref-in-loop-name.result.now _ (string_bytes item.0)
    c.deref-in-loop-name.ensures c.deref-in-loop-name-2.ensures c.seek-place.ensures.passed c.seek-place.ensures.stays in
    let here = IsAt-held lower c.seek-place.result.0 c.deref-in-loop-name.result.now _ (string_bytes item.0) c.seek-place.result.1
    c.deref-in-loop-name.ensures c.deref-in-loop-name-2.ensures c.seek-place.ensures.stands in
    WalkedBelow-next c.args.mode lower c.args.upper.now c.loop-name.at c.seek-place.result.0 item _ walked sought
    c.index-own-place.result (here.0 c.if-not-is_there.false)
    (AttributeBelow-held c.args.mode lower c.as_slice-own.result.now c.seek-place.result.0 c.index-own-place.result item _ c.attribute_fits.result
    (c.as_slice-own.ensures ∙ ap (λ all. all.entries.items) c.deref.ensures) c.if-not-attribute_fits.false c.attribute_fits.ensures)
