use Rattle.std.proofs.Common.{◌≡◌, ◌∙◌, sym, ap, true, string_bytes, Global, Bool, BTreeMap}
use Rattle.std.specs.Bool.{Decides}
use Rattle.std.specs.declared.string.String.{String}
use Rattle.cedar_ast.proofs.TreeLemmas.{core_ty_of-record}
use Rattle.cedar_types.proofs.+consistent.Goals as goal
use Rattle.cedar_types.proofs.+consistent.Goals.{consistent::records_fit-After-may_lack_all, consistent::records_fit-After-seek-place, consistent::records_fit-After-is_consistent_with}
use Rattle.cedar_types.proofs.ConsistentSteps.{ConsistentStep, consistent-first, step_of, passed-fails, met-fails, met-next, alone-fails, alone-next, consistent-last, attribute_type, met_test}
use Rattle.cedar_types.proofs.MemberParts.{ty_of-record}
use Rattle.cedar_types.proofs.SubtypeSteps.{Sought-held, IsAt, IsAt-held}
use Rattle.cedar_types.specs.Words.{Attributes, CoreAttributeType, IsConsistent, OpenAttributes, OpenTag, attribute_of, core_attribute_of, core_fields_of, core_record, core_ty_of, fields_of, record_of, ty_of}

pub types::Type::is_consistent_with-returns-in-Record-Record :
    goal.types::Type::is_consistent_with-returns-in-Record-Record
types::Type::is_consistent_with-returns-in-Record-Record t c =
    rw (
      ap ty_of c.in-Record-Record.is-0 ∙ ty_of-record c.in-Record-Record.attrs c.in-Record-Record.open_attributes,
      ap core_ty_of c.in-Record-Record.is-1 ∙ core_ty_of-record c.in-Record-Record.others c.in-Record-Record.open_attrs,
    )
    c.records_fit.ensures

-- a record of some attributes is consistent with a core record
abbrev AreFit : Attributes → BTreeMap (String Global) CoreAttributeType → OpenTag → Bool → Type 0
AreFit attrs core openness core_is_open = IsConsistent (record_of (fields_of attrs) openness) (core_record (core_fields_of core) core_is_open)

pub consistent::records_fit-loop-name-init : goal.consistent::records_fit-loop-name-init
consistent::records_fit-loop-name-init t c =
    let (entries, _, _, _, _, ordered, _) = c.into_iter-name-iterator.ensures.into_iter_gives in
    let W = AreFit c.args.attrs.now c.args.core.now c.args.openness c.args.core_is_open in
    rw entries (consistent-first c.args.attrs.now c.as_slice-own.result.now c.args.core.now.entries (c.args.openness ≡ OpenAttributes)
    (c.args.core_is_open ≡ true) (c.as_slice-own.ensures ∙ ap (λ all. all.entries.items) c.deref.ensures) ordered)

-- this turn's walk goes on to a place for the next attribute of the core record
step : (t : _) (c : consistent::records_fit-After-may_lack_all t)
    → ConsistentStep c.as_slice-own.result.now (c.args.openness ≡ OpenAttributes) (c.args.core_is_open ≡ true)
    (AreFit c.args.attrs.now c.args.core.now c.args.openness c.args.core_is_open) c.loop-name.at c.seek-place.result.0
    (c.in-Some.name.now, c.in-Some.other.now) c.next.new.self c.may_lack_all.result
step t c =
    let own = c.as_slice-own.result.now in
    let O = c.args.openness ≡ OpenAttributes in
    let C = c.args.core_is_open ≡ true in
    let W = AreFit c.args.attrs.now c.args.core.now c.args.openness c.args.core_is_open in
    step_of c.args.attrs.now own O C W c.loop-name.at c.seek-place.result.0 (c.in-Some.name.now, c.in-Some.other.now) c.next.new.self
    c.may_lack_all.result (c.as_slice-own.ensures ∙ ap (λ all. all.entries.items) c.deref.ensures)
    (rw c.in-Some.ensures.steps at c.loop-name.invariant) c.seek-place.ensures.from
    (Sought-held c.args.attrs.now c.loop-name.at c.seek-place.result.0 c.deref-in-loop-name.result.now _ (string_bytes c.in-Some.name.now)
    c.deref-in-loop-name.ensures c.deref-in-loop-name-2.ensures c.seek-place.ensures.passed c.seek-place.ensures.stays)
    c.may_lack_all.ensures

-- whether the name is at the place
here : (t : _) (c : consistent::records_fit-After-seek-place t)
    → Decides c.seek-place.result.1 (IsAt c.as_slice-own.result.now c.seek-place.result.0 (string_bytes c.in-Some.name.now))
here t c =
    rw (c.as_slice-own.ensures ∙ ap (λ all. all.entries.items) c.deref.ensures) (IsAt-held c.args.attrs.now c.seek-place.result.0 c.deref-in-loop-name.result.now _ (string_bytes c.in-Some.name.now) c.seek-place.result.1
    c.deref-in-loop-name.ensures c.deref-in-loop-name-2.ensures c.seek-place.ensures.stands)

-- whether the types there are consistent
tested : (t : _) (c : consistent::records_fit-After-is_consistent_with t)
    → Decides c.is_consistent_with.result (IsConsistent (attribute_of c.index-own-place.result.1).1 (core_attribute_of c.in-Some.other.now).1)
tested t c =
    met_test c.index-own-place.result c.in-Some.other.now c.deref-then-is_there.result.now
    (c.deref-then-is_there.ensures ∙ ap attribute_type (sym c.index-own-place.is)) c.is_consistent_with.result c.is_consistent_with.ensures

pub consistent::records_fit-returns-then-not-may_lack_all :
    goal.consistent::records_fit-returns-then-not-may_lack_all
consistent::records_fit-returns-then-not-may_lack_all t c =
    let past = goal.at.consistent::records_fit-returns-then-not-may_lack_all t c in
    passed-fails (step t past.After-may_lack_all) c.if-not-may_lack_all.true

pub consistent::records_fit-returns-then-not-is_consistent_with :
    goal.consistent::records_fit-returns-then-not-is_consistent_with
consistent::records_fit-returns-then-not-is_consistent_with t c =
    let past = goal.at.consistent::records_fit-returns-then-not-is_consistent_with t c in
    met-fails (step t past.After-may_lack_all) c.if-not-may_lack_all.false c.seek-place.result.1 (here t past.After-seek-place) c.if-is_there.true
    c.index-own-place.result c.index-own-place.is c.is_consistent_with.result (tested t past.After-is_consistent_with)
    c.if-not-is_consistent_with.true

pub consistent::records_fit-loop-name-preserved-then-is_there :
    goal.consistent::records_fit-loop-name-preserved-then-is_there
consistent::records_fit-loop-name-preserved-then-is_there t c =
    let past = goal.at.consistent::records_fit-loop-name-preserved-then-is_there t c in
    met-next (step t past.After-may_lack_all) c.if-not-may_lack_all.false c.seek-place.result.1 (here t past.After-seek-place) c.if-is_there.true
    c.index-own-place.result c.index-own-place.is c.is_consistent_with.result (tested t past.After-is_consistent_with)
    c.if-not-is_consistent_with.false

pub consistent::records_fit-returns-then-not-may_lack :
    goal.consistent::records_fit-returns-then-not-may_lack
consistent::records_fit-returns-then-not-may_lack t c =
    let past = goal.at.consistent::records_fit-returns-then-not-may_lack t c in
    alone-fails (step t past.After-may_lack_all) c.if-not-may_lack_all.false c.seek-place.result.1 (here t past.After-seek-place) c.if-is_there.false
    c.may_lack.result c.may_lack.ensures c.if-not-may_lack.true

pub consistent::records_fit-loop-name-preserved : goal.consistent::records_fit-loop-name-preserved
consistent::records_fit-loop-name-preserved t c =
    let past = goal.at.consistent::records_fit-loop-name-preserved t c in
    let inside = rw (c.deref-in-loop-name.ensures ∙ sym c.deref.ensures) at c.seek-place.ensures.within in
    alone-next (step t past.After-may_lack_all) c.if-not-may_lack_all.false c.seek-place.result.1 (here t past.After-seek-place) c.if-is_there.false
    c.may_lack.result c.may_lack.ensures
    ((rw (← c.as_slice-own.ensures) at inside) c.loop-name.invariant.within)
    c.if-not-may_lack.false

pub consistent::records_fit-returns : goal.consistent::records_fit-returns
consistent::records_fit-returns t c =
    let own = c.as_slice-own.result.now in
    let O = c.args.openness ≡ OpenAttributes in
    let C = c.args.core_is_open ≡ true in
    let W = AreFit c.args.attrs.now c.args.core.now c.args.openness c.args.core_is_open in
    let last = consistent-last own O C W c.loop-name.at (rw c.in-None.ensures.steps.0 at c.loop-name.invariant) in
    (λ e. last.0 (c.may_lack_all-2.ensures.0 e), λ whole. c.may_lack_all-2.ensures.1 (last.1 whole))
