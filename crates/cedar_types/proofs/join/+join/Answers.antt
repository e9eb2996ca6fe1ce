use Rattle.std.proofs.Common.{◌≡◌, ◌+◌, Err, ap, sym, subst, ◌∙◌, drop, length, get_or, string_bytes, refl, inl}
use Rattle.std.proofs.Math.ListN.{drop_of_length-le}
use Rattle.std.proofs.lemmas.Result.{err_from_is_err_and}
use Rattle.std.specs.declared.alloc.Global.{Global}
use Rattle.std.specs.declared.rc.Rc.{Rc}
use Rattle.cedar_ast.proofs.TreeLemmas.{drop-at}
use Rattle.cedar_type_rules.proofs.RecordAnswers.{PermissiveJoin}
use Rattle.cedar_type_rules.proofs.StrictRecordAnswers.{StrictJoin}
use Rattle.cedar_types.proofs.JoinSteps.{JoinStep, unplaced-at, Pairs, fields_at, names_sorted, PermissiveSoFar, permissive-first, permissive-last, permissive-missed, permissive-refused, permissive-kept, permissive-least, StrictSoFar, strict-first, strict-last, strict-missed, strict-kept, strict-least, strict-refusal, strict-errs, strict-unlike, dropped_have_none}
use Rattle.cedar_types.proofs.KindJoins.{held_below, upper_joins, sets_join, sets_refused_at, flags_refused}
use Rattle.cedar_types.proofs.MemberParts.{ty_of-set}
use Rattle.cedar_types.proofs.SubtypeSteps.{Sought-held, IsAt-held}
use Rattle.cedar_types.proofs.TypeKinds.{place_of, unlike_refused, unlike-Bool, unlike-Entity, unlike-Set, unlike-Record, unlike-other, place-Bool, place-Entity, place-Set, place-Record, place-not-Bool, place-not-Entity, place-not-Set, place-not-Record}
use Rattle.cedar_types.proofs.join.+join.Goals as goal
use Rattle.cedar_types.proofs.join.+join.Goals.{join_apart-In-Some-Some, permissive_record-After-as_slice-others, permissive_record-After-seek-place, permissive_record-After-loop-name, strict_record-After-as_slice-others, strict_record-Else-own-others, strict_record-After-seek-place, strict_record-After-loop-name, join_apart-in_default-via-in-Bool+in_default, join_apart-in_default-via-in-Entity+in_default, join_apart-in_default-via-in-Set+in_default, join_apart-in_default-via-in-Record+in_default, join_apart-in_default-via-in_default, permissive_record-then-is_there+in_ok-join+in-Some+in_ok-push_named, permissive_record-then-is_there+in_ok-join+in_default, permissive_record-else-is_there}
use Rattle.cedar_types.specs.Words.{IsStrictAttribute, «Type», attribute_of, either_open, fields_of, pairs_of, record_of, set_of, ty_of}
use Rattle.cedar_types.specs.declared.types.Type.TheVariants as type

-- what two sets with elements stand for
both_sets : (t : _) (c : join_apart-In-Some-Some t)
    → (ty_of c.args.a.now ≡ set_of (ty_of c.in-Some-Some.element.value)) × (ty_of c.args.b.now ≡ set_of (ty_of c.in-Some-Some.other.value))
both_sets t c = (
  ap ty_of (c.in-Set-Set.is-0 ∙ ap type.Set c.in-Some-Some.is-0) ∙ ty_of-set c.in-Some-Some.element,
  ap ty_of (c.in-Set-Set.is-1 ∙ ap type.Set c.in-Some-Some.is-1) ∙ ty_of-set c.in-Some-Some.other,
)

pub join_apart-returns-in_err-join_shared-in-Some-Some-clause-join : goal.join_apart-returns-in_err-join_shared-in-Some-Some-clause-join
join_apart-returns-in_err-join_shared-in-Some-Some-clause-join t c =
    let p = err_from_is_err_and c.from_residual.result c.from_residual.ensures.1 in
    let (first, second) = both_sets t (goal.at.join_apart-returns-in_err-join_shared-in-Some-Some-clause-join t c).In-Some-Some in
    sets_refused_at (λ (rc : Rc «Type» Global). ty_of rc.value) c.args.mode (ty_of c.args.a.now) (ty_of c.args.b.now)
    (ty_of c.in-Some-Some.element.value) (ty_of c.in-Some-Some.other.value) _ c.in_err-join_shared-in-Some-Some.field-0.0 p.0
    first second p.1 p.2 c.in_err-join_shared-in-Some-Some.ensures

pub join_apart-returns-in_ok-join_shared-in-Some-Some-clause-join : goal.join_apart-returns-in_ok-join_shared-in-Some-Some-clause-join
join_apart-returns-in_ok-join_shared-in-Some-Some-clause-join t c =
    let (first, second) = both_sets t (goal.at.join_apart-returns-in_ok-join_shared-in-Some-Some-clause-join t c).In-Some-Some in
    rw (first, second, c.set.ensures)
    (sets_join c.args.mode (ty_of c.in-Some-Some.element.value) (ty_of c.in-Some-Some.other.value)
    (ty_of c.in_ok-join_shared-in-Some-Some.field-0.value) c.in_ok-join_shared-in-Some-Some.ensures)

pub join_apart-returns-in_default-clause-join : goal.join_apart-returns-in_default-clause-join
join_apart-returns-in_default-clause-join t c =
    let a = c.args.a.now in
    let b = c.args.b.now in
    unlike_refused c.args.mode (ty_of a) (ty_of b) c.requires.first c.requires.second (elim c.in_default.branch [
      | join_apart-in_default-via-in-Bool+in_default w ↦ unlike-Bool (place_of a) (place_of b)
          (place-Bool a w.in_default.field-0-0 w.in_default.is-0) (place-not-Bool b w.in_default.not-Bool-1)
      | join_apart-in_default-via-in-Entity+in_default w ↦ unlike-Entity (place_of a) (place_of b)
          (place-Entity a w.in_default.field-0-0 w.in_default.is-0) (place-not-Entity b w.in_default.not-Entity-1)
          (place-not-Record b w.in_default.not-Record-1)
      | join_apart-in_default-via-in-Set+in_default w ↦ unlike-Set (place_of a) (place_of b)
          (place-Set a w.in_default.field-0-0 w.in_default.is-0) (place-not-Set b w.in_default.not-Set-1)
      | join_apart-in_default-via-in-Record+in_default w ↦ unlike-Record (place_of a) (place_of b)
          (place-Record a w.in_default.field-0-0 w.in_default.field-1-0 w.in_default.is-0)
          (place-not-Record b w.in_default.not-Record-1) (place-not-Entity b w.in_default.not-Entity-1)
      | join_apart-in_default-via-in_default w ↦ unlike-other (place_of a) (place_of b)
          (place-not-Bool a w.in_default.not-Bool-0) (place-not-Entity a w.in_default.not-Entity-0)
          (place-not-Set a w.in_default.not-Set-0) (place-not-Record a w.in_default.not-Record-0)
    ])

pub join_shared-returns-then-is_subtype : goal.join_shared-returns-then-is_subtype
join_shared-returns-then-is_subtype t c =
    let below = held_below c.args.mode c.args.a.now.value c.args.b.now.value _ _ c.deref.ensures c.deref-2.ensures
    (c.is_subtype.ensures.0 c.if-is_subtype.true) in
    (upper_joins c.args.mode (ty_of c.args.a.now.value) (ty_of c.args.b.now.value) c.in_ok-shared_again.field-0.value
    c.args.b.now.value c.in_ok-shared_again.ensures refl below).0

pub join_shared-returns-then-is_subtype-2 : goal.join_shared-returns-then-is_subtype-2
join_shared-returns-then-is_subtype-2 t c =
    let below = held_below c.args.mode c.args.b.now.value c.args.a.now.value _ _ c.deref-3.ensures c.deref-4.ensures
    (c.is_subtype-2.ensures.0 c.if-is_subtype-2.true) in
    (upper_joins c.args.mode (ty_of c.args.b.now.value) (ty_of c.args.a.now.value) c.in_ok-shared_again-2.field-0.value
    c.args.a.now.value c.in_ok-shared_again-2.ensures refl below).1

-- the pairs that the two records hold
permissive_pairs : (t : _) (c : permissive_record-After-as_slice-others t)
    → (c.as_slice-own.result.now ≡ pairs_of c.args.a.now) × (c.as_slice-others.result.now ≡ pairs_of c.args.b.now)
permissive_pairs t c = (
  c.as_slice-own.ensures ∙ ap (λ all. all.entries.items) c.deref.ensures,
  c.as_slice-others.ensures ∙ ap (λ all. all.entries.items) c.deref-2.ensures,
)

-- this turn's walk goes on to a place for the next attribute of the one record
permissive_step : (t : _) (c : permissive_record-After-seek-place t)
    → JoinStep PermissiveSoFar c.args.a.now c.args.b.now c.loop-name.at c.seek-place.result.0 c.loop-name-item.result
    (drop (c.loop-name.name-index + 1) c.as_slice-own.result.now) c.loop-name.joined.items c.seek-place.result.1
permissive_step t c =
    let b = c.args.b.now in
    let item = c.loop-name-item.result in
    record {
      so_far = rw (drop-at _ c.loop-name.name-index item c.loop-name-test.true c.loop-name-item.is) at c.loop-name.invariant;
      sought = Sought-held b c.loop-name.at c.seek-place.result.0 c.deref-in-loop-name.result.now _ (string_bytes item.0)
          c.deref-in-loop-name.ensures c.deref-in-loop-name-2.ensures c.seek-place.ensures.passed c.seek-place.ensures.stays;
      here = IsAt-held b c.seek-place.result.0 c.deref-in-loop-name.result.now _ (string_bytes item.0) c.seek-place.result.1
          c.deref-in-loop-name.ensures c.deref-in-loop-name-2.ensures c.seek-place.ensures.stands;
    }

-- after the last turn the pairs are the join
permissive_joined : (t : _) (c : permissive_record-After-loop-name t)
    → (all : PermissiveJoin (fields_of c.args.a.now) (fields_of c.args.b.now)) × (all.fields ≡ fields_at c.loop-name.joined.items)
permissive_joined t c =
    permissive-last c.args.a.now c.args.b.now c.loop-name.at c.loop-name.joined.items
    (rw (drop_of_length-le c.as_slice-own.result.now c.loop-name-test.false) at c.loop-name.invariant)

pub permissive_record-loop-name-init : goal.permissive_record-loop-name-init
permissive_record-loop-name-init t c =
    let past = goal.at.permissive_record-loop-name-init t c in
    let a = c.args.a.now in
    let b = c.args.b.now in
    let own = (permissive_pairs t past.After-as_slice-others).0 in
    rw (c.new-joined.ensures.items, own) (permissive-first a b)

pub permissive_record-loop-name-preserved : goal.permissive_record-loop-name-preserved
permissive_record-loop-name-preserved t c =
    let past = goal.at.permissive_record-loop-name-preserved t c in
    let b = c.args.b.now in
    let item = c.loop-name-item.result in
    let place = c.seek-place.result.0 in
    let step = permissive_step t past.After-seek-place in
    let others = (permissive_pairs t past.After-as_slice-others).1 in
    elim c.if-is_there.branch [
      | permissive_record-then-is_there+in_ok-join+in-Some+in_ok-push_named w ↦ (
          let more = w.in_ok-push_named.ensures in
          let one = w.index-others-place.result in
          let right = rw (others, w.in-Some.is) at w.in_ok-join.ensures.join in
          rw (ap (λ v. v.items) w.joined-is ∙ more.2) (permissive-kept step one (more.0, w.in-Some.join) w.if-is_there.true more.1 right.0 right.1
          (rw w.in-Some.is at w.in_ok-join.ensures.loc))
          )
      | permissive_record-then-is_there+in_ok-join+in_default w ↦ (
          let one = w.index-others-place.result in
          let none = dropped_have_none (attribute_of item.1) (attribute_of (get_or (pairs_of b) place one).1) w.in_ok-join.field-0 (rw others at w.in_ok-join.ensures.join) w.in_default.not-Some in
          rw (ap (λ v. v.items) w.joined-is) (permissive-refused step one w.if-is_there.true none)
          )
      | permissive_record-else-is_there w ↦ rw (ap (λ v. v.items) w.joined-is) (permissive-missed step w.if-is_there.false)
    ]

pub permissive_record-from_sorted_by_name-requires : goal.permissive_record-from_sorted_by_name-requires
permissive_record-from_sorted_by_name-requires t c =
    let past = goal.at.permissive_record-from_sorted_by_name-requires t c in
    let last = permissive_joined t past.After-loop-name in
    names_sorted c.loop-name.joined.items last.0.fields last.1 last.0.sorted_by_name

pub permissive_record-returns-clause-join : goal.permissive_record-returns-clause-join
permissive_record-returns-clause-join t c =
    let past = goal.at.permissive_record-returns-clause-join t c in
    let a = c.args.a.now in
    let b = c.args.b.now in
    let joined = c.loop-name.joined.items in
    let last = permissive_joined t past.After-loop-name in
    let (own, others) = permissive_pairs t past.After-as_slice-others in
    let count : c.len.result ≡ length joined = c.len.ensures ∙ c.loop-name.joined.ok.0 in
    let closed = c.permissive_openness-openness.ensures in
    let is : ty_of c.record.result ≡ record_of (fields_at joined) c.permissive_openness-openness.result =
    c.record.ensures.ty ∙ ap (λ fields. record_of fields c.permissive_openness-openness.result) c.in_ok-from_sorted_by_name.ensures.attributes in
    rw is
    (permissive-least a b c.args.a_openness c.args.b_openness joined last.0 last.1 c.permissive_openness-openness.result (
      (λ e. (let both = closed.0 e in
          (both.0, (sym count ∙ (both.1.0 ∙ ap length own), sym count ∙ (both.1.1 ∙ ap length others))))),
      (λ whole. closed.1 (whole.0, (count ∙ (whole.1.0 ∙ sym (ap length own)), count ∙ (whole.1.1 ∙ sym (ap length others))))),
    ))

pub permissive_record-returns-clause-unplaced : goal.permissive_record-returns-clause-unplaced
permissive_record-returns-clause-unplaced t c name =
    rw (c.record.ensures.listed name ∙ c.in_ok-from_sorted_by_name.ensures.located name) (unplaced-at c.loop-name.joined.items name c.loop-name.invariant.unplaced)

pub strict_record-returns-clause-unplaced : goal.strict_record-returns-clause-unplaced
strict_record-returns-clause-unplaced t c name =
    rw (c.record.ensures.listed name ∙ c.in_ok-attrs.ensures.located name) (unplaced-at c.loop-name.joined.items name c.loop-name.invariant.unplaced)

pub strict_attribute-returns-else-a-b-clause-join : goal.strict_attribute-returns-else-a-b-clause-join
strict_attribute-returns-else-a-b-clause-join t c =
    inl (flags_refused c.args.a.now c.args.b.now (ty_of c.in_ok-ty.ty.value) c.in_ok-ty.ensures c.if-a-b.false)

-- the pairs that the two records hold
strict_pairs : (t : _) (c : strict_record-After-as_slice-others t)
    → (c.as_slice-own.result.now ≡ pairs_of c.args.a.now) × (c.as_slice-others.result.now ≡ pairs_of c.args.b.now)
strict_pairs t c = (
  c.as_slice-own.ensures ∙ ap (λ all. all.entries.items) c.deref.ensures,
  c.as_slice-others.ensures ∙ ap (λ all. all.entries.items) c.deref-2.ensures,
)

-- they are as many
same_length : (t : _) (c : strict_record-Else-own-others t) → length (pairs_of c.args.a.now) ≡ length (pairs_of c.args.b.now)
same_length t c =
    let own = c.as_slice-own.ensures ∙ ap (λ all. all.entries.items) c.deref.ensures in
    let others = c.as_slice-others.ensures ∙ ap (λ all. all.entries.items) c.deref-2.ensures in
    sym (ap length own) ∙ (c.if-own-others.false ∙ ap length others)

-- this turn's walk goes on to a place for the next attribute of the one record
strict_step : (t : _) (c : strict_record-After-seek-place t)
    → JoinStep StrictSoFar c.args.a.now c.args.b.now c.loop-name.at c.seek-place.result.0 c.loop-name-item.result
    (drop (c.loop-name.name-index + 1) c.as_slice-own.result.now) c.loop-name.joined.items c.seek-place.result.1
strict_step t c =
    let b = c.args.b.now in
    let item = c.loop-name-item.result in
    record {
      so_far = rw (drop-at _ c.loop-name.name-index item c.loop-name-test.true c.loop-name-item.is) at c.loop-name.invariant;
      sought = Sought-held b c.loop-name.at c.seek-place.result.0 c.deref-in-loop-name.result.now _ (string_bytes item.0)
          c.deref-in-loop-name.ensures c.deref-in-loop-name-2.ensures c.seek-place.ensures.passed c.seek-place.ensures.stays;
      here = IsAt-held b c.seek-place.result.0 c.deref-in-loop-name.result.now _ (string_bytes item.0) c.seek-place.result.1
          c.deref-in-loop-name.ensures c.deref-in-loop-name-2.ensures c.seek-place.ensures.stands;
    }

-- after the last turn the pairs are the join
strict_joined : (t : _) (c : strict_record-After-loop-name t)
    → (all : StrictJoin (fields_of c.args.a.now) (fields_of c.args.b.now)) × (all.fields ≡ fields_at c.loop-name.joined.items)
strict_joined t c =
    strict-last c.args.a.now c.args.b.now c.loop-name.at c.loop-name.joined.items
    (rw (drop_of_length-le c.as_slice-own.result.now c.loop-name-test.false) at c.loop-name.invariant)

pub strict_record-returns-then-own-others-clause-join : goal.strict_record-returns-then-own-others-clause-join
strict_record-returns-then-own-others-clause-join t c =
    let past = goal.at.strict_record-returns-then-own-others-clause-join t c in
    let a = c.args.a.now in
    let b = c.args.b.now in
    let (own, others) = strict_pairs t past.After-as_slice-others in
    strict-unlike a b c.args.a_openness c.args.b_openness
    (λ e. c.if-own-others.true (ap length own ∙ (e ∙ sym (ap length others))))

pub strict_record-loop-name-init : goal.strict_record-loop-name-init
strict_record-loop-name-init t c =
    let past = goal.at.strict_record-loop-name-init t c in
    let a = c.args.a.now in
    let b = c.args.b.now in
    let own = (strict_pairs t past.After-as_slice-others).0 in
    rw (c.new-joined.ensures.items, own) (strict-first a b)

pub strict_record-returns-then-not-is_there-clause-join : goal.strict_record-returns-then-not-is_there-clause-join
strict_record-returns-then-not-is_there-clause-join t c =
    let past = goal.at.strict_record-returns-then-not-is_there-clause-join t c in
    strict-refusal c.args.a.now c.args.b.now c.args.a_openness c.args.b_openness (same_length t past.Else-own-others) _
    (strict-missed (strict_step t past.After-seek-place) c.if-not-is_there.true)

pub strict_record-returns-in_err-join-clause-join : goal.strict_record-returns-in_err-join-clause-join
strict_record-returns-in_err-join-clause-join t c =
    let past = goal.at.strict_record-returns-in_err-join-clause-join t c in
    let item = c.loop-name-item.result in
    let RefusesIn : Pairs → Type 0 = λ all.
    IsStrictAttribute (attribute_of item.1) (attribute_of (get_or all c.seek-place.result.0 c.index-others-place.result).1) (Err c.in_err-join.field-0.0) in
    let p = err_from_is_err_and c.from_residual.result c.from_residual.ensures.1 in
    rw (p.1, p.2)
    (strict-errs c.args.a_openness c.args.b_openness (same_length t past.Else-own-others) (strict_step t past.After-seek-place)
    c.index-others-place.result c.in_err-join.field-0.0 c.if-not-is_there.false
    (subst RefusesIn (strict_pairs t past.After-as_slice-others).1 c.in_err-join.ensures.join))

pub strict_record-loop-name-preserved : goal.strict_record-loop-name-preserved
strict_record-loop-name-preserved t c =
    let past = goal.at.strict_record-loop-name-preserved t c in
    let item = c.loop-name-item.result in
    let place = c.seek-place.result.0 in
    let step = strict_step t past.After-seek-place in
    let others = (strict_pairs t past.After-as_slice-others).1 in
    let one = c.index-others-place.result in
    let right = rw others at c.in_ok-join.ensures.join in
    let more = c.in_ok-push_named.ensures in
    rw more.2
    (strict-kept step one (more.0, c.in_ok-join.join) c.if-not-is_there.false more.1 right.0 right.1 right.2 c.in_ok-join.ensures.loc)

pub strict_record-from_sorted_by_name-requires : goal.strict_record-from_sorted_by_name-requires
strict_record-from_sorted_by_name-requires t c =
    let past = goal.at.strict_record-from_sorted_by_name-requires t c in
    let last = strict_joined t past.After-loop-name in
    names_sorted c.loop-name.joined.items last.0.fields last.1 last.0.sorted_by_name

pub strict_record-returns-clause-join : goal.strict_record-returns-clause-join
strict_record-returns-clause-join t c =
    let past = goal.at.strict_record-returns-clause-join t c in
    let a = c.args.a.now in
    let b = c.args.b.now in
    let joined = c.loop-name.joined.items in
    let last = strict_joined t past.After-loop-name in
    let same = same_length t past.Else-own-others in
    let is : ty_of c.record.result ≡ record_of (fields_at joined) (either_open c.args.a_openness c.args.b_openness) =
    c.record.ensures.ty ∙ (λ i. record_of (c.in_ok-attrs.ensures.attributes i) (c.strict_openness.ensures i)) in
    rw is (strict-least a b c.args.a_openness c.args.b_openness same joined last.0 last.1)
