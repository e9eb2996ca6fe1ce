use Rattle.std.proofs.Common.{◌≡◌, ◌<◌, ◌+◌, true, false, Contains, ap, arith, inl, refl, string_bytes, subst, sym, ◌∙◌}
use Rattle.std.proofs.lemmas.Bool.{false≢true}
use Rattle.std.proofs.lemmas.Result.{IfOk-weaker}
use Rattle.std.proofs.lemmas.Str.{IsUtf8-string_bytes}
use Rattle.std.specs.Option.{is_some, option_map}
use Rattle.cedar_ast.proofs.TreeLemmas.{tree_of-record}
use Rattle.cedar_counterexample.proofs.Sizes.{attribute_smaller, ty_size}
use Rattle.cedar_counterexample.proofs.StartLemmas.{AreInhabitedWith-of, attribute_start, missing_start, separating_next, start_separates}
use Rattle.cedar_counterexample.proofs.separating.+separating.Goals as goal
use Rattle.cedar_counterexample.proofs.separating.+separating.Goals.{separating_field-else-attribute-via-then-attribute+else-not-own, separating_field-else-attribute-via-else-attribute}
use Rattle.cedar_counterexample.specs.Words.{IsFieldStart, IsInhabitedWith, IsRecordStart, IsSortedByName-fields, attribute_of, entries_of, field_names, fields_of, found_of, record_of, start_of, ty_of, value_trees}
use Rattle.cedar_type_rules.proofs.AgreeLaws.{HasField-once}
use Rattle.cedar_type_rules.proofs.InclusionLemmas.{found-Decides}
use Rattle.cedar_type_rules.proofs.SubtypeLemmas.{HasField-found}
use Rattle.cedar_types.proofs.StatedSteps.{flag_same, type_same}

-- an attribute that the one record lacks is left out or put in
pub separating_field-returns-in_default : goal.separating_field-returns-in_default
separating_field-returns-in_default t c =
    let extensions = c.args.search.now.extensions.now in
    let lower = fields_of c.args.lower.now in
    let name = string_bytes c.args.name.now in
    let attribute = attribute_of c.args.attribute.now in
    let found = found-Decides attribute_of c.get_attr.result c.deref.result.now lower c.get_attr.ensures.attribute in
    let absent = subst (λ text. ¬ Contains (field_names lower) text) c.deref.ensures (λ among. false≢true (sym (ap is_some c.in_default.is) ∙ found.1 among)) in
    IfOk-weaker c.start_without.result _
    (λ start. IsFieldStart extensions lower c.args.openness name attribute.0 attribute.1 (option_map start_of start))
    (λ start each. each extensions lower absent) c.start_without.ensures

-- the type of the attribute is smaller than the record's, and the one record's is inhabited
pub separating_field-separating_expr-requires :
    goal.separating_field-separating_expr-requires
separating_field-separating_expr-requires t c =
    let samples = value_trees c.args.search.now.samples.now in
    let lower = fields_of c.args.lower.now in
    let own = attribute_of c.in-Some.own.now in
    let has = HasField-found c.deref.result.now lower own (sym c.in-Some.ensures.attribute) in
    let less = subst (λ ty. ty_size ty < ty_size (attribute_of c.args.attribute.now).1 + 1) (sym (type_same c.args.attribute.now c.deref-3.result.now c.deref-3.ensures)) (omega arith) in (
      omega (arith, less, c.decreases),
      subst (IsInhabitedWith c.args.search.now.extensions.now samples) (sym (type_same c.in-Some.own.now c.deref-2.result.now c.deref-2.ensures))
          (AreInhabitedWith-of c.args.search.now.extensions.now samples lower c.deref.result.now own.0 own.1 c.requires has),
    )

-- an attribute that only the other requires is left out
pub separating_field-returns-then-not-own : goal.separating_field-returns-then-not-own
separating_field-returns-then-not-own t c = λ upper upper_openness also.
    let extensions = c.args.search.now.extensions.now in
    let lower = fields_of c.args.lower.now in
    let name = string_bytes c.args.name.now in
    let attribute = attribute_of c.args.attribute.now in
    let own = attribute_of c.in-Some.own.now in
    let has = rw c.deref.ensures at (HasField-found c.deref.result.now lower own (sym c.in-Some.ensures.attribute)) in
    let optional = flag_same c.in-Some.own.now ∙ c.if-not-own.true in
    rw c.in_ok-start_of_none.ensures (missing_start extensions lower upper c.args.openness upper_openness name attribute.0 attribute.1
    (λ ty there. (let same = (HasField-once lower name own.0 true own.1 ty (IsSortedByName-fields c.args.lower.now) has there).0 in
    let wrong : true ≡ false = sym same ∙ optional in absurd cc))
    (flag_same c.args.attribute.now ∙ c.if-attribute.true) also)

-- a value that is outside the attribute's type stands under its name
pub separating_field-returns-in_ok-start_with-in-Some-found : goal.separating_field-returns-in_ok-start_with-in-Some-found
separating_field-returns-in_ok-start_with-in-Some-found t c = λ upper upper_openness also.
    let extensions = c.args.search.now.extensions.now in
    let lower = fields_of c.args.lower.now in
    let name = string_bytes c.args.name.now in
    let attribute = attribute_of c.args.attribute.now in
    let own = attribute_of c.in-Some.own.now in
    let has = rw c.deref.ensures at (HasField-found c.deref.result.now lower own (sym c.in-Some.ensures.attribute)) in
    let it = found_of c.in-Some-found.found in
    let found = rw c.in-Some-found.is at c.in_ok-found.ensures in
    let answer = rw (type_same c.in-Some.own.now c.deref-2.result.now c.deref-2.ensures, type_same c.args.attribute.now c.deref-3.result.now c.deref-3.ensures) at found in
    rw c.in_ok-start_with-in-Some-found.ensures (attribute_start extensions lower upper c.args.openness upper_openness name own.0 attribute.0 own.1 attribute.1 it
    (IsSortedByName-fields c.args.lower.now) (IsUtf8-string_bytes c.args.name.now) has also answer.0 answer.1)

-- where no value is outside, the attribute's values are included
pub separating_field-returns-in-None : goal.separating_field-returns-in-None
separating_field-returns-in-None t c =
    let extensions = c.args.search.now.extensions.now in
    let lower = fields_of c.args.lower.now in
    let attribute = attribute_of c.args.attribute.now in
    let own = attribute_of c.in-Some.own.now in
    let has = rw c.deref.ensures at (HasField-found c.deref.result.now lower own (sym c.in-Some.ensures.attribute)) in
    let found = rw c.in-None.is at c.in_ok-found.ensures in
    let parts = rw (type_same c.in-Some.own.now c.deref-2.result.now c.deref-2.ensures, type_same c.args.attribute.now c.deref-3.result.now c.deref-3.ensures) at found in
    let flags : attribute.0 ≡ true → own.0 ≡ true = elim c.else-attribute.branch [
      | separating_field-else-attribute-via-then-attribute+else-not-own w ↦ λ _. flag_same c.in-Some.own.now ∙ w.if-not-own.false
      | separating_field-else-attribute-via-else-attribute w ↦
          λ needed. absurd (let optional = flag_same c.args.attribute.now ∙ w.if-attribute.false in
          let wrong : true ≡ false = sym needed ∙ optional in cc)
    ] in
    (inl (own.0, own.1, has, flags, parts), tt)

-- each attribute is smaller than its record
pub separating_attribute-separating_field-requires :
    goal.separating_attribute-separating_field-requires
separating_attribute-separating_field-requires t c =
    let lower = fields_of c.args.lower.now in
    let upper = fields_of c.args.upper.now in
    let name = string_bytes c.in-Some.name.now in
    let attribute = attribute_of c.in-Some.attribute.now in
    let so_far = rw c.in-Some.ensures.steps at c.loop-name.invariant in
    let less = attribute_smaller upper name attribute.0 attribute.1
    (so_far.within name attribute.0 attribute.1 (inl (refl, refl, refl))) in
    (omega (arith, less, c.decreases), c.requires)

-- the start that one attribute gives is the record's
pub separating_attribute-returns-in-Some-found : goal.separating_attribute-returns-in-Some-found
separating_attribute-returns-in-Some-found t c = λ upper_openness.
    let extensions = c.args.search.now.extensions.now in
    let lower = fields_of c.args.lower.now in
    let upper = fields_of c.args.upper.now in
    let name = string_bytes c.in-Some.name.now in
    let attribute = attribute_of c.in-Some.attribute.now in
    let so_far = rw c.in-Some.ensures.steps at c.loop-name.invariant in
    let found = rw c.in-Some-found.is at c.in_ok-found.ensures in
    found upper upper_openness (so_far.within name attribute.0 attribute.1 (inl (refl, refl, refl)))

-- past an attribute whose values are included the rest decides
pub separating_attribute-loop-name-preserved : goal.separating_attribute-loop-name-preserved
separating_attribute-loop-name-preserved t c =
    let extensions = c.args.search.now.extensions.now in
    let lower = fields_of c.args.lower.now in
    let upper = fields_of c.args.upper.now in
    let name = string_bytes c.in-Some.name.now in
    let attribute = attribute_of c.in-Some.attribute.now in
    let found = rw c.in_default.is at c.in_ok-found.ensures in
    separating_next lower c.args.openness upper name attribute.0 attribute.1 _ (rw c.in-Some.ensures.steps at c.loop-name.invariant) found

-- the start that an attribute gives serves whether the record is open or closed
pub separating_start-returns-in-Some : goal.separating_start-returns-in-Some
separating_start-returns-in-Some t c =
    let lower = fields_of c.args.lower.now in
    let upper = fields_of c.args.upper.now in
    let found = rw c.in-Some.is at c.in_ok-found.ensures in
    found c.args.upper_openness

-- else the names decide, where the other record is closed
pub separating_start-returns-in-ClosedAttributes : goal.separating_start-returns-in-ClosedAttributes
separating_start-returns-in-ClosedAttributes t c =
    let extensions = c.args.search.now.extensions.now in
    let lower = fields_of c.args.lower.now in
    let upper = fields_of c.args.upper.now in
    IfOk-weaker c.separating_names.result _
    (λ found. IsRecordStart extensions lower c.args.openness upper c.args.upper_openness (option_map start_of found))
    (λ found it. rw c.in-ClosedAttributes.is it) c.separating_names.ensures

-- a start that is filled up separates the two records
pub separating_values-returns-in_ok-values-in-Some : goal.separating_values-returns-in_ok-values-in-Some
separating_values-returns-in_ok-values-in-Some t c =
    let extensions = c.args.search.now.extensions.now in
    let lower = fields_of c.args.lower.now in
    let upper = fields_of c.args.upper.now in
    let begun = rw c.in-Some.is at c.in_ok-start.ensures in
    start_separates extensions lower upper c.args.openness c.args.upper_openness (start_of c.in-Some.start)
    (entries_of c.in_ok-values-in-Some.values) (IsSortedByName-fields c.args.lower.now) begun c.in_ok-values-in-Some.ensures

-- the entries that were found make the record
pub separating_record-returns-in-Some : goal.separating_record-returns-in-Some
separating_record-returns-in-Some t c =
    let extensions = c.args.search.now.extensions.now in
    let a = record_of (fields_of c.args.lower.now) c.args.openness in
    let b = record_of (fields_of c.args.upper.now) c.args.upper_openness in
    let found = rw c.in-Some.is at c.in_ok-start.ensures in
    (rw (tree_of-record c.in-Some.start.values) found.0, found.1)

-- where the kinds differ, the leaves were compared
pub separating_expr-returns-in_ok-found-in_default : goal.separating_expr-returns-in_ok-found-in_default
separating_expr-returns-in_ok-found-in_default t c =
    c.found_here.ensures c.args.search.now.extensions.now (ty_of c.args.a.now) (ty_of c.args.b.now) c.in_ok-found-in_default.ensures
