use Rattle.std.proofs.Common.{◌≡◌, List, [], ap, inl, map, refl, reverse, string_bytes, subst, sym, true, ◌∙◌, Contains, Global}
use Rattle.std.proofs.lemmas.Bool.{false≢true}
use Rattle.std.proofs.lemmas.Str.{IsUtf8-string_bytes}
use Rattle.std.specs.declared.string.String.{String}
use Rattle.cedar_ast.proofs.ValueCopies.{tree_of-truth}
use Rattle.cedar_counterexample.proofs.StartLemmas.{AreInhabitedWith-of, further_start, names_all, names_next, open_start}
use Rattle.cedar_counterexample.proofs.separating.separating_names.Goals as goal
use Rattle.cedar_counterexample.specs.Words.{AttributeType, FieldsIncluded, IsInhabitedWith, IsSortedByName-fields, IsValueOf, attribute_of, entries_of, entry, field_names, fields_from, fields_of, no_entry, plain_attributes, start_of, step_of, tree_of, truth_value, value_trees}
use Rattle.cedar_type_rules.proofs.InclusionLemmas.{found-Decides}
use Rattle.cedar_types.proofs.StatedSteps.{type_same}

-- the type of an attribute of an inhabited record is inhabited
pub sample_of-requires : goal.sample_of-requires
sample_of-requires c =
    let samples = value_trees c.args.search.now.samples.now in
    let lower = fields_of c.args.lower.now in
    let name = string_bytes c.in-Some.name.now in
    let attribute = attribute_of c.in-Some.attribute.now in
    let so_far = rw c.in-Some.ensures.steps at c.loop-name.invariant in
    subst (IsInhabitedWith c.args.search.now.extensions.now samples)
    (sym (type_same c.in-Some.attribute.now c.deref-then-is_none.result.now c.deref-then-is_none.ensures))
    (AreInhabitedWith-of c.args.search.now.extensions.now samples lower name attribute.0 attribute.1 c.requires.inhabited
    (so_far.within name attribute.0 attribute.1 (inl (refl, refl, refl))))

-- an attribute that the other record lacks starts a value that it doesn't have
pub returns-then-is_none : goal.returns-then-is_none
returns-then-is_none c =
    let extensions = c.args.search.now.extensions.now in
    let lower = fields_of c.args.lower.now in
    let upper = fields_of c.args.upper.now in
    let name = string_bytes c.in-Some.name.now in
    let attribute = attribute_of c.in-Some.attribute.now in
    let so_far = rw c.in-Some.ensures.steps at c.loop-name.invariant in
    let found = found-Decides attribute_of c.get_attr.result c.deref.result.now upper c.get_attr.ensures.attribute in
    let absent : ¬ Contains (field_names upper) name = λ among.
    false≢true (sym c.if-is_none.ensures ∙ found.1 (subst (Contains (field_names upper)) (sym c.deref.ensures) among)) in
    let value = tree_of c.in_ok-sample.sample in
    let sample = subst (λ ty. IsValueOf extensions ty value)
    (type_same c.in-Some.attribute.now c.deref-then-is_none.result.now c.deref-then-is_none.ensures) c.in_ok-sample.ensures in
    rw c.in_ok-start_at.ensures (further_start extensions lower upper c.args.openness name attribute.0 attribute.1 value
    (IsSortedByName-fields c.args.lower.now) (IsUtf8-string_bytes c.in-Some.name.now)
    (so_far.within name attribute.0 attribute.1 (inl (refl, refl, refl))) absent sample)

-- a name that the other record has too leaves the rest to decide
pub loop-name-preserved : goal.loop-name-preserved
loop-name-preserved c =
    let lower = fields_of c.args.lower.now in
    let upper = fields_of c.args.upper.now in
    let name = string_bytes c.in-Some.name.now in
    let attribute = attribute_of c.in-Some.attribute.now in
    let found = found-Decides attribute_of c.get_attr.result c.deref.result.now upper c.get_attr.ensures.attribute in
    names_next lower upper name attribute.0 attribute.1 _ (rw c.in-Some.ensures.steps at c.loop-name.invariant)
    (subst (Contains (field_names upper)) c.deref.ensures (found.0 c.if-is_none.ensures))

-- an open record has a name that the closed one lacks
pub returns-in_ok-values-in-OpenAttributes : goal.returns-in_ok-values-in-OpenAttributes
returns-in_ok-values-in-OpenAttributes c =
    let extensions = c.args.search.now.extensions.now in
    let lower = fields_of c.args.lower.now in
    let upper = fields_of c.args.upper.now in
    let name = c.in_ok-name-in-OpenAttributes.name in
    let values = c.in_ok-values-in-OpenAttributes.values in
    let start = start_of (record { values = values; steps = c.new-steps.result }) in
    let is : entries_of values ≡ entry (string_bytes name) (truth_value true) no_entry =
    c.in_ok-values-in-OpenAttributes.ensures ∙ ap (λ value. entry (string_bytes name) value no_entry) (tree_of-truth true) in
    let whole : start ≡ record { values = entry (string_bytes name) (truth_value true) no_entry; steps = [] } =
    λ i. record { values = is i; steps = map step_of (reverse (c.new-steps.ensures.items i)) } in
    let parts = subst (λ openness. FieldsIncluded openness lower upper) c.in-OpenAttributes.is c.requires.included in
    rw (c.in-OpenAttributes.is, whole) (open_start extensions lower upper (string_bytes name) (IsUtf8-string_bytes name) c.in_ok-name-in-OpenAttributes.ensures parts)

-- where no name is left, all names of the one are names of the other
pub returns-in-ClosedAttributes : goal.returns-in-ClosedAttributes
returns-in-ClosedAttributes c =
    let extensions = c.args.search.now.extensions.now in
    let lower = fields_of c.args.lower.now in
    let upper = fields_of c.args.upper.now in
    let none = ap (λ (items : List (String Global × AttributeType)). fields_from (plain_attributes items)) c.in-None.ensures.steps.0 in
    let names = names_all lower upper _ none c.loop-name.invariant in
    rw c.in-ClosedAttributes.is (tt, names, subst (λ openness. FieldsIncluded openness lower upper) c.in-ClosedAttributes.is c.requires.included)
