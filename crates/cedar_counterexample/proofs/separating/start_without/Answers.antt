use Rattle.std.proofs.Common.{inr, [], string_bytes, subst, ◌∙◌}
use Rattle.std.proofs.lemmas.Str.{IsUtf8-string_bytes}
use Rattle.cedar_counterexample.proofs.StartLemmas.{missing_start, other_start}
use Rattle.cedar_counterexample.proofs.separating.start_without.Goals as goal
use Rattle.cedar_counterexample.specs.Words.{Has, attribute_of, start_through, tree_of}
use Rattle.cedar_type_rules.proofs.SubtypeLaws.{HasField-name}
use Rattle.cedar_types.proofs.StatedSteps.{flag_same, type_same}

pub returns-then-attribute : goal.returns-then-attribute
returns-then-attribute c = λ extensions lower absent upper upper_openness also.
    let name = string_bytes c.args.name.now in
    let attribute = attribute_of c.args.attribute.now in
    rw c.in_ok-start_of_none.ensures (missing_start extensions lower upper c.args.openness upper_openness name attribute.0 attribute.1
    (λ own has. absent (HasField-name lower name _ own has)) (flag_same c.args.attribute.now ∙ c.if-attribute.true) also)

pub returns-in_ok-start_at-in-OpenAttributes : goal.returns-in_ok-start_at-in-OpenAttributes
returns-in_ok-start_at-in-OpenAttributes c = λ extensions lower absent upper upper_openness also.
    let name = string_bytes c.args.name.now in
    let attribute = attribute_of c.args.attribute.now in
    let value = tree_of c.other_value-value.result in
    let same = type_same c.args.attribute.now c.deref.result.now c.deref.ensures in
    let lacks : ¬ Has extensions value attribute.1 = subst (λ ty. ¬ Has extensions value ty) same (c.other_value-value.ensures.lacks extensions) in
    let start = start_through name (record { value = value; steps = [] }) in
    rw (c.in_ok-start_at-in-OpenAttributes.ensures, c.in-OpenAttributes.is) (other_start extensions lower upper upper_openness name attribute.0 attribute.1 value
    (IsUtf8-string_bytes c.args.name.now) absent also c.other_value-value.ensures.real lacks)

pub returns-in-ClosedAttributes : goal.returns-in-ClosedAttributes
returns-in-ClosedAttributes c = λ extensions lower absent.
    (inr (c.in-ClosedAttributes.is, absent, flag_same c.args.attribute.now ∙ c.if-attribute.false), tt)
