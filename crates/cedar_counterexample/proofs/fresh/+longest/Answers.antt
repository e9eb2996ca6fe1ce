use Rattle.std.proofs.Common.{◌≤◌, List, ap, arith, inl, refl, string_bytes, subst, sym, Global}
use Rattle.std.proofs.lemmas.Grind.{common_steps}
use Rattle.cedar_counterexample.proofs.FreshLemmas.{mentioned_all, mentioned_next, mentioned_start}
use Rattle.cedar_counterexample.proofs.Sizes.{attribute_smaller}
use Rattle.cedar_counterexample.proofs.fresh.+longest.Goals as goal
use Rattle.cedar_counterexample.specs.Words.{AreNoLonger, AttributeType, MentionsEntity, attribute_of, fields_from, fields_of, plain_attributes}
use Rattle.std.specs.declared.string.String.{String}
use Rattle.cedar_types.proofs.StatedSteps.{type_same}

-- at first all are left
pub longest_in_attributes-loop-attribute-init : goal.longest_in_attributes-loop-attribute-init
longest_in_attributes-loop-attribute-init t c =
    let is = c.iter-attribute-items.ensures.attributes in
    rw (c.into_iter-attribute-iterator.ensures.into_iter_gives, is) (mentioned_start (fields_of c.args.attrs.now) 0)

-- the type of an attribute is smaller than all
pub longest_in_attributes-longest_in-requires : goal.longest_in_attributes-longest_in-requires
longest_in_attributes-longest_in-requires t c =
    let all = fields_of c.args.attrs.now in
    let name = string_bytes c.in-Some.field-0-0.now in
    let attribute = attribute_of c.in-Some.attribute.now in
    let so_far = rw c.in-Some.ensures.steps at c.loop-attribute.invariant in
    let same = type_same c.in-Some.attribute.now c.deref.result.now c.deref.ensures in
    let less = rw (← same) at (attribute_smaller all name attribute.0 attribute.1 (so_far.within name attribute.0 attribute.1 (inl (refl, refl, refl)))) in
    (omega (arith, less, c.decreases), tt)

-- past one more attribute
pub longest_in_attributes-loop-attribute-preserved :
    goal.longest_in_attributes-loop-attribute-preserved
longest_in_attributes-loop-attribute-preserved t c =
    let all = fields_of c.args.attrs.now in
    let name = string_bytes c.in-Some.field-0-0.now in
    let attribute = attribute_of c.in-Some.attribute.now in
    let same = type_same c.in-Some.attribute.now c.deref.result.now c.deref.ensures in
    let longer : c.loop-attribute.longest ≤ c.max-longest.result = grind (arith, common_steps, c.max-longest.ensures) in
    let long : c.longest_in.result ≤ c.max-longest.result = grind (arith, common_steps, c.max-longest.ensures) in
    let short : AreNoLonger (MentionsEntity attribute.1) c.max-longest.result = λ n mentions.
    (let less = c.longest_in.ensures n (subst (λ ty. MentionsEntity ty n) (sym same) mentions) in omega (arith, less, long)) in
    mentioned_next all _ name attribute.0 attribute.1 c.loop-attribute.longest c.max-longest.result longer short
    (rw c.in-Some.ensures.steps at c.loop-attribute.invariant)

-- where none is left, none is longer
pub longest_in_attributes-returns : goal.longest_in_attributes-returns
longest_in_attributes-returns t c =
    mentioned_all (fields_of c.args.attrs.now) _ c.loop-attribute.longest
    (ap (λ (items : List (String Global × AttributeType)). fields_from (plain_attributes items)) c.in-None.ensures.steps.0)
    c.loop-attribute.invariant
