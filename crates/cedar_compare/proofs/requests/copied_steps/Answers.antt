use Rattle.std.proofs.Common.{Global, Vec, ap, map, sym, ◌∙◌}
use Rattle.std.proofs.lemmas.List.{take_all}
use Rattle.cedar_compare.proofs.RequestSteps.{copied_more}
use Rattle.cedar_compare.proofs.requests.copied_steps.Goals as goal
use Rattle.cedar_compare.proofs.requests.copied_steps.Goals.{in-Attribute+in_ok-clone-in-Attribute+in_ok-push-in-Attribute, in-Element+in_ok-push-in-Element}
use Rattle.cedar_compare.specs.Words.{Step, attribute_step, step_of}
use Rattle.cedar_counterexample.specs.declared.steps.Step.TheVariants as step

pub loop-step-preserved : goal.loop-step-preserved
loop-step-preserved c =
    let more = copied_more step_of c.deref-step-items.result.now c.loop-step.copy.items c.match-step.copy.items c.loop-step.step-index
    c.step-item.result in
    elim c.match-step.branch [
      | in-Attribute+in_ok-clone-in-Attribute+in_ok-push-in-Attribute w ↦
          more (step.Attribute w.in_ok-clone-in-Attribute.field-0) c.loop-step-test.true c.step-item.is c.loop-step.invariant
          (ap (λ (it : Vec Step Global). it.items) w.copy-is ∙ w.in_ok-push-in-Attribute.ensures.items)
          (ap attribute_step w.in_ok-clone-in-Attribute.ensures.cases ∙ sym (ap step_of w.in-Attribute.is))
      | in-Element+in_ok-push-in-Element w ↦
          more step.Element c.loop-step-test.true c.step-item.is c.loop-step.invariant
          (ap (λ (it : Vec Step Global). it.items) w.copy-is ∙ w.in_ok-push-in-Element.ensures.items)
          (sym (ap step_of w.in-Element.is))
    ]

pub returns : goal.returns
returns c =
    c.loop-step.invariant
    ∙ (ap (map step_of) (take_all c.loop-step.step-index c.deref-step-items.result.now c.loop-step-test.false)
    ∙ ap (map step_of) c.deref-step-items.ensures.value)
