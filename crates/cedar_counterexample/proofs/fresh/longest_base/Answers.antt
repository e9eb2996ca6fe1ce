use Rattle.std.proofs.Common.{◌≡◌, ◌≤◌, ap, ◌∙◌, length, arith}
use Rattle.std.proofs.lemmas.Grind.{common_steps}
use Rattle.cedar_counterexample.proofs.FreshLemmas.{longest_next}
use Rattle.cedar_counterexample.proofs.fresh.longest_base.Goals as goal
use Rattle.cedar_counterexample.specs.Words.{PlainName, lub_names, type_name}

pub loop-ty-preserved : goal.loop-ty-preserved
loop-ty-preserved c =
    let name = type_name c.in-Some.ty.now in
    let all = lub_names c.args.lub.now in
    let text : c.as_str.result.now ≡ name.base =
    c.as_str.ensures.text ∙ (c.basename.ensures ∙ ap (λ (n : PlainName). n.base) c.name.ensures.name) in
    let len = ap length text in
    let longer : c.loop-ty.longest ≤ c.max-longest.result = grind (arith, common_steps, c.max-longest.ensures) in
    let long : length name.base ≤ c.max-longest.result = grind (arith, common_steps, c.max-longest.ensures, len) in
    longest_next (λ (n : PlainName). n.base) all _ name c.loop-ty.longest c.max-longest.result longer long
    (rw c.in-Some.ensures.steps at c.loop-ty.invariant)
