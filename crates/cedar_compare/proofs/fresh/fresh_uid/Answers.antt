use Rattle.std.proofs.Common.{◌≤◌, ap, arith, length, ◌∙◌}
use Rattle.std.proofs.lemmas.Grind.{common_steps}
use Rattle.cedar_compare.proofs.FreshLemmas.{fresh_of}
use Rattle.cedar_compare.proofs.fresh.fresh_uid.Goals as goal
use Rattle.cedar_compare.specs.Words.{schema_of, type_name, uid_of}

pub returns-clause-fresh : goal.returns-clause-fresh
returns-clause-fresh c =
    let actions = c.longest_action_id.result in
    let choices = c.longest_choice_of.result in
    let longest = c.max.result in
    let first : actions ≤ longest = grind (arith, common_steps, c.max-longest.ensures, c.max.ensures) in
    let second : choices ≤ longest = grind (arith, common_steps, c.max-longest.ensures, c.max.ensures) in
    fresh_of (schema_of c.args.schema.now) (type_name c.args.name.now) (uid_of c.new.result) actions choices longest
    (c.new.ensures.ty ∙ c.in_ok-clone.ensures.name) (ap length c.new.ensures.eid ∙ c.in_ok-eid.ensures) first second
    c.longest_action_id.ensures c.longest_choice_of.ensures
