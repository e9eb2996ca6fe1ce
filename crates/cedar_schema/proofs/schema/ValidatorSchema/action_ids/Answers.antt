use Rattle.std.proofs.Common.{List, map, subst, sym}
use Rattle.std.specs.List.Sorted.{IsStrictlySortedBy}
use Rattle.cedar_schema.proofs.SchemaNames.{action_uids_ascend}
use Rattle.cedar_schema.proofs.schema.ValidatorSchema.action_ids.Goals as goal
use Rattle.cedar_schema.specs.Words.{ValidatorActionId, action_of, uid_cmp}

pub returns-clause-in_order : goal.returns-clause-in_order
returns-clause-in_order c =
    let P : List ValidatorActionId → Type 0 = λ actions. IsStrictlySortedBy uid_cmp (map (λ it. (action_of it).uid) actions) in
    let rest = rw c.content.ensures at c.values.ensures.rest in
    subst P (sym rest) (action_uids_ascend c.args.self.now)
