use Rattle.std.proofs.Common.{List, ap, map, subst, sym, ◌∙◌}
use Rattle.std.specs.List.Sorted.{IsStrictlySortedBy}
use Rattle.cedar_schema.proofs.SchemaKeys.{agreed_on}
use Rattle.cedar_schema.proofs.SchemaNames.{action_keys_ascend}
use Rattle.cedar_schema.proofs.schema.ValidatorSchema.actions.Goals as goal
use Rattle.cedar_schema.specs.Words.{EntityUID, action_entries, name_type_loc, uid_cmp, uid_loc, uid_of, uid_type_loc}
use Rattle.cedar_schema_elements.specs.ValidatorActionId.{name_loc}

pub returns-clause-in_order : goal.returns-clause-in_order
returns-clause-in_order c =
    let P : List EntityUID → Type 0 = λ uids. IsStrictlySortedBy uid_cmp (map uid_of uids) in
    let rest = rw c.content.ensures at c.keys.ensures.rest in
    subst P (sym rest) (action_keys_ascend c.args.self.now)

pub returns-clause-located : goal.returns-clause-located
returns-clause-located c =
    ap (map uid_loc) (rw c.content.ensures at c.keys.ensures.rest)
    ∙ agreed_on (λ entry. entry.0) uid_loc (λ entry. name_loc entry.1) (action_entries c.args.self.now)
    (λ entry among. (c.args.self.now.content.actions_located entry among).uid)

pub returns-clause-types_located : goal.returns-clause-types_located
returns-clause-types_located c =
    ap (map uid_type_loc) (rw c.content.ensures at c.keys.ensures.rest)
    ∙ agreed_on (λ entry. entry.0) uid_type_loc (λ entry. name_type_loc entry.1) (action_entries c.args.self.now)
    (λ entry among. (c.args.self.now.content.actions_located entry among).ty)
