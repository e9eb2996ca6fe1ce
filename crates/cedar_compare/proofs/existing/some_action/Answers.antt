use Rattle.std.proofs.Common.{ap, map, subst, sym, ◌∙◌}
use Rattle.std.proofs.lemmas.Bool.{false≢true}
use Rattle.cedar_compare.proofs.FindLemmas.{plain_keys}
use Rattle.cedar_compare.proofs.LeftLemmas.{sure_all, sure_more, sure_none}
use Rattle.cedar_compare.proofs.existing.some_action.Goals as goal
use Rattle.cedar_compare.specs.Words.{IsActionType, IsExistingOf, PlainUid, action_entries, action_of, schema_of, type_name, uid_of}

-- at first all actions are left
pub loop-uid-init : goal.loop-uid-init
loop-uid-init c =
    sure_none (λ (uid : PlainUid). ¬ IsExistingOf (schema_of c.args.schema.now) (type_name c.args.name.now) uid)
    (map (λ it. it.0) (schema_of c.args.schema.now).actions) (map uid_of c.into_iter-uid-iterator.result)
    (ap (map uid_of) (c.into_iter-uid-iterator.ensures.into_iter_gives ∙ c.actions-uid-items.ensures.uids)
    ∙ sym (plain_keys uid_of action_of (action_entries c.args.schema.now)))

-- one more isn't of the type, or doesn't exist
pub loop-uid-preserved : goal.loop-uid-preserved
loop-uid-preserved c =
    let P : PlainUid → Type 0 = λ uid. ¬ IsExistingOf (schema_of c.args.schema.now) (type_name c.args.name.now) uid in
    sure_more P P (map (λ it. it.0) (schema_of c.args.schema.now).actions)
    (map uid_of c.loop-uid.uid-iterator) (map uid_of c.next.new.self) (uid_of c.in-Some.uid.now) (ap (map uid_of) c.in-Some.ensures.steps)
    (λ uid none. none) (λ of. false≢true (sym c.if-is_action_of.false ∙ c.is_action_of.ensures.1 of)) c.loop-uid.invariant

-- where none is left, none of the type exists, as uids of actions are actions of the schema
pub returns-clause-none : goal.returns-clause-none
returns-clause-none c = λ _ some.
    let schema = schema_of c.args.schema.now in
    let P : PlainUid → Type 0 = λ uid. ¬ IsExistingOf schema (type_name c.args.name.now) uid in
    sure_all P (map (λ it. it.0) schema.actions) (map uid_of c.loop-uid.uid-iterator) (ap (map uid_of) c.in-None.ensures.steps.0) c.loop-uid.invariant some.0
    (some.3.action (subst IsActionType (sym some.1) c.requires)) (some.1, some.3)
