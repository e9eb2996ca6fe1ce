use Rattle.std.proofs.Common.{sym, subst, ◌∙◌, inr}
use Rattle.std.proofs.lemmas.Bool.{false≢true}
use Rattle.std.specs.Map.{keys_of}
use Rattle.cedar_validation.proofs.Checking.{checking_all, checking_here, checking_more, checking_none}
use Rattle.cedar_validation.proofs.Keyed.{key_named, named_key}
use Rattle.cedar_validation.proofs.names.check_type_names.Goals as goal
use Rattle.cedar_validation.specs.Words.{HasEntityType, IsActionType, PlainName, plain_parts, type_name}

pub loop-name-init : goal.loop-name-init
loop-name-init c =
    checking_none (λ name. ¬ IsActionType (type_name name)) (keys_of c.args.parts.now.entity_types.entries) _
    (c.into_iter-name-iterator.ensures.into_iter_gives ∙ c.keys-name-items.ensures.rest)

pub loop-name-preserved : goal.loop-name-preserved
loop-name-preserved c =
    checking_more (λ name. ¬ IsActionType (type_name name)) (keys_of c.args.parts.now.entity_types.entries) _ _
    c.in-Some.name.now c.in-Some.ensures.steps c.loop-name.invariant
    (λ is. false≢true (sym c.if-is_action.false ∙ c.is_action.ensures.1 is))

pub returns-clause-sound : goal.returns-clause-sound
returns-clause-sound c = λ name among.
    let types = c.args.parts.now.entity_types.entries in
    let key = named_key types name among in
    let P : PlainName → Type 0 = λ it. ¬ IsActionType it in
    subst P key.2
    (checking_all (λ each. ¬ IsActionType (type_name each)) (keys_of types) _ c.in-None.ensures.steps.0 c.loop-name.invariant key.0 key.1)

pub returns-then-is_action-clause-fault : goal.returns-then-is_action-clause-fault
returns-then-is_action-clause-fault c =
    let types = c.args.parts.now.entity_types.entries in
    let key = c.in-Some.name.now in
    let among =
    checking_here (λ each. ¬ IsActionType (type_name each)) (keys_of types) _ _ key c.in-Some.ensures.steps c.loop-name.invariant in
    let P : PlainName → Type 0 = λ it. HasEntityType (plain_parts c.args.parts.now) it × IsActionType it in
    inr (λ extensions. subst P (sym (c.in_ok-name.ensures.name ∙ (c.as_internal.ensures.name ∙ c.name.ensures.name)))
    (key_named types key among, c.is_action.ensures.0 c.if-is_action.true))
