use Rattle.std.proofs.Common.{inl, inr, subst, sym, ◌∙◌}
use Rattle.std.proofs.lemmas.Bool.{false≢true}
use Rattle.cedar_queries.proofs.LookupLemmas.{action_known, type_known}
use Rattle.cedar_queries.proofs.possible.is_known_uid.Goals as goal
use Rattle.cedar_queries.specs.Words.{IsActionType, PlainName, uid_of}

pub returns-then-is_action : goal.returns-then-is_action
returns-then-is_action c =
    let known = action_known c.args.actions.now c.args.uid.now in
    let IsOfActions : PlainName → Type 0 = IsActionType in
    let action : IsActionType (uid_of c.args.uid.now).ty = subst IsOfActions c.entity_type.ensures.name (c.is_action.ensures.0 c.if-is_action.true) in (
      λ found. inl (action, known.0 (sym c.contains_key.ensures ∙ found)),
      elim [ inl both ↦ c.contains_key.ensures ∙ known.1 both.1 | inr both ↦ absurd (both.0 action) ],
    )

pub returns-else-is_action : goal.returns-else-is_action
returns-else-is_action c =
    let ty = c.entity_type-else-is_action.result.now in
    let known = type_known c.args.types.now ty in
    let IsOfActions : PlainName → Type 0 = IsActionType in
    let no_action : ¬ IsActionType (uid_of c.args.uid.now).ty = λ action.
    false≢true (sym c.if-is_action.false ∙ c.is_action.ensures.1 (subst IsOfActions (sym c.entity_type.ensures.name) action)) in (
      λ found. inr (no_action, rw c.entity_type-else-is_action.ensures.name at (known.0 (sym c.contains_key-else-is_action.ensures ∙ found))),
      elim [
        | inl both ↦ absurd (no_action both.0)
        | inr both ↦ c.contains_key-else-is_action.ensures
            ∙ known.1 (rw c.entity_type-else-is_action.ensures.name both.1)
      ],
    )
