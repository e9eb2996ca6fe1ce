use Rattle.std.proofs.Common.{inl, inr, sym, ◌∙◌}
use Rattle.std.proofs.lemmas.Bool.{false≢true}
use Rattle.cedar_queries.proofs.LookupLemmas.{type_known}
use Rattle.cedar_queries.proofs.descent.is_known_entity_type.Goals as goal

pub returns-then-contains_key : goal.returns-then-contains_key
returns-then-contains_key c =
    let known = type_known c.args.types.now c.args.name.now in (
      λ found. inl (known.0 (sym c.contains_key.ensures ∙ found)),
      λ _. c.if-contains_key.true,
    )

pub returns-else-contains_key : goal.returns-else-contains_key
returns-else-contains_key c =
    let known = type_known c.args.types.now c.args.name.now in (
      λ found. inr (c.is_action.ensures.0 found),
      elim [
        | inl there ↦ absurd (false≢true (sym c.if-contains_key.false ∙ (c.contains_key.ensures ∙ known.1 there)))
        | inr action ↦ c.is_action.ensures.1 action
      ],
    )
