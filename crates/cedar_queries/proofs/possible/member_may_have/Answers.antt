use Rattle.std.proofs.Common.{None, Some, inl, inr, sym, ◌∙◌, arith}
use Rattle.std.proofs.lemmas.Bool.{false≢true}
use Rattle.cedar_queries.proofs.DeclaredLemmas.{fields_found, openness_found}
use Rattle.cedar_queries.proofs.NotLemmas.{not_false, not_true}
use Rattle.cedar_queries.proofs.possible.member_may_have.Goals as goal
use Rattle.cedar_type_rules.proofs.InclusionLemmas.{found-Decides}
use Rattle.cedar_types.specs.Meaning.{attribute_of}

-- the type is no type of actions and is open, so its entities may have any attribute
pub returns-then-is_open_type : goal.returns-then-is_open_type
returns-then-is_open_type c =
    let openness = openness_found c.args.types.now c.args.member.now (Some c.in-Some.ty.now) (sym c.in-Some.ensures.value) in
    let both = c.is_open_type.ensures.0 c.if-is_open_type.true in (
      λ _. inl (both.0, openness ∙ (sym c.open_attributes.ensures ∙ both.1)),
      λ _. c.if-is_open_type.true,
    )

-- the type isn't open to others, so its entities may have just the attributes that it declares
pub returns-else-is_open_type : goal.returns-else-is_open_type
returns-else-is_open_type c =
    let openness = openness_found c.args.types.now c.args.member.now (Some c.in-Some.ty.now) (sym c.in-Some.ensures.value) in
    let fields = fields_found c.args.types.now c.args.member.now (Some c.in-Some.ty.now) (sym c.in-Some.ensures.value) in
    let shown = found-Decides attribute_of c.attr.result c.args.name.now _ c.attr.ensures.attribute in (
      λ found. inr (rw fields (shown.0 (sym c.is_some.ensures ∙ found))),
      elim [
        | inl both ↦ absurd (false≢true (sym c.if-is_open_type.false
            ∙ c.is_open_type.ensures.1 (both.0, c.open_attributes.ensures ∙ (sym openness ∙ both.1))))
        | inr among ↦ c.is_some.ensures ∙ shown.1 (rw fields at among)
      ],
    )

-- a type that isn't declared lists no attributes and counts as open, unless it is a type of actions
pub returns-in-None : goal.returns-in-None
returns-in-None c =
    let openness = openness_found c.args.types.now c.args.member.now None (sym c.in-None.ensures.value) in
    let fields = fields_found c.args.types.now c.args.member.now None (sym c.in-None.ensures.value) in
    let action = c.is_action in (
      λ free. inl (λ is. not_true action.result free (action.ensures.1 is), openness),
      elim [
        | inl both ↦ not_false action.result (λ is. both.0 (action.ensures.0 is))
        | inr among ↦ absurd (omega (arith, (rw fields at among).1))
      ],
    )
