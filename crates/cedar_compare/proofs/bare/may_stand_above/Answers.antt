use Rattle.std.proofs.Common.{Contains, List, Option, subst, sym, ◌∙◌}
use Rattle.std.proofs.lemmas.Bool.{false≢true}
use Rattle.cedar_compare.proofs.StandLemmas.{may_stand, stands_listed, stands_with}
use Rattle.cedar_compare.proofs.bare.may_stand_above.Goals as goal
use Rattle.cedar_compare.specs.Words.{MayHave, Text, choice_texts, plain_type, schema_of, type_name, uid_of}

-- a uid whose entity type the schema lacks may stand above nothing
pub returns-in_default : goal.returns-in_default
returns-in_default c =
    let schema = schema_of c.args.schema.now in (
      λ wrong. absurd (false≢true wrong),
      λ above. absurd (c.in_default.ensures above.0
          (subst (λ n. Contains schema.entity_types (n, above.0)) (sym c.entity_type.ensures.name) above.1)),
    )

-- a uid whose type doesn't list the lower type may not stand above its entities
pub returns-then-not-has_descendant_entity_type : goal.returns-then-not-has_descendant_entity_type
returns-then-not-has_descendant_entity_type c =
    let schema = schema_of c.args.schema.now in
    let upper = uid_of c.args.upper.now in
    let ty = plain_type c.in-Some.ty.now in
    let there = subst (λ n. Contains schema.entity_types (n, ty)) c.entity_type.ensures.name c.in-Some.ensures in (
      λ wrong. absurd (false≢true wrong),
      λ above. absurd (false≢true (sym c.if-not-has_descendant_entity_type.true
          ∙ c.has_descendant_entity_type.ensures.1 (stands_listed schema (type_name c.args.name.now) upper ty there c.requires above))),
    )

-- a uid of an enumerated type that lists the lower type may stand there just where it is a choice
pub returns-in-Some-choices_of : goal.returns-in-Some-choices_of
returns-in-Some-choices_of c =
    let schema = schema_of c.args.schema.now in
    let upper = uid_of c.args.upper.now in
    let name = type_name c.args.name.now in
    let ty = plain_type c.in-Some.ty.now in
    let there = subst (λ n. Contains schema.entity_types (n, ty)) c.entity_type.ensures.name c.in-Some.ensures in
    let below = c.has_descendant_entity_type.ensures.0 c.if-not-has_descendant_entity_type.false in
    let P : Option (List Text) → Type 0 = λ choices. MayHave choices upper.eid in
    let Q : Text → Type 0 = Contains (choice_texts c.in-Some-choices_of.choices.now) in (
      λ yes. may_stand schema name upper ty there below
          (subst P c.in-Some-choices_of.ensures (subst Q c.eid.ensures (c.has_choice.ensures.0 yes))),
      λ above. c.has_choice.ensures.1
          (subst Q (sym c.eid.ensures) (subst P (sym c.in-Some-choices_of.ensures) (stands_with schema name upper ty there c.requires above))),
    )
