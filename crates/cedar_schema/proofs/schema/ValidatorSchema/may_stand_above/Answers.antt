use Rattle.std.proofs.Common.{refl, subst, sym, ◌∙◌, ◌≡◌, Contains}
use Rattle.std.proofs.lemmas.Bool.{false≢true}
use Rattle.std.specs.Option.{option_copied}
use Rattle.cedar_schema.proofs.Lookups.{schema_keyed, type_at}
use Rattle.cedar_schema.proofs.schema.ValidatorSchema.may_stand_above.Goals as goal
use Rattle.cedar_schema.specs.Words.{IsIdOf, SchemaEntityType, plain_type, type_name, uid_of}

-- without an entity type of its own none stands above
pub returns-in-None : goal.returns-in-None
returns-in-None c =
    let schema = c.args.self.now in
    let none = rw (c.in-None.is, c.entity_type.ensures.name) at
    (type_at schema (type_name c.entity_type.result.now) (option_copied c.get_entity_type.result) c.get_entity_type.ensures) in
    (λ e. absurd cc, λ above. absurd (none above.0 above.1))

-- where the one is a descendant, the id decides
pub returns-then-has_descendant_entity_type : goal.returns-then-has_descendant_entity_type
returns-then-has_descendant_entity_type c =
    let schema = c.args.self.now in
    let upper = uid_of c.args.upper.now in
    let ty = plain_type c.in-Some.found.now in
    let at = rw (c.in-Some.is, c.entity_type.ensures.name) at
    (type_at schema (type_name c.entity_type.result.now) (option_copied c.get_entity_type.result) c.get_entity_type.ensures) in (
      λ yes. (
        ty,
        at,
        c.has_descendant_entity_type.ensures.0 c.if-has_descendant_entity_type.true,
        rw c.eid.ensures at (c.kind_has_id.ensures.0 yes),
      ),
      λ above. c.kind_has_id.ensures.1 (rw c.eid.ensures
          (subst (λ (t : SchemaEntityType). IsIdOf t.kind upper.eid) ((schema_keyed schema).types upper.ty above.0 ty above.1 at) above.3)),
    )

-- where it is none, the entity doesn't stand above
pub returns-else-has_descendant_entity_type : goal.returns-else-has_descendant_entity_type
returns-else-has_descendant_entity_type c =
    let schema = c.args.self.now in
    let upper = uid_of c.args.upper.now in
    let name = type_name c.args.ty.now in
    let ty = plain_type c.in-Some.found.now in
    let at = rw (c.in-Some.is, c.entity_type.ensures.name) at
    (type_at schema (type_name c.entity_type.result.now) (option_copied c.get_entity_type.result) c.get_entity_type.ensures) in (
      λ yes. absurd (false≢true (sym c.if-has_descendant_entity_type.false ∙ yes)),
      λ above. c.has_descendant_entity_type.ensures.1
          (subst (λ (t : SchemaEntityType). Contains t.descendants name) ((schema_keyed schema).types upper.ty above.0 ty above.1 at) above.2),
    )
