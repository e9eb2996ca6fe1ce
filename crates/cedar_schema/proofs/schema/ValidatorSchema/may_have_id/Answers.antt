use Rattle.std.proofs.Common.{refl, subst, sym, ◌∙◌, ◌≡◌, Some, None}
use Rattle.std.specs.Option.{option_copied}
use Rattle.cedar_schema.proofs.Lookups.{schema_keyed, type_at}
use Rattle.cedar_schema.proofs.schema.ValidatorSchema.may_have_id.Goals as goal
use Rattle.cedar_schema.specs.Words.{IsIdOf, SchemaEntityType, plain_type, type_name, uid_of}

-- the entity type of the name decides, which is the only one there
pub returns-in-Some : goal.returns-in-Some
returns-in-Some c =
    let schema = c.args.self.now in
    let uid = uid_of c.args.uid.now in
    let ty = plain_type c.in-Some.ty.now in
    let at = rw (c.in-Some.is, c.entity_type.ensures.name) at
    (type_at schema (type_name c.entity_type.result.now) (option_copied c.get_entity_type.result) c.get_entity_type.ensures) in (
      λ yes it there. subst (λ (t : SchemaEntityType). IsIdOf t.kind uid.eid) ((schema_keyed schema).types uid.ty ty it at there)
          (rw c.eid.ensures at (c.kind_has_id.ensures.0 yes)),
      λ may. c.kind_has_id.ensures.1 (rw c.eid.ensures (may ty at)),
    )

-- where there is none, every id may be there
pub returns-in-None : goal.returns-in-None
returns-in-None c =
    let schema = c.args.self.now in
    let none = rw (c.in-None.is, c.entity_type.ensures.name) at
    (type_at schema (type_name c.entity_type.result.now) (option_copied c.get_entity_type.result) c.get_entity_type.ensures) in
    (λ _ it there. absurd (none it there), λ _. refl)
