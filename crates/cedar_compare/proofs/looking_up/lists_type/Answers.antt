use Rattle.std.proofs.Common.{subst, Contains}
use Rattle.std.proofs.lemmas.Bool.{false≢true}
use Rattle.cedar_compare.proofs.looking_up.lists_type.Goals as goal
use Rattle.cedar_compare.specs.Words.{SchemaEntityType, plain_type, type_name}

pub returns-in-Some : goal.returns-in-Some
returns-in-Some c =
    let ty = plain_type c.in-Some.ty.now in (
      λ yes. (ty, c.in-Some.ensures, c.has_descendant_entity_type.ensures.0 yes),
      λ (it, there, below). c.has_descendant_entity_type.ensures.1 (subst (λ (t : SchemaEntityType). Contains t.descendants (type_name c.args.lower.now))
          (c.requires.types (type_name c.args.upper.now) it ty there c.in-Some.ensures) below),
    )

pub returns-in-None : goal.returns-in-None
returns-in-None c = (λ wrong. absurd (false≢true wrong), λ (it, there, below). absurd (c.in-None.ensures it there))
