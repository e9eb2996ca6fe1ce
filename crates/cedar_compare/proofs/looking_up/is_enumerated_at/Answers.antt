use Rattle.std.proofs.Common.{subst}
use Rattle.std.proofs.lemmas.Bool.{false≢true}
use Rattle.cedar_compare.proofs.looking_up.is_enumerated_at.Goals as goal
use Rattle.cedar_compare.specs.Words.{IsEnumerated, SchemaEntityType, plain_type, type_name}

pub returns-in-Some : goal.returns-in-Some
returns-in-Some c =
    let ty = plain_type c.in-Some.ty.now in (
      λ yes. (ty, c.in-Some.ensures, c.is_enumerated.ensures.0 yes),
      λ (it, there, enumerated). c.is_enumerated.ensures.1 (subst (λ (t : SchemaEntityType). IsEnumerated t.kind)
          (c.requires.types (type_name c.args.name.now) it ty there c.in-Some.ensures) enumerated),
    )

pub returns-in-None : goal.returns-in-None
returns-in-None c = (λ wrong. absurd (false≢true wrong), λ (it, there, enumerated). absurd (c.in-None.ensures it there))
