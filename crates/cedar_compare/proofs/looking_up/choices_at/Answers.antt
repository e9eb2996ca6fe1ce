use Rattle.std.proofs.Common.{List, Option, subst, sym}
use Rattle.cedar_compare.proofs.FindLemmas.{choices_there}
use Rattle.cedar_schema.proofs.Lookups.{schema_keyed}
use Rattle.cedar_compare.proofs.looking_up.choices_at.Goals as goal
use Rattle.cedar_compare.specs.Words.{AreChoicesAt, Text, plain_type, schema_of, type_name}

pub returns-in-Some : goal.returns-in-Some
returns-in-Some c =
    let schema = schema_of c.args.schema.now in
    let name = type_name c.args.name.now in
    let P : Option (List Text) → Type 0 = AreChoicesAt schema name in
    subst P (sym c.choices_of.ensures) (choices_there schema (schema_keyed c.args.schema.now) name (plain_type c.in-Some.ty.now) c.in-Some.ensures)

pub returns-in-None : goal.returns-in-None
returns-in-None c = λ it among. absurd (c.in-None.ensures it among)
