use Rattle.std.proofs.Common.{refl}
use Rattle.cedar_schema.proofs.lookup.TypeSchemaLookup.euid_literal.Goals as goal

pub returns-clause-known : goal.returns-clause-known
returns-clause-known c =
    let known = rw c.content-content.ensures at c.is_known_uid.ensures in
    (λ _. known.0 c.if-not-is_known_uid.false, λ _. refl)
