use Rattle.std.proofs.Common.{◌≡◌, Some, ap, sym}
use Rattle.cedar_schema_writer.proofs.Refusals.{refusal_passed}
use Rattle.cedar_schema_writer.proofs.TypeLemmas.{sound-union}
use Rattle.cedar_schema_writer.proofs.types.write_kind.Goals as goal
use Rattle.cedar_schema_writer.specs.Words.{kind_ty, known_names, lub_names, only_name, plain_namespace, type_name}

pub returns-in_err-write_name-in-Some-clause-refusal : goal.returns-in_err-write_name-in-Some-clause-refusal
returns-in_err-write_name-in-Some-clause-refusal c =
    let names = known_names c.args.known.now in
    let namespace = plain_namespace c.args.namespace.now in
    let name = type_name c.in-Some.ty.now in
    let only : only_name (lub_names c.in-Entity.union) ≡ Some name = sym c.in-Some.ensures.name in
    refusal_passed _ _ c.from_residual.ensures.1 c.in_err-write_name-in-Some.ensures.refusal
    (λ other sound. other ((sound-union names namespace (lub_names c.in-Entity.union) name only).0 (rw (ap kind_ty c.in-Entity.is) at sound)))

pub returns-in_ok-write_name-in-Some-clause-sound : goal.returns-in_ok-write_name-in-Some-clause-sound
returns-in_ok-write_name-in-Some-clause-sound c =
    let names = known_names c.args.known.now in
    let namespace = plain_namespace c.args.namespace.now in
    let name = type_name c.in-Some.ty.now in
    let only : only_name (lub_names c.in-Entity.union) ≡ Some name = sym c.in-Some.ensures.name in
    rw (ap kind_ty c.in-Entity.is)
    ((sound-union names namespace (lub_names c.in-Entity.union) name only).1 c.in_ok-write_name-in-Some.ensures.no_other)
