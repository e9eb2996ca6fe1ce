use Rattle.std.proofs.Common.{ap, map, Contains}
use Rattle.cedar_schema_writer.proofs.KindLemmas.{enumerated_alone, shows_none, standard-parts, written_names}
use Rattle.cedar_schema_writer.proofs.Refusals.{refusal_passed, refusal_weaker}
use Rattle.cedar_schema_writer.proofs.entity_types.write_entity_type.Goals as goal
use Rattle.cedar_schema_writer.specs.Words.{entity_type_of, known_names, plain_kind, plain_namespace, raw_name}

pub returns-in_err-standard-in-Standard-clause-refusal : goal.returns-in_err-standard-in-Standard-clause-refusal
returns-in_err-standard-in-Standard-clause-refusal c =
    let kind = (entity_type_of c.args.ty.now).kind in
    refusal_passed _ _ c.from_residual.ensures.1 c.in_err-standard-in-Standard.ensures.refusal
    (λ unsound sound. unsound (rw (standard-parts kind _ _ _ (ap plain_kind c.in-Standard.is)) sound))

pub returns-in_ok-standard-in-Standard-clause-sound : goal.returns-in_ok-standard-in-Standard-clause-sound
returns-in_ok-standard-in-Standard-clause-sound c =
    let kind = (entity_type_of c.args.ty.now).kind in
    rw (standard-parts kind _ _ _ (ap plain_kind c.in-Standard.is)) at c.in_ok-standard-in-Standard.ensures.sound

pub returns-in-Enum-clause-refusal : goal.returns-in-Enum-clause-refusal
returns-in-Enum-clause-refusal c =
    refusal_weaker _ _
    (λ some sound. some (shows_none raw_name c.args.parents.items
    (enumerated_alone (known_names c.args.known.now) (plain_namespace c.args.namespace.now)
    (λ upper. Contains (map raw_name c.args.parents.items) upper) (entity_type_of c.args.ty.now).kind _
    (ap plain_kind c.in-Enum.is) sound)))
    c.write_enumerated.result c.write_enumerated.ensures.refusal

pub returns-in-External-clause-written : goal.returns-in-External-clause-written
returns-in-External-clause-written c =
    let namespace = plain_namespace c.args.namespace.now in
    rw (ap plain_kind c.in-External.is, c.external_type.ensures namespace)
    (written_names namespace c.args.parents.items)
