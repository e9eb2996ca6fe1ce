use Rattle.std.proofs.Common.{inl, refl}
use Rattle.cedar_schema_writer.proofs.KindLemmas.{written_names}
use Rattle.cedar_schema_writer.proofs.Refusals.{refusal_passed}
use Rattle.cedar_schema_writer.proofs.entity_types.write_standard.Goals as goal
use Rattle.cedar_schema_writer.specs.Words.{entity_type_of, kind_fields, kind_openness, plain_namespace, record_of}

pub returns-in_err-shape-clause-refusal : goal.returns-in_err-shape-clause-refusal
returns-in_err-shape-clause-refusal c =
    let kind = (entity_type_of c.args.ty.now).kind in
    refusal_passed _ _ c.from_residual.ensures.1 c.in_err-shape.ensures.refusal
    (λ unsound sound. unsound (sound.types (record_of (kind_fields kind) (kind_openness kind)) (inl refl)))

pub returns-clause-written : goal.returns-clause-written
returns-clause-written c =
    let namespace = plain_namespace c.args.namespace.now in (
      written_names namespace c.args.parents.items,
      c.in_ok-shape.ensures.written,
      rw c.tag_type.ensures.ty at c.in_ok-tags.ensures.written,
    )
