use Rattle.std.proofs.Common.{refl, inl, inr}
use Rattle.cedar_builder.proofs.entity_type_kinds.standard_type.Goals as goal
use Rattle.cedar_builder.specs.Words.{fields_of, namespace_name, type_expr}
use Rattle.cedar_name_resolution.proofs.ExitLemmas.{exit_holds}

-- attributes are refused for their types, or as they are no record type
pub returns-in_err-attributes-clause-fault : goal.returns-in_err-attributes-clause-fault
returns-in_err-attributes-clause-fault g c =
    exit_holds _ _ _ c.from_residual.ensures.1
    (λ parents.
    elim c.in_err-attributes.ensures.fault [
      | inl wanting ↦ inl wanting
      | inr (inl refused) ↦ inr (inl (type_expr g.row.N.Denot (g.N.WrittenName.refer (namespace_name c.args.namespace)) c.args.shape.now, inl refl, refused))
      | inr (inr none) ↦ inr (inr none)
    ])

-- tags are refused for their types
pub returns-in_err-tags-clause-fault : goal.returns-in_err-tags-clause-fault
returns-in_err-tags-clause-fault g c =
    exit_holds _ _ _ c.from_residual-in_err-tags.ensures.1
    (λ parents.
    elim c.in_err-tags.ensures.fault [
      | inl wanting ↦ inl wanting
      | inr refused ↦ inr (inl (refused.0, inr refused.1, refused.2))
    ])

-- attributes and tags are elaborated, and there are no descendants yet
pub returns-clause-elaborates : goal.returns-clause-elaborates
returns-clause-elaborates g c = λ parents.
    let made = c.new_standard_sharing in
    record {
      name = made.ensures.name;
      kind = rw made.ensures.kind (c.in_ok-attributes.ensures.elaborates, refl, c.in_ok-tags.ensures.elaborates);
      no_descendants = made.ensures.descendants;
    }

-- attributes and tags are closed, and their extension types are in scope
pub returns-clause-sound : goal.returns-clause-sound
returns-clause-sound g c = λ parents.
    record {
      closed = λ expr counts. elim counts [
        | inl shape ↦ rw shape at c.in_ok-attributes.ensures.closed
        | inr tags ↦ c.in_ok-tags.ensures.closed expr tags
      ];
      extensions = λ expr counts. elim counts [
        | inl shape ↦ rw shape at c.in_ok-attributes.ensures.extensions
        | inr tags ↦ c.in_ok-tags.ensures.extensions expr tags
      ];
      resolves = λ expr counts. elim counts [
        | inl shape ↦ rw shape at c.in_ok-attributes.ensures.resolved
        | inr tags ↦ c.in_ok-tags.ensures.resolved expr tags
      ];
      record_shape = (fields_of c.in_ok-attributes.attributes, c.in_ok-attributes.ensures.elaborates);
    }
