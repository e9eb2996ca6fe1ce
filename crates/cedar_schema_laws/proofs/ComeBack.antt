-- The schema that a bag declares meets what a schema has to that is converted back, so that it
-- comes back.
use Rattle.std.proofs.Common.{inl, inr}
use Rattle.cedar_ast.proofs.Basics.{Contains-image}
use Rattle.cedar_schema_laws.proofs.DeclaredKinds.{decide_record}
use Rattle.cedar_schema_laws.proofs.FaultsConvertedBack.{converted_schemas_are_well_formed}
use Rattle.cedar_schema_laws.proofs.SchemasConvertedBack.{converted_schemas_are_declared}
use Rattle.cedar_schema_laws.proofs.ValidLaws.{declared_action_uid, declared_closed, declared_type, declared_valid}
use Rattle.cedar_schema_laws.specs.Words.{ActionKind, ActionSays, Bag, DeclaredSchemasComeBack, Extensions, HasNoReservedName, HasRecordContexts, IsContextOf, IsDeclaredActionKind, IsDeclaredSchema, IsIllFormed, IsInOrder, IsRecordType, PlainSchema, PlainUid, PositionsFit, Requests, StandsUnderItsNames, Ty, TypeNamesFit, action_uids, context_not_record, defined_action, definitions, elsewhere, extension_types, requests, reserved_name}

module _ (bag : Bag) (extensions : Extensions) (schema : PlainSchema) (declared : IsDeclaredSchema bag extensions schema) where
  -- a declared schema is in order
  declared_in_order : IsInOrder schema
  declared_in_order = record { entity_types = declared.entity_types_in_order; actions = declared.actions_in_order }

  -- and stands under its names
  pub declared_under_names : StandsUnderItsNames schema
  declared_under_names = record {
    entity_types = λ it among. (declared.entity_types it among).name;
    actions = λ it among. (declared.actions it among).uid;
  }

  -- where nothing is at fault, the context of a declared kind is a record
  context_is_record : ¬ IsIllFormed bag extensions → (uid : PlainUid) (applies_to : Requests) (kind : ActionKind)
      → ActionSays bag uid applies_to → IsDeclaredActionKind (definitions bag extensions) applies_to kind → (ty : Ty)
      → IsContextOf kind ty → IsRecordType ty
  context_is_record well uid (requests principals resources context) (defined_action ps rs other) says is ty same =
      elim (decide_record other) [
        | inl is_record ↦ rw same at is_record
        | inr none ↦ absurd (well (context_not_record uid, (principals, resources, context, says, (other, is.2, none))))
      ]
  context_is_record well uid elsewhere (defined_action ps rs other) says is ty same = absurd is
  context_is_record _ _ _ _ _ is _ same = absurd assumption

  -- so are the contexts of a declared schema
  declared_contexts : ¬ IsIllFormed bag extensions → HasRecordContexts schema
  declared_contexts well it ty among of =
      let action = declared.actions it among in
      context_is_record well it.0 action.applies_to it.1.kind action.says action.kind ty of

  -- and no name of it is reserved
  declared_unreserved : TypeNamesFit (extension_types extensions) → PositionsFit bag → ¬ IsIllFormed bag extensions
      → HasNoReservedName schema
  declared_unreserved fit places well = record {
    entity_types = λ name has reserved.
        well (reserved_name name, (inl (declared_type bag extensions schema fit places well declared name has), reserved));
    actions = λ uid has reserved. well (
      reserved_name uid.ty,
      (
        inr (Contains-image (λ (each : PlainUid). each.ty) (action_uids bag) uid
            (declared_action_uid bag extensions schema fit places well declared uid has)),
        reserved,
      ),
    );
  }

-- so it comes back
pub declared_schemas_come_back : DeclaredSchemasComeBack
declared_schemas_come_back bag again extensions schema fit places well declared writable written =
    let order = declared_in_order bag extensions schema declared in
    let valid = declared_valid bag extensions schema fit places well declared in (
      converted_schemas_are_well_formed schema again extensions fit order
          (declared_unreserved bag extensions schema declared fit places well)
          (declared_contexts bag extensions schema declared well) writable valid written,
      converted_schemas_are_declared schema schema again extensions order (declared_under_names bag extensions schema declared)
          writable valid written (declared_closed bag extensions schema declared),
    )
