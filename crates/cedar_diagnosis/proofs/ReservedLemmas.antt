-- What is lent has no reserved names, so none is told.
use Rattle.std.proofs.Common.{◌≡◌, List, [], sym, inl, inr}
use Rattle.std.proofs.lemmas.List.{append-nil}
use Rattle.cedar_ast.proofs.Basics.{Contains-none}
use Rattle.cedar_ast.proofs.Lists.{Contains-preimage}
use Rattle.cedar_ast.specs.Words.{IsReserved, PlainUid}
use Rattle.cedar_ast.specs.declared.extension.Extensions.{Extensions}
use Rattle.cedar_diagnosis.proofs.LentLemmas.{actions_unreserved, entities_unreserved}
use Rattle.cedar_diagnosis.proofs.TogetherLemmas.{TellsAlso}
use Rattle.cedar_diagnosis.specs.Kinds as kind
use Rattle.cedar_diagnosis.specs.Kinds.{kind_of}
use Rattle.cedar_diagnosis.specs.Lent.{declarations_of}
use Rattle.cedar_diagnosis.specs.declared.lent.Lent.{Lent}
use Rattle.std.proofs.Common.{subst}
use Rattle.cedar_schema_semantics.specs.Words.{Fault, IsFault, action_uids, reserved_name}

-- no reserved name is a fault of what is lent
none_reserved : (items : List Lent) (extensions : Extensions) (fault : Fault) → kind_of fault ≡ kind.reserved_name
    → ¬ IsFault (declarations_of items) extensions fault
none_reserved items extensions (reserved_name name) is fault = elim fault.0 [
  | inl entity ↦ entities_unreserved items name entity (inr fault.1)
  | inr of_action ↦
      let uid = Contains-preimage (λ (each : PlainUid). each.ty) (action_uids (declarations_of items)) name of_action in
      actions_unreserved items uid.0 uid.1 (subst IsReserved (sym uid.2) (inr fault.1))
]
none_reserved items extensions _ is fault = absurd cc

-- so the kind is told without a word
pub tells_reserved : (items : List Lent) (extensions : Extensions) (before : List Fault)
    → TellsAlso (declarations_of items) extensions kind.reserved_name before before
tells_reserved items extensions before = (
  [],
  sym (append-nil before),
  record {
    of_kind = λ fault among. absurd (Contains-none fault among);
    each = λ fault among. absurd (Contains-none fault among);
    one = λ fault among. absurd (Contains-none fault among);
    once = λ fault twice. twice;
    all = λ fault is is_fault. absurd (none_reserved items extensions fault is is_fault);
  },
)
