use Rattle.std.proofs.Common.{map}
use Rattle.cedar_schema_writer.proofs.Put.{PutSoFar}
use Rattle.cedar_schema_writer.proofs.actions.write_actions.Given as goal
use Rattle.cedar_schema_writer.specs.Words.{AreProper, IsActionDeclaration, IsSoundActionEntry, PlainUid, SchemaAction, definitions_bag, known_schema, plain_action_entry}

abbrev pub invariant-loop-uid : goal.invariant-loop-uid
invariant-loop-uid l = record {
  put : PutSoFar (λ (it : PlainUid × SchemaAction). it.0) (IsActionDeclaration (known_schema l.known)) (IsSoundActionEntry l.known)
      (definitions_bag l.initial.definitions.entries) (known_schema l.known).actions (map plain_action_entry l.uid-iterator)
      (definitions_bag l.definitions.entries);
  proper : AreProper l.initial.definitions.entries → AreProper l.definitions.entries;
}
