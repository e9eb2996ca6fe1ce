use Rattle.std.proofs.Common.{map}
use Rattle.cedar_schema_writer.proofs.Put.{PutSoFar}
use Rattle.cedar_schema_writer.proofs.entity_types.write_entity_types.Given as goal
use Rattle.cedar_schema_writer.specs.Words.{AreProper, IsSoundEntityType, IsTypeDeclaration, PlainName, SchemaEntityType, definitions_bag, known_schema, plain_entry}

abbrev pub invariant-loop-name : goal.invariant-loop-name
invariant-loop-name l = record {
  put : PutSoFar (λ (it : PlainName × SchemaEntityType). it.0) (IsTypeDeclaration (known_schema l.known)) (IsSoundEntityType l.known)
      (definitions_bag l.initial.definitions.entries) (known_schema l.known).entity_types (map plain_entry l.name-iterator)
      (definitions_bag l.definitions.entries);
  proper : AreProper l.initial.definitions.entries → AreProper l.definitions.entries;
}
