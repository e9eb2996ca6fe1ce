use Rattle.std.proofs.Common.{map}
use Rattle.std.specs.Map.Iter.{deref}
use Rattle.cedar_ast.specs.contracts.entity_type.EntityTypePartialEq.TheImpl as entity_type_eq
use Rattle.cedar_ast.specs.declared.entity_uid.EntityUID.{EntityUID}
use Rattle.cedar_schema_elements.proofs.SetLemmas.{AnswersAlike}
use Rattle.cedar_schema_writer.proofs.known.action_types.Given as goal

abbrev pub invariant-loop-uid : goal.invariant-loop-uid
invariant-loop-uid l = AnswersAlike (entity_type_eq.ghosts).eq l.types.keys (map (λ (uid : EntityUID). uid.ty) (map deref l.yielded))
