use Rattle.std.proofs.Common.{◌≡◌, IsTrue, IfOk, Result, Ok, Err, sym, ◌∙◌}
use Rattle.std.proofs.lemmas.Result.{IfOk-weaker}
use Rattle.cedar_ast.proofs.Names.{entity_type_eq-same}
use Rattle.cedar_ast.specs.contracts.entity_type.EntityTypePartialEq.TheImpl as entity_type_eq
use Rattle.cedar_schema_elements.proofs.entity_type_node.ValidatorEntityTypeTCNodeEntityType.copy_key.Goals as goal
use Rattle.cedar_schema_elements.specs.Words.{EntityType, type_name}

-- a copy of the same name is equal
equal_copy : {E : Type 0} (key : EntityType) (result : Result EntityType E) → IfOk result (λ copy. type_name copy ≡ type_name key)
    → IfOk result (λ copy. IsTrue ((entity_type_eq.ghosts).eq key copy))
equal_copy key (Ok copy) same = (entity_type_eq-same key copy).1 (sym same)
equal_copy key (Err refused) same = tt

pub returns : goal.returns
returns c =
    equal_copy c.args.key.now c.into_shared.result
    (IfOk-weaker c.into_shared.result (λ shared. type_name shared ≡ type_name c.in_ok-clone.field-0)
    (λ shared. type_name shared ≡ type_name c.args.key.now) (λ shared same. same ∙ c.in_ok-clone.ensures.name) c.into_shared.ensures.name)
