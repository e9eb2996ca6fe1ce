-- What is built over the names that a bag defines is built from the bag.
use Rattle.std.proofs.Common.{◌≡◌, ◌⊎◌, IfErr, IfOk, List, OnOk, Result}
use Rattle.std.proofs.lemmas.Result.{IfErr-weaker, IfOk-weaker, on_ok_weaker}
use Rattle.std.specs.Result.{result_map_both}
use Rattle.cedar_schema.proofs.Mapped.{IfErr-mapped, IfOk-mapped, OnOk-mapped}
use Rattle.cedar_schema.specs.Words.{Bag, Expr, Extensions, IsBuiltFrom, IsDeclaredSchema, IsFault, IsIllFormed, IsNamedOver, Names, PlainName, fault_of, out_of_memory, parts_schema}
use Rattle.cedar_schema.specs.declared.building.SchemaParts.{SchemaParts}
use Rattle.cedar_schema_laws.proofs.BuiltFrom.{built_from}
use Rattle.cedar_schema_semantics.specs.declared.schema_error.SchemaError.{SchemaError}

module _ (bag : Bag) (given : Extensions) (held : Names) (built_in : List (PlainName × Expr)) (over : IsNamedOver bag given held built_in) where
  -- an answer that is right over these names is built from the bag
  pub built_over : (result : Result SchemaParts SchemaError)
      → IfErr result (λ error. IsNamedOver bag given held built_in → (fault_of error ≡ out_of_memory) ⊎ IsFault bag given (fault_of error))
      → OnOk result (IsNamedOver bag given held built_in → ¬ IsIllFormed bag given)
      → IfOk result (λ parts. IsNamedOver bag given held built_in → IsDeclaredSchema bag given (parts_schema parts))
      → IsBuiltFrom bag given (result_map_both parts_schema fault_of result)
  built_over result fault well_formed declared =
      built_from bag given over.fit _
      (IfErr-mapped parts_schema fault_of result _ (IfErr-weaker result _ _ (λ error at. at over) fault))
      (OnOk-mapped parts_schema fault_of result _ (on_ok_weaker result (λ well. well over) well_formed))
      (IfOk-mapped parts_schema fault_of result _ (IfOk-weaker result _ _ (λ parts is. is over) declared))
