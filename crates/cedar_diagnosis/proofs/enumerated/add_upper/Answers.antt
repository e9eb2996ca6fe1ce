use Rattle.std.proofs.Common.{◌≡◌, map, sym, ◌∙◌}
use Rattle.cedar_ast.specs.Words.{IsReserved, PlainName, name_of, type_name}
use Rattle.cedar_diagnosis.proofs.AddingLemmas.{adds_found, adds_nothing}
use Rattle.cedar_diagnosis.proofs.enumerated.add_upper.Goals as goal
use Rattle.cedar_diagnosis.specs.KeyTies.{below_told}
use Rattle.cedar_schema_semantics.specs.Words.{Fault, enumerated_below}

-- what is told of an enumerated entity type with a parent
abbrev Tells : PlainName → PlainName → Fault → Type 0
Tells lower upper fault = (¬ IsReserved upper) × (enumerated_below lower upper ≡ fault)

pub returns-in-Ok : goal.returns-in-Ok
returns-in-Ok c =
    let lower : type_name c.in_ok-lower.lower ≡ type_name c.args.lower.now = c.in_ok-lower.ensures.name in
    let upper : type_name c.in-Ok.upper ≡ name_of c.args.name = c.in-Ok.ensures.name in
    let same : enumerated_below (type_name c.in_ok-lower.lower) (type_name c.in-Ok.upper) ≡ enumerated_below (type_name c.args.lower.now) (name_of c.args.name) =
    λ i. enumerated_below (lower i) (upper i) in
    adds_found c.add_key.result (Tells (type_name c.args.lower.now) (name_of c.args.name)) (map below_told c.args.keys.now.keys)
    (map below_told c.add_key.new.keys.keys) (enumerated_below (type_name c.in_ok-lower.lower) (type_name c.in-Ok.upper))
    (c.in-Ok.ensures.unreserved, sym same) (λ fault tells. same ∙ tells.1) c.add_key.ensures

pub returns-in-Err : goal.returns-in-Err
returns-in-Err c =
    adds_nothing (Tells (type_name c.args.lower.now) (name_of c.args.name)) (map below_told c.args.keys.now.keys)
    (λ fault tells. tells.0 c.in-Err.ensures.refused.1)
