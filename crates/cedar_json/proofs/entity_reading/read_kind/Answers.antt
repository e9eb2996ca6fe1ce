use Rattle.std.proofs.Common.{ap, option_map, sym, ◌∙◌}
use Rattle.cedar_json.proofs.entity_reading.read_kind.Goals as goal
use Rattle.cedar_json.specs.Words.{body_by, if_so}
use Rattle.cedar_schema_ast.specs.Words.{enumerated}
use Rattle.json.specs.Value.{value_view}

-- a declaration with the field `enum` lists the ids that it holds
pub returns-in-Ok : goal.returns-in-Ok
returns-in-Ok c =
    ap (body_by (value_view c.args.value.now)) (sym c.in-Some.ensures)
    ∙ (λ i. if_so (c.in_ok-check_fields-2.ensures i) (option_map enumerated (c.in-Ok.ensures i)))

-- where it lists none, nothing is said
pub returns-in-Err : goal.returns-in-Err
returns-in-Err c = (
  λ other.
      ap (body_by (value_view c.args.value.now)) (sym c.in-Some.ensures)
      ∙ (λ i. if_so (c.in_ok-check_fields-2.ensures i) (option_map enumerated (c.in-Err.ensures.0 (c.within.ensures.memory other) i))),
  c.within.ensures.place (value_view c.args.value.now) (value_view c.in-Some.held.now) (sym c.in-Some.ensures) c.in-Err.ensures.1,
)
