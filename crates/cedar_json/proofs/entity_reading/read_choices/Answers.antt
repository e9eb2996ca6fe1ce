use Rattle.std.proofs.Common.{◌≡◌, Some, length, map, ap, arith, option_and_then, ◌∙◌}
use Rattle.cedar_ast.specs.Eid.{eid_text}
use Rattle.cedar_json.proofs.ListLemmas.{no_length, none_listed}
use Rattle.cedar_json.proofs.entity_reading.read_choices.Goals as goal
use Rattle.cedar_json.specs.Words.{at_least_one}
use Rattle.json.specs.Find.{as_array, as_str}
use Rattle.json.specs.Value.{value_view}

pub returns-then-is_empty : goal.returns-then-is_empty
returns-then-is_empty c =
    let none : length c.in_ok-ids.ids.items ≡ 0 = grind arith in
    let nothing = no_length c.in_ok-ids.ids.items none in
    let j = value_view c.args.value.now in
    let listed = c.in_ok-ids.ensures ∙ ap (λ xs. Some (map eid_text xs)) nothing in (
      λ _. ap (option_and_then at_least_one) listed,
      c.here.ensures.place j (none_listed as_str (as_array j) listed),
    )
