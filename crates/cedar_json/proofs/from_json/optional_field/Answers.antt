use Rattle.std.proofs.Common.{None, Some, ap, option_map, sym, ◌∙◌}
use Rattle.cedar_json.proofs.ActionLemmas.{unless_null-held}
use Rattle.cedar_json.proofs.TypeLemmas.{described_too}
use Rattle.cedar_json.proofs.from_json.optional_field.Goals as goal
use Rattle.cedar_json.specs.Words.{field_or}
use Rattle.json.specs.Find.{get}
use Rattle.json.specs.Value.{value_view}

-- what the field holds is described, or its fault is found under the field
pub returns-in-Some : goal.returns-in-Some
returns-in-Some g c =
    let describes = g.T.Described.describes in
    let held = get c.args.name.now (value_view c.args.value.now) in
    let k = value_view c.in-Some.held.now in
    described_too c.read_held.result (option_map g.T.Described.shown) _ _ _ _
    (ap (field_or None (λ j. option_map Some (describes j))) (sym c.in-Some.ensures))
    (λ refusal true_of j same. true_of j (same ∙ unless_null-held held k (sym c.in-Some.ensures))) c.read_held.ensures
