use Rattle.std.proofs.Common.{◌≡◌, ◌↔◌, None}
use Rattle.std.proofs.lemmas.Result.{IfOk-weaker}
use Rattle.cedar_counterexample.proofs.BetweenLemmas.{between_none, parts_included, separating_between}
use Rattle.cedar_counterexample.proofs.between.attributes_outside_between.Goals as goal
use Rattle.cedar_counterexample.specs.Words.{ValuesKept, attributes_between_of, entries_of, map_value, record_found, shape_type, value_entries}

-- where no value separates the types, the values are included
pub lost_attributes_between-requires-clause-included :
    goal.lost_attributes_between-requires-clause-included
lost_attributes_between-requires-clause-included g c =
    let found = rw c.in-None.is at c.in_ok-values.ensures in
    parts_included c.args.extensions.now (shape_type c.args.a) (shape_type c.args.b) found

-- what separates the types is exchanged
pub returns-in_ok-attributes-in-Some-clause-some : goal.returns-in_ok-attributes-in-Some-clause-some
returns-in_ok-attributes-in-Some-clause-some g c =
    let found = rw c.in-Some.is at c.in_ok-values.ensures in
    rw c.turned-steps.ensures
    (separating_between c.args.extensions.now (g.S.Scope.ExistsInOld c.args.scope.now) (g.S.Scope.ExistsInNew c.args.scope.now)
    c.longest_in_attributes-longest.result (map_value (entries_of c.in-Some.field-0.values))
    (map_value (value_entries c.in_ok-attributes-in-Some.attributes)) c.in_ok-attributes-in-Some.ensures (shape_type c.args.a)
    (shape_type c.args.b) (record_found c.in-Some.field-0).steps c.requires.uids c.longest_in_attributes-longest.ensures found.0 found.1)

-- so not each value is kept
pub returns-in_ok-attributes-in-Some-clause-none : goal.returns-in_ok-attributes-in-Some-clause-none
returns-in_ok-attributes-in-Some-clause-none g c =
    let found = rw c.in-Some.is at c.in_ok-values.ensures in
    let it = separating_between c.args.extensions.now (g.S.Scope.ExistsInOld c.args.scope.now) (g.S.Scope.ExistsInNew c.args.scope.now)
    c.longest_in_attributes-longest.result (map_value (entries_of c.in-Some.field-0.values))
    (map_value (value_entries c.in_ok-attributes-in-Some.attributes)) c.in_ok-attributes-in-Some.ensures (shape_type c.args.a)
    (shape_type c.args.b) (record_found c.in-Some.field-0).steps c.requires.uids c.longest_in_attributes-longest.ensures found.0 found.1 in (
      λ wrong. absurd cc,
      λ kept. absurd (it.lacks (kept (map_value (value_entries c.in_ok-attributes-in-Some.attributes)) it.real it.has it.exists)),
    )

-- where the values are included the ids decide
pub returns-in-None-clause-none : goal.returns-in-None-clause-none
returns-in-None-clause-none g c =
    let Old = g.S.Scope.ExistsInOld c.args.scope.now in
    let New = g.S.Scope.ExistsInNew c.args.scope.now in
    let a = shape_type c.args.a in
    let b = shape_type c.args.b in
    IfOk-weaker c.lost_attributes_between.result _ (λ found. (found ≡ None) ↔ ValuesKept c.args.extensions.now Old New a b)
    (λ found answer. between_none attributes_between_of c.args.extensions.now Old New a b found answer) c.lost_attributes_between.ensures
