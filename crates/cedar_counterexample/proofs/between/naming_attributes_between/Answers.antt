use Rattle.std.proofs.Common.{refl}
use Rattle.cedar_counterexample.proofs.BetweenLemmas.{kept_between, lost_between}
use Rattle.cedar_counterexample.proofs.between.naming_attributes_between.Goals as goal
use Rattle.cedar_counterexample.specs.Words.{entries_of, map_value, record_naming, shape_type, value_entries}

-- what names a uid that isn't kept is exchanged
pub returns-in_ok-attributes-in-Some : goal.returns-in_ok-attributes-in-Some
returns-in_ok-attributes-in-Some g c =
    let found = rw c.in-Some.is at c.in_ok-start.ensures in
    rw c.turned-steps.ensures
    (lost_between c.args.search.now.extensions.now (g.S.Scope.ExistsInOld c.args.scope.now) (g.S.Scope.ExistsInNew c.args.scope.now) 0
    (map_value (entries_of c.in-Some.field-0.start.values)) (map_value (value_entries c.in_ok-attributes-in-Some.attributes))
    c.in_ok-attributes-in-Some.ensures (shape_type c.args.a) (shape_type c.args.b) (record_naming c.in-Some.field-0) refl c.requires.uids
    c.requires.included found)

-- where the ids are kept, each value is
pub returns-in-None : goal.returns-in-None
returns-in-None g c =
    let found = rw c.in-None.is at c.in_ok-start.ensures in
    kept_between c.args.search.now.extensions.now (g.S.Scope.ExistsInOld c.args.scope.now) (g.S.Scope.ExistsInNew c.args.scope.now)
    (shape_type c.args.a) (shape_type c.args.b) c.requires.included found
