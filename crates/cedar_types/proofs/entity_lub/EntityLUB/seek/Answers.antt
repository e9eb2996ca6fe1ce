use Rattle.std.proofs.Common.{refl}
use Rattle.std.specs.declared.cmp.Ordering.TheVariants.{Less, Equal, Greater}
use Rattle.cedar_name_map.proofs.RisingLemmas.{Passed-next}
use Rattle.cedar_types.proofs.UnionSteps.{order_at, stands_where_tied}
use Rattle.cedar_types.proofs.entity_lub.EntityLUB.seek.Goals as goal
use Rattle.cedar_types.specs.Words.{name_cmp, type_name}

pub loop-at-preserved : goal.loop-at-preserved
loop-at-preserved c =
    let types = c.as_slice-types.result.now in
    let x = c.index-types-at.result in
    Passed-next type_name name_cmp types (type_name c.args.ty.now) c.args.from c.loop-at.at x c.loop-at.invariant c.loop-at-test.true
    (order_at types c.loop-at.at x c.args.ty.now Less c.index-types-at.is c.loop-at-test.true c.in-Less.ensures x)

pub returns-in-Equal-clause-stays : goal.returns-in-Equal-clause-stays
returns-in-Equal-clause-stays c d within less =
    let types = c.as_slice-types.result.now in
    let tied = order_at types c.loop-at.at c.index-types-at.result c.args.ty.now Equal c.index-types-at.is c.loop-at-test.true c.in-Equal.ensures d in
    let below = rw (← c.as_slice-types.ensures) at less in cc

-- an entity type that ties stands there
pub returns-in-Equal-clause-stands : goal.returns-in-Equal-clause-stands
returns-in-Equal-clause-stands c =
    let there = stands_where_tied c.as_slice-types.result.now c.loop-at.at c.index-types-at.result c.args.ty.now Equal
    c.index-types-at.is c.loop-at-test.true c.in-Equal.ensures in
    let found = rw c.as_slice-types.ensures at (there.0 refl) in
    (λ _. found, λ _. refl)

pub returns-in-Greater-clause-stays : goal.returns-in-Greater-clause-stays
returns-in-Greater-clause-stays c d within less =
    let types = c.as_slice-types.result.now in
    let above = order_at types c.loop-at.at c.index-types-at.result c.args.ty.now Greater c.index-types-at.is c.loop-at-test.true c.in-Greater.ensures d in
    let below = rw (← c.as_slice-types.ensures) at less in cc

-- one that is above doesn't
pub returns-in-Greater-clause-stands : goal.returns-in-Greater-clause-stands
returns-in-Greater-clause-stands c =
    let there = stands_where_tied c.as_slice-types.result.now c.loop-at.at c.index-types-at.result c.args.ty.now Greater
    c.index-types-at.is c.loop-at-test.true c.in-Greater.ensures in
    (λ e. absurd cc, λ found. absurd (let equal = there.1 (rw (← c.as_slice-types.ensures) at found) in cc))
