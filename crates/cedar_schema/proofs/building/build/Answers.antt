use Rattle.std.proofs.Common.{List, subst}
use Rattle.std.proofs.lemmas.Result.{IfOk-weaker}
use Rattle.cedar_schema.proofs.AllYielded.{all_yielded}
use Rattle.cedar_schema.proofs.building.build.Goals as goal
use Rattle.cedar_schema.specs.Words.{AreCollectedFragments, ValidatorSchemaFragment}

-- at first nothing is taken over
pub loop-fragment-init : goal.loop-fragment-init
loop-fragment-init g c = c.in_ok-taken.ensures

-- one more fragment is
pub loop-fragment-preserved : goal.loop-fragment-preserved
loop-fragment-preserved g c = c.in_ok-taken-2.ensures c.loop-fragment.yielded c.loop-fragment.invariant

-- at the end all are, and what is built of them is built of all
pub returns-clause-built : goal.returns-clause-built
returns-clause-built g c =
    let all = c.args.fragments.items in
    let begun = c.into_iter-fragment-iterator in
    let each = all_yielded begun.result c.loop-fragment.fragment-iterator c.next.new.self all c.loop-fragment.yielded
    begun.ensures.into_iter_gives.0 begun.result.rest.ok.0 c.loop-fragment.yielded_by c.in-None.ensures.steps in
    let P : List (ValidatorSchemaFragment g.row.N.Denot g.row.N.Denot) → Type 0 = λ fragments.
    AreCollectedFragments g.row.N.Denot g.N.WrittenName.refer fragments c.loop-fragment.taken in
    c.build_collected.ensures.built all (subst P each c.loop-fragment.invariant)

-- and shows all
pub returns-clause-located : goal.returns-clause-located
returns-clause-located g c =
    let all = c.args.fragments.items in
    let begun = c.into_iter-fragment-iterator in
    let each = all_yielded begun.result c.loop-fragment.fragment-iterator c.next.new.self all c.loop-fragment.yielded
    begun.ensures.into_iter_gives.0 begun.result.rest.ok.0 c.loop-fragment.yielded_by c.in-None.ensures.steps in
    let P : List (ValidatorSchemaFragment g.row.N.Denot g.row.N.Denot) → Type 0 = λ fragments.
    AreCollectedFragments g.row.N.Denot g.N.WrittenName.refer fragments c.loop-fragment.taken in
    IfOk-weaker c.build_collected.result _ _ (λ parts shown. shown all (subst P each c.loop-fragment.invariant))
    c.build_collected.ensures.located
