use Rattle.std.proofs.Common.{ap, ◌∙◌}
use Rattle.std.proofs.lemmas.Result.{IfOk-weaker}
use Rattle.std.specs.Option.{option_map}
use Rattle.cedar_counterexample.proofs.TypeCounterexamples.{any_set_separates, ty_of-any_set}
use Rattle.cedar_counterexample.proofs.leaves.separating_leaf.Goals as goal
use Rattle.cedar_counterexample.specs.Words.{Has, IsCounterexampleAnswer, no_tree, set_value, tree, tree_of, ty_of}
use Rattle.cedar_types.proofs.MemberParts.{ty_of-entity, ty_of-set}
use Rattle.cedar_types.specs.declared.types.Type.TheVariants as type

-- of two entity types the uids decide
pub returns-in-Entity-Entity : goal.returns-in-Entity-Entity
returns-in-Entity-Entity c =
    let extensions = c.args.search.now.extensions.now in
    let lower = c.in-Entity-Entity.lower in
    let upper = c.in-Entity-Entity.upper in
    IfOk-weaker c.separating_entity.result _
    (λ found. IsCounterexampleAnswer extensions (ty_of c.args.a.now) (ty_of c.args.b.now) (option_map tree_of found))
    (λ found each. rw (ap ty_of c.in-Entity-Entity.is-1 ∙ ty_of-entity upper, ap ty_of c.in-Entity-Entity.is-0 ∙ ty_of-entity lower) (each extensions)) c.separating_entity.ensures

-- the set of one value that the element type lacks is no set of it
pub returns-in_ok-set_of_one-in-None-Some : goal.returns-in_ok-set_of_one-in-None-Some
returns-in_ok-set_of_one-in-None-Some c =
    let extensions = c.args.search.now.extensions.now in
    let element = c.in-None-Some.upper in
    let value = tree_of c.other_value.result in
    let lacks : ¬ Has extensions value (ty_of element.value) =
    (rw (ap ty_of c.deref.ensures) at (c.other_value.ensures.lacks extensions)) in
    let separates = any_set_separates extensions value (ty_of element.value) c.other_value.ensures.real lacks in
    let set = set_value (tree value no_tree) in
    rw (c.in_ok-set_of_one-in-None-Some.ensures, ap ty_of (c.in-Set-Set.is-1 ∙ ap type.Set c.in-None-Some.is-1) ∙ ty_of-set element, ap ty_of (c.in-Set-Set.is-0 ∙ ap type.Set c.in-None-Some.is-0) ∙ ty_of-any_set) separates
