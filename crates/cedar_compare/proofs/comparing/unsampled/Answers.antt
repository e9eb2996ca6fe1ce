use Rattle.std.proofs.Common.{◌∷◌, Some, subst, sym, ◌∙◌}
use Rattle.std.proofs.lemmas.Bool.{false≢true}
use Rattle.std.specs.List.Sorted.{IsPermutation}
use Rattle.cedar_compare.proofs.CompareLemmas.{leaf_here, leaf_next, leaves_start}
use Rattle.cedar_compare.proofs.LeftLemmas.{sure_all}
use Rattle.cedar_compare.proofs.SampledLemmas.{schema_sampled}
use Rattle.cedar_compare.proofs.comparing.unsampled.Goals as goal
use Rattle.cedar_compare.specs.Words.{GivesLeaf, IsLeafSampled, TypeIterator, leaves_of, pending_types, schema_leaves, schema_of, ty_of, value_trees}

-- at first all leaves of the types in the schema are left to be looked at
pub loop-ty-init : goal.loop-ty-init
loop-ty-init c =
    let schema = schema_of c.args.schema.now in
    let all = schema_leaves schema.entity_types schema.actions in
    leaves_start (IsLeafSampled c.args.extensions.now (value_trees c.args.samples.now) schema) all
    (leaves_of (pending_types c.into_iter-ty-iterator.result))
    (subst (λ (it : TypeIterator). IsPermutation all (leaves_of (pending_types it))) (sym c.into_iter-ty-iterator.ensures.into_iter_gives)
    c.in_ok-ty-items.ensures)

-- a leaf that isn't sampled stands in the schema, and its text is given back
pub returns-then-not-is_leaf_sampled-clause-some : goal.returns-then-not-is_leaf_sampled-clause-some
returns-then-not-is_leaf_sampled-clause-some c =
    let schema = schema_of c.args.schema.now in
    let all = schema_leaves schema.entity_types schema.actions in
    let before = pending_types c.loop-ty.ty-iterator in
    let after = pending_types c.next.new.self in
    let ty = ty_of c.in_ok-ty.ty.now in
    let leaf : IsPermutation (leaves_of before) (ty ∷ leaves_of after) =
    subst (λ r. GivesLeaf before (Some r) after) c.in_ok-ty.was c.in-Some.ensures.steps in (
      ty,
      leaf_here (IsLeafSampled c.args.extensions.now (value_trees c.args.samples.now) schema) all (leaves_of before) (leaves_of after) ty
          leaf c.loop-ty.invariant,
      λ sampled. false≢true (sym c.if-not-is_leaf_sampled.true ∙ c.is_leaf_sampled.ensures.no sampled),
      c.in_ok-to_string.ensures.ok,
    )

-- one more leaf is sampled
pub loop-ty-preserved : goal.loop-ty-preserved
loop-ty-preserved c =
    let schema = schema_of c.args.schema.now in
    let all = schema_leaves schema.entity_types schema.actions in
    let before = pending_types c.loop-ty.ty-iterator in
    let after = pending_types c.next.new.self in
    let ty = ty_of c.in_ok-ty.ty.now in
    let leaf : IsPermutation (leaves_of before) (ty ∷ leaves_of after) =
    subst (λ r. GivesLeaf before (Some r) after) c.in_ok-ty.was c.in-Some.ensures.steps in
    leaf_next (IsLeafSampled c.args.extensions.now (value_trees c.args.samples.now) schema) all (leaves_of before) (leaves_of after) ty
    leaf (c.is_leaf_sampled.ensures.yes c.if-not-is_leaf_sampled.false) c.loop-ty.invariant

-- where no leaf is left, all are sampled, and so each type in the schema is
pub returns-clause-none : goal.returns-clause-none
returns-clause-none c =
    let schema = schema_of c.args.schema.now in
    let all = schema_leaves schema.entity_types schema.actions in
    let samples = value_trees c.args.samples.now in
    λ _. schema_sampled c.args.extensions.now samples schema
    (sure_all (IsLeafSampled c.args.extensions.now samples schema) all (leaves_of (pending_types c.loop-ty.ty-iterator))
    c.in-None.ensures.steps.0 c.loop-ty.invariant)
