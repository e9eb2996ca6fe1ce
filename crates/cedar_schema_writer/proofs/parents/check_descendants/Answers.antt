use Rattle.std.proofs.Common.{[], ◌++◌, ◌∷◌, ap, sym, ◌∙◌, map, refl, Contains}
use Rattle.std.proofs.lemmas.Bool.{false≢true}
use Rattle.std.specs.BTreeMap.{is_at}
use Rattle.std.specs.Map.{keys_of}
use Rattle.cedar_schema_elements.proofs.AncestorLemmas.{key_tie}
use Rattle.cedar_schema_writer.proofs.Keyed.{found-key}
use Rattle.cedar_schema_writer.proofs.Written.{each_sound, written_here, written_more, written_none}
use Rattle.cedar_schema_writer.proofs.parents.check_descendants.Goals as goal

-- at first no descendant is looked up
pub loop-lower-init : goal.loop-lower-init
loop-lower-init g c =
    let name = g.V.SchemaNode.key_name in (
      [],
      written_none (λ lower. Contains (map name (keys_of c.args.nodes.now.entries)) lower) (g.V.SchemaNode.below c.args.node.now) []
          _ refl (ap (map name) c.into_iter-lower-iterator.ensures.into_iter_gives ∙ c.descendants-lower-items.ensures),
    )

-- a descendant that is not there is refused
pub returns-then-not-contains_key-clause-refusal : goal.returns-then-not-contains_key-clause-refusal
returns-then-not-contains_key-clause-refusal g c =
    let name = g.V.SchemaNode.key_name in
    let lower = c.in-Some.lower.now in
    let found = found-key name (is_at (g.K.Ord.cmp lower)) (name lower)
    (key_tie g.K.Ord.cmp name g.met.V.SchemaNode.tied_key lower) c.args.nodes.now.entries in (
      name lower,
      written_here (λ it. Contains (map name (keys_of c.args.nodes.now.entries)) it) (g.V.SchemaNode.below c.args.node.now)
          c.loop-lower.invariant.0 _ _ (name lower) (ap (map name) c.in-Some.ensures.steps) c.loop-lower.invariant.1,
      λ among. false≢true (sym c.if-not-contains_key.true ∙ (c.contains_key.ensures ∙ found.1 among)),
    )

-- one more is there
pub loop-lower-preserved : goal.loop-lower-preserved
loop-lower-preserved g c =
    let name = g.V.SchemaNode.key_name in
    let lower = c.in-Some.lower.now in
    let found = found-key name (is_at (g.K.Ord.cmp lower)) (name lower)
    (key_tie g.K.Ord.cmp name g.met.V.SchemaNode.tied_key lower) c.args.nodes.now.entries in (
      c.loop-lower.invariant.0 ++ name lower ∷ [],
      written_more (λ it. Contains (map name (keys_of c.args.nodes.now.entries)) it) (g.V.SchemaNode.below c.args.node.now)
          c.loop-lower.invariant.0 _ _ (name lower) (ap (map name) c.in-Some.ensures.steps) c.loop-lower.invariant.1 _ refl
          (found.0 (sym c.contains_key.ensures ∙ c.if-not-contains_key.false)),
    )

-- at the end all are
pub returns-clause-there : goal.returns-clause-there
returns-clause-there g c =
    let name = g.V.SchemaNode.key_name in
    each_sound (λ it. Contains (map name (keys_of c.args.nodes.now.entries)) it) (g.V.SchemaNode.below c.args.node.now)
    c.loop-lower.invariant.0 _ (ap (map name) c.in-None.ensures.steps.0) c.loop-lower.invariant.1
