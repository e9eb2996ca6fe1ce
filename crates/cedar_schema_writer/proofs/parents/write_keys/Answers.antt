use Rattle.std.proofs.Common.{[], ◌∷◌, ap, map}
use Rattle.std.proofs.lemmas.List.{map-append}
use Rattle.cedar_schema_writer.proofs.Refusals.{refusal_passed}
use Rattle.cedar_schema_writer.proofs.Written.{each_sound, written_all, written_here, written_more, written_none}
use Rattle.cedar_schema_writer.proofs.parents.write_keys.Goals as goal
use Rattle.cedar_schema_writer.specs.Parts.{known_names, plain_namespace}

-- at first no key is written
pub loop-key-init : goal.loop-key-init
loop-key-init g c =
    let name = g.K.WrittenKey.named in
    written_none (g.K.WrittenKey.IsUnambiguous (known_names c.args.known.now) (plain_namespace c.args.namespace.now))
    (map name c.args.keys.now.keys) _ _
    (ap (map g.K.WrittenKey.written) c.new-parents.ensures.items) (ap (map name) c.into_iter-key-iterator.ensures.into_iter_gives.0)

-- the key that is refused is one of all
pub returns-in_err-write-clause-refusal : goal.returns-in_err-write-clause-refusal
returns-in_err-write-clause-refusal g c =
    let name = g.K.WrittenKey.named in
    let key = name c.in-Some.key.now in
    refusal_passed _ _ c.from_residual.ensures.1 c.in_err-write.ensures.refusal
    (λ other. (
      key,
      written_here (g.K.WrittenKey.IsUnambiguous (known_names c.args.known.now) (plain_namespace c.args.namespace.now))
          (map name c.args.keys.now.keys) _ _ _ key (ap (map name) c.in-Some.ensures.steps) c.loop-key.invariant,
      other,
    ))

-- one more key is written
pub loop-key-preserved : goal.loop-key-preserved
loop-key-preserved g c =
    let name = g.K.WrittenKey.named in
    let shown = g.K.WrittenKey.written in
    let parents = c.loop-key.parents.items in
    let next = c.in_ok-write.field-0 in
    written_more (g.K.WrittenKey.IsUnambiguous (known_names c.args.known.now) (plain_namespace c.args.namespace.now))
    (map name c.args.keys.now.keys) _ _ _ (name c.in-Some.key.now) (ap (map name) c.in-Some.ensures.steps) c.loop-key.invariant _
    (cc (c.in_ok-push.ensures.items, map-append shown parents (next ∷ []), c.in_ok-write.ensures.name))
    c.in_ok-write.ensures.no_other

-- at the end all are
pub returns-clause-names : goal.returns-clause-names
returns-clause-names g c =
    let name = g.K.WrittenKey.named in
    written_all (g.K.WrittenKey.IsUnambiguous (known_names c.args.known.now) (plain_namespace c.args.namespace.now))
    (map name c.args.keys.now.keys) _ _ (ap (map name) c.in-None.ensures.steps.0) c.loop-key.invariant

-- and none of their names means another
pub returns-clause-no_other : goal.returns-clause-no_other
returns-clause-no_other g c =
    let name = g.K.WrittenKey.named in
    each_sound (g.K.WrittenKey.IsUnambiguous (known_names c.args.known.now) (plain_namespace c.args.namespace.now))
    (map name c.args.keys.now.keys) _ _ (ap (map name) c.in-None.ensures.steps.0) c.loop-key.invariant
