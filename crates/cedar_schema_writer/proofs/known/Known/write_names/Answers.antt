use Rattle.std.proofs.Common.{[], ◌∷◌, ap, map}
use Rattle.std.proofs.lemmas.List.{map-append}
use Rattle.cedar_schema_writer.proofs.Refusals.{refusal_passed}
use Rattle.cedar_schema_writer.proofs.Written.{each_sound, written_all, written_here, written_more, written_none}
use Rattle.cedar_schema_writer.proofs.known.Known.write_names.Goals as goal
use Rattle.cedar_schema_writer.specs.Words.{NamesNoOther, PlainName, known_names, plain_namespace, raw_name, type_name}

-- at first no name is written
pub loop-name-init : goal.loop-name-init
loop-name-init c =
    written_none (NamesNoOther (known_names c.args.self.now) (plain_namespace c.args.namespace.now)) (map type_name c.args.names) _ _
    (ap (map raw_name) c.new-written.ensures.items) (ap (map type_name) c.into_iter-name-iterator.ensures.into_iter_gives)

-- the name that is refused is one of all
pub returns-in_err-write_name-clause-refusal : goal.returns-in_err-write_name-clause-refusal
returns-in_err-write_name-clause-refusal c =
    let IsOnlyOne : PlainName → Type 0 = NamesNoOther (known_names c.args.self.now) (plain_namespace c.args.namespace.now) in
    let name = type_name c.in-Some.name.now in
    refusal_passed _ _ c.from_residual.ensures.1 c.in_err-write_name.ensures.refusal
    (λ other. (
      name,
      written_here IsOnlyOne (map type_name c.args.names) _ _ _ name (ap
          (map type_name) c.in-Some.ensures.steps) c.loop-name.invariant,
      other,
    ))

-- one more name is written
pub loop-name-preserved : goal.loop-name-preserved
loop-name-preserved c =
    let IsOnlyOne : PlainName → Type 0 = NamesNoOther (known_names c.args.self.now) (plain_namespace c.args.namespace.now) in
    let name = type_name c.in-Some.name.now in
    let written = c.loop-name.written.items in
    let next = c.in_ok-write_name.field-0 in
    written_more IsOnlyOne (map type_name c.args.names) _ _ _ name (ap (map type_name) c.in-Some.ensures.steps) c.loop-name.invariant _
    (cc (c.in_ok-push.ensures.items, map-append raw_name written (next ∷ []), c.in_ok-write_name.ensures.name))
    c.in_ok-write_name.ensures.no_other

-- at the end all are
pub returns-clause-names : goal.returns-clause-names
returns-clause-names c =
    written_all (NamesNoOther (known_names c.args.self.now) (plain_namespace c.args.namespace.now)) (map type_name c.args.names) _ _
    (ap (map type_name) c.in-None.ensures.steps.0) c.loop-name.invariant

-- and none of them means another
pub returns-clause-no_other : goal.returns-clause-no_other
returns-clause-no_other c =
    each_sound (NamesNoOther (known_names c.args.self.now) (plain_namespace c.args.namespace.now)) (map type_name c.args.names) _ _
    (ap (map type_name) c.in-None.ensures.steps.0) c.loop-name.invariant
