use Rattle.std.proofs.Common.{◌≡◌, ◌↔◌, List, ap, map, refl, sym, ◌∙◌, Contains}
use Rattle.cedar_schema_elements.proofs.KeyLemmas.{names_of_keys, names_once}
use Rattle.cedar_schema_writer.proofs.KindLemmas.{kind-same, sound_kind-same}
use Rattle.cedar_schema_writer.proofs.NameLemmas.{in_each_namespace}
use Rattle.cedar_schema_writer.proofs.Put.{put_here, put_more, put_none, put_other}
use Rattle.cedar_schema_writer.proofs.Refusals.{refusal_passed}
use Rattle.cedar_schema_writer.proofs.Written.{none_there}
use Rattle.cedar_schema_writer.proofs.entity_types.write_entity_types.Goals as goal
use Rattle.cedar_schema_writer.proofs.entity_types.write_entity_types.Goals.{In_ok-parents, In-Some}
use Rattle.cedar_schema_writer.specs.Words.{IsPathOf, IsSoundEntityType, IsSoundKind, IsTypeDeclaration, ListsDescendant, NamesNoOther, PlainName, SchemaEntityType, Text, definitions_bag, known_names, known_schema, name_within, plain_entry, plain_namespace, raw_entity_body, raw_name, type_declared, type_name, unreserved_id_text}

pub loop-name-init : goal.loop-name-init
loop-name-init c =
    let entries = c.args.known.now.entity_types.now.entries in
    record {
      put = put_none (λ (it : PlainName × SchemaEntityType). it.0) (IsTypeDeclaration (known_schema c.args.known.now))
          (IsSoundEntityType c.args.known.now)
          (definitions_bag c.args.definitions.now.entries) (map plain_entry entries) _
          (ap (map plain_entry) c.into_iter-name-iterator.ensures.into_iter_gives.0)
          (names_once entries c.into_iter-name-iterator.ensures.into_iter_gives.1);
      proper = λ all. all;
    }

-- the entity type of this turn
abbrev turn : In-Some → PlainName × SchemaEntityType
turn c = plain_entry (c.in-Some.name.now, c.in-Some.ty.now)

-- it is one of the schema
listed : (c : In-Some) → Contains (known_schema c.args.known.now).entity_types (turn c)
listed c = put_here (ap (map plain_entry) c.in-Some.ensures.steps) c.loop-name.invariant.put

-- the namespace is that of the entity type
path : (c : In_ok-parents) → IsPathOf (plain_namespace c.in_ok-namespace.namespace) (type_name c.in-Some.name.now).path
path c = c.in_ok-namespace.ensures ∙ ap (λ (name : PlainName). name.path) c.name.ensures.name

-- its parents are those that list it
parents : (c : In_ok-parents) (upper : PlainName) → Contains (map raw_name c.in_ok-parents.parents.items) upper
    ↔ ListsDescendant (known_schema c.args.known.now) (type_name c.in-Some.name.now) upper
parents c upper =
    let names = c.in_ok-parents.ensures.names upper in
    let lists = c.requires.ancestors c.in-Some.name.now upper in (λ among. lists.0 (names.0 among), λ of. names.1 (lists.1 of))

pub returns-in_err-check_descendants-clause-refusal : goal.returns-in_err-check_descendants-clause-refusal
returns-in_err-check_descendants-clause-refusal c =
    let at = (goal.at.returns-in_err-check_descendants-clause-refusal c).In-Some in
    refusal_passed _ _ c.from_residual.ensures.1 c.in_err-check_descendants.ensures.refusal
    (λ some.
    let unknown = rw (← names_of_keys type_name plain_entry (λ e. refl) c.args.known.now.entity_types.now.entries) at some in
    (turn at, listed at, λ sound. unknown.2 (sound.below unknown.0 unknown.1)))

pub returns-in_err-parents-clause-refusal : goal.returns-in_err-parents-clause-refusal
returns-in_err-parents-clause-refusal c =
    let at = (goal.at.returns-in_err-parents-clause-refusal c).In-Some in
    let is : IsPathOf (plain_namespace c.in_ok-namespace.namespace) (type_name c.in-Some.name.now).path =
    c.in_ok-namespace.ensures ∙ ap (λ (name : PlainName). name.path) c.name.ensures.name in
    refusal_passed _ _ c.from_residual-in_err-parents.ensures.1 c.in_err-parents.ensures.refusal
    (λ some. (
      turn at,
      listed at,
      λ sound. some.2 (sound.above _ is some.0 ((c.requires.ancestors c.in-Some.name.now some.0).0 some.1)),
    ))

pub returns-in_err-declared-clause-refusal : goal.returns-in_err-declared-clause-refusal
returns-in_err-declared-clause-refusal c =
    let known = c.args.known.now in
    let at = (goal.at.returns-in_err-declared-clause-refusal c).In-Some in
    let here = (goal.at.returns-in_err-declared-clause-refusal c).In_ok-parents in
    refusal_passed _ _ c.from_residual-in_err-declared.ensures.1 c.in_err-declared.ensures.refusal
    (λ unsound. (
      turn at,
      listed at,
      λ sound. unsound (sound_kind-same (plain_namespace c.in_ok-namespace.namespace) _ _
          (λ upper. ((parents here upper).1, (parents here upper).0)) (known_names known) (turn at).1.kind
          (sound.kind _ (path here))),
    ))

pub loop-name-preserved : goal.loop-name-preserved
loop-name-preserved c =
    let known = c.args.known.now in
    let schema = known_schema known in
    let it : PlainName × SchemaEntityType = plain_entry (c.in-Some.name.now, c.in-Some.ty.now) in
    let namespace = plain_namespace c.in_ok-namespace.namespace in
    let id = unreserved_id_text c.in_ok-id.id in
    let body = raw_entity_body namespace c.in_ok-declared.declared in
    let at = (goal.at.loop-name-preserved c).In_ok-parents in
    let base : id ≡ it.0.base = c.in_ok-id.ensures ∙ ap (λ (name : PlainName). name.base) c.name-in-loop-name.ensures.name in
    let here : name_within namespace id ≡ it.0 =
    (λ i. let word : Text = base i in let words : List Text = path at i in record { base = word; path = words }) in
    let Above : PlainName → Type 0 = λ upper. Contains (map raw_name c.in_ok-parents.parents.items) upper in
    let Lists : PlainName → Type 0 = λ upper. ListsDescendant schema it.0 upper in
    let old = definitions_bag c.args.definitions.now.entries in
    let steps = ap (map plain_entry) c.in-Some.ensures.steps in
    record {
      put = put_more steps c.loop-name.invariant.put (type_declared namespace id body)
          (definitions_bag c.put_entity_type.new.definitions.entries)
          (record {
            name = here;
            body = body;
            declares = refl;
            kind = kind-same namespace Above Lists (parents at) it.1.kind body c.in_ok-declared.ensures.written;
          })
          (record {
            kind = in_each_namespace (λ each. IsSoundKind (known_names known) each Lists it.1.kind) namespace _ (path at)
                (sound_kind-same namespace Above Lists (parents at) (known_names known) it.1.kind c.in_ok-declared.ensures.sound);
            above = in_each_namespace (λ each. (upper : PlainName) → Lists upper → NamesNoOther (known_names known) each upper) namespace
                _ (path at)
                (λ upper lists. c.in_ok-parents.ensures.no_other upper ((c.requires.ancestors c.in-Some.name.now upper).1 lists));
            below = rw (names_of_keys type_name plain_entry (λ e. refl) known.entity_types.now.entries)
                c.in_ok-check_descendants.ensures.there;
          })
          (c.in_ok-put_entity_type.ensures.put (λ other among.
          let one = put_other steps c.loop-name.invariant.put (type_declared namespace id other) among
          (λ there. none_there old (type_declared namespace id other) c.requires.empty there) in
          one.2 (sym one.1.name ∙ here)));
      proper = λ all. c.in_ok-put_entity_type.ensures.proper (c.loop-name.invariant.proper all);
    }
