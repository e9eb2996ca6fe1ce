use Rattle.std.proofs.Common.{◌≡◌, ◌↔◌, Bool, List, ap, map, refl, string_bytes, sym, ◌∙◌, Contains}
use Rattle.std.proofs.lemmas.Bool.{false≢true}
use Rattle.cedar_schema_elements.proofs.KeyLemmas.{names_of_keys, uids_once}
use Rattle.cedar_schema_writer.proofs.KindLemmas.{images, images-same}
use Rattle.cedar_schema_writer.proofs.NameLemmas.{in_each_namespace}
use Rattle.cedar_schema_writer.proofs.Put.{put_here, put_more, put_none, put_other, put_sound}
use Rattle.cedar_schema_writer.proofs.Refusals.{refusal_passed}
use Rattle.cedar_schema_writer.proofs.actions.write_actions.Goals as goal
use Rattle.cedar_schema_writer.proofs.actions.write_actions.Goals.{In_ok-parents, In-Some}
use Rattle.cedar_schema_writer.specs.Words.{IsActionDeclaration, IsPathOf, IsSoundAction, IsSoundActionEntry, ListsDescendantAction, NamesNoOtherAction, PlainName, PlainUid, RawName, SchemaAction, Text, action, action_body, action_declared, action_word, definitions_bag, full_uid, known_names, known_schema, name_within, plain_action_entry, plain_namespace, raw_reference, uid_of, written_uid}

-- nothing is put yet, and each uid is there once
pub loop-uid-init : goal.loop-uid-init
loop-uid-init c =
    let entries = c.args.known.now.actions.now.entries in
    record {
      put = put_none (λ (it : PlainUid × SchemaAction). it.0) (IsActionDeclaration (known_schema c.args.known.now))
          (IsSoundActionEntry c.args.known.now)
          (definitions_bag c.args.definitions.now.entries) (map plain_action_entry entries) _
          (ap (map plain_action_entry) c.into_iter-uid-iterator.ensures.into_iter_gives.0)
          (uids_once entries c.into_iter-uid-iterator.ensures.into_iter_gives.1);
      proper = λ all. all;
    }

-- the action of this turn
abbrev turn : In-Some → PlainUid × SchemaAction
turn c = plain_action_entry (c.in-Some.uid.now, c.in-Some.action.now)

-- it is one of the schema
listed : (c : In-Some) → Contains (known_schema c.args.known.now).actions (turn c)
listed c = put_here (ap (map plain_action_entry) c.in-Some.ensures.steps) c.loop-uid.invariant.put

-- the namespace is that of its type
path : (c : In_ok-parents) → IsPathOf (plain_namespace c.in_ok-namespace.namespace) (uid_of c.in-Some.uid.now).ty.path
path c = c.in_ok-namespace.ensures ∙ ap (λ (name : PlainName). name.path) (c.name.ensures.name ∙ c.entity_type.ensures.name)

-- an action whose type has another base name can't be written
pub returns-then-not-is_action-clause-refusal : goal.returns-then-not-is_action-clause-refusal
returns-then-not-is_action-clause-refusal c =
    let at = (goal.at.returns-then-not-is_action-clause-refusal c).In-Some in
    (turn at, listed at, λ sound. false≢true (sym c.if-not-is_action.true ∙ c.is_action.ensures.1 sound.action_type))

-- nor can one with a descendant that is no action of the schema
pub returns-in_err-check_descendants-clause-refusal : goal.returns-in_err-check_descendants-clause-refusal
returns-in_err-check_descendants-clause-refusal c =
    let at = (goal.at.returns-in_err-check_descendants-clause-refusal c).In-Some in
    refusal_passed _ _ c.from_residual.ensures.1 c.in_err-check_descendants.ensures.refusal
    (λ some.
    let unknown = rw (← names_of_keys uid_of plain_action_entry (λ e. refl) c.args.known.now.actions.now.entries) at some in
    (turn at, listed at, λ sound. unknown.2 (sound.below unknown.0 unknown.1)))

-- nor one with a parent whose name would name another
pub returns-in_err-parents-clause-refusal : goal.returns-in_err-parents-clause-refusal
returns-in_err-parents-clause-refusal c =
    let at = (goal.at.returns-in_err-parents-clause-refusal c).In-Some in
    let is : IsPathOf (plain_namespace c.in_ok-namespace.namespace) (uid_of c.in-Some.uid.now).ty.path =
    c.in_ok-namespace.ensures ∙ ap (λ (name : PlainName). name.path) (c.name.ensures.name ∙ c.entity_type.ensures.name) in
    refusal_passed _ _ c.from_residual-in_err-parents.ensures.1 c.in_err-parents.ensures.refusal
    (λ some. (
      turn at,
      listed at,
      λ sound. some.2 (sound.above _ is some.0 ((c.requires.ancestors c.in-Some.uid.now some.0).0 some.1)),
    ))

-- nor one whose requests can't be written
pub returns-in_err-declared-clause-refusal : goal.returns-in_err-declared-clause-refusal
returns-in_err-declared-clause-refusal c =
    let at = (goal.at.returns-in_err-declared-clause-refusal c).In-Some in
    refusal_passed _ _ c.from_residual-in_err-declared.ensures.1 c.in_err-declared.ensures.refusal
    (λ unsound. (
      turn at,
      listed at,
      λ sound. unsound (sound.kind _ (path (goal.at.returns-in_err-declared-clause-refusal c).In_ok-parents)),
    ))

-- the declaration is put under the uid of this turn, which is written from its namespace and id;
-- its parents are the uids that list it
pub loop-uid-preserved : goal.loop-uid-preserved
loop-uid-preserved c =
    let known = c.args.known.now in
    let schema = known_schema known in
    let it : PlainUid × SchemaAction = plain_action_entry (c.in-Some.uid.now, c.in-Some.action.now) in
    let namespace = plain_namespace c.in_ok-namespace.namespace in
    let id = string_bytes c.in_ok-id.id.0 in
    let body = action_body RawName (raw_reference namespace) namespace c.in_ok-declared.declared in
    let at = (goal.at.loop-uid-preserved c).In_ok-parents in
    let action_type = c.is_action.ensures.0 c.if-not-is_action.false in
    let eid : id ≡ it.0.eid = c.in_ok-id.ensures ∙ c.eid.ensures in
    let base = sym action_type in
    let uid : PlainUid = record { ty = name_within namespace action_word; eid = id } in
    let here : uid ≡ it.0 =
    (λ i. let word : Text = base i in let words : List Text = path at i in let text : Text = eid i in
    record { ty = record { base = word; path = words }; eid = text }) in
    let uids = map written_uid c.in_ok-parents.parents.items in
    let Lists : PlainUid → Type 0 = λ upper. ListsDescendantAction schema it.0 upper in
    let same : (upper : PlainUid) → Contains uids upper ↔ Lists upper = λ upper.
    let names = c.in_ok-parents.ensures.names upper in
    let lists = c.requires.ancestors c.in-Some.uid.now upper in (λ among. lists.0 (names.0 among), λ of. names.1 (lists.1 of)) in
    let written = c.in_ok-declared.ensures.written in
    let steps = ap (map plain_action_entry) c.in-Some.ensures.steps in
    let sound : IsSoundActionEntry known it = record {
      action_type = action_type;
      kind = in_each_namespace (λ each. IsSoundAction (known_names known) each it.1.kind) namespace _ (path at)
          c.in_ok-declared.ensures.sound;
      above = in_each_namespace (λ each. (upper : PlainUid) → Lists upper → NamesNoOtherAction (known_names known) each upper) namespace
          _ (path at)
          (λ upper lists. c.in_ok-parents.ensures.no_other upper ((c.requires.ancestors c.in-Some.uid.now upper).1 lists));
      below = rw (names_of_keys uid_of plain_action_entry (λ e. refl) known.actions.now.entries)
          c.in_ok-check_descendants.ensures.there;
    } in
    record {
      put = put_more steps c.loop-uid.invariant.put (action_declared namespace id body)
          (definitions_bag c.put_action.new.definitions.entries)
          (record {
            uid = here;
            parents = body.parents;
            applies_to = body.applies_to;
            declares = ap (λ (attributes : Bool). action
                (record { has_attributes = attributes; parents = body.parents; applies_to = body.applies_to }))
                written.without_attributes;
            above = rw written.parents_are
                (images-same (full_uid namespace) (λ upper. Contains uids upper) Lists same (map (full_uid namespace) uids)
                (images (full_uid namespace) uids));
            kind = written.requests_are;
          })
          sound
          (c.in_ok-put_action.ensures.put (λ other among.
          let one = put_other steps c.loop-uid.invariant.put (action_declared namespace id other) among
          (c.requires.none namespace id other) in
          one.2 (sym one.1.uid ∙ here)));
      proper = λ all. c.in_ok-put_action.ensures.proper c.in_ok-declared.ensures.applies (c.loop-uid.invariant.proper all);
    }

pub returns-clause-sound : goal.returns-clause-sound
returns-clause-sound c = put_sound (ap (map plain_action_entry) c.in-None.ensures.steps.0) c.loop-uid.invariant.put
