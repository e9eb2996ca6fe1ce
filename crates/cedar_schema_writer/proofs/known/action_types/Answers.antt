use Rattle.std.proofs.Common.{◌≡◌, ◌++◌, List, [], ◌∷◌, None, ap, ◌∙◌, map, refl}
use Rattle.std.proofs.lemmas.List.{map-append}
use Rattle.std.proofs.lemmas.Map.Iter.{iter_end}
use Rattle.std.specs.Map.{keys_of}
use Rattle.std.specs.Map.Iter.{deref}
use Rattle.cedar_ast.proofs.Names.{entity_type_eq-same}
use Rattle.cedar_ast.specs.contracts.entity_type.EntityTypeEq.TheImpl as entity_type_equal
use Rattle.cedar_schema_elements.proofs.SetLemmas.{AnswersAlike-insert, SameItems-types, type_inserted}
use Rattle.cedar_schema_writer.proofs.known.action_types.Goals as goal
use Rattle.cedar_schema_writer.specs.Words.{EntityUID, PlainUid, SchemaAction, ValidatorActionId, plain_action_entry, type_name}

-- the names of the types of actions are those of their uids
types_of : (actions : List (EntityUID × ValidatorActionId))
    → map type_name (map (λ (uid : EntityUID). uid.ty) (keys_of actions))
    ≡ map (λ (it : PlainUid × SchemaAction). it.0.ty) (map plain_action_entry actions)
types_of [] = refl
types_of (entry ∷ rest) = ap (λ names. type_name entry.0.ty ∷ names) (types_of rest)

pub loop-uid-preserved : goal.loop-uid-preserved
loop-uid-preserved c =
    let more : map (λ (uid : EntityUID). uid.ty) (map deref (c.loop-uid.yielded ++ c.in-Some.uid ∷ []))
    ≡ map (λ (uid : EntityUID). uid.ty) (map deref c.loop-uid.yielded) ++ c.in-Some.uid.now.ty ∷ [] =
    ap (map (λ (uid : EntityUID). uid.ty)) (map-append deref c.loop-uid.yielded (c.in-Some.uid ∷ []))
    ∙ map-append (λ (uid : EntityUID). uid.ty) (map deref c.loop-uid.yielded) (c.in-Some.uid.now ∷ []) in
    rw more
    (AnswersAlike-insert entity_type_equal.Laws.laws-law (map (λ (uid : EntityUID). uid.ty) (map deref c.loop-uid.yielded)) c.loop-uid.types.keys
    c.insert.new.self.keys c.in-Some.uid.now.ty c.in_ok-clone.field-0 c.loop-uid.invariant
    ((entity_type_eq-same c.in_ok-clone.field-0 c.in-Some.uid.now.ty).1 (c.in_ok-clone.ensures.name ∙ c.entity_type.ensures.name))
    (λ q. type_inserted c.loop-uid.types.keys c.insert.new.self.keys c.in_ok-clone.field-0 q (c.in_ok-insert.ensures.updates.0 q)))

pub returns : goal.returns
returns c =
    let uids = keys_of c.args.actions.now.entries in
    let begins = c.into_iter-uid-iterator.ensures.into_iter_gives ∙ c.keys-uid-items.ensures.rest in
    let all : map deref c.loop-uid.yielded ≡ uids =
    (iter_end deref uids c.loop-uid.yielded c.into_iter-uid-iterator.result c.loop-uid.uid-iterator c.next.new.self None begins
    c.loop-uid.yielded_by refl c.in-None.ensures.steps).0 in
    λ name.
    let same = SameItems-types c.loop-uid.types.keys (map (λ (uid : EntityUID). uid.ty) uids)
    (rw all at c.loop-uid.invariant) name in (
      λ among. rw (types_of c.args.actions.now.entries) at (same.0 among),
      λ among. same.1 (rw (types_of c.args.actions.now.entries) among),
    )
