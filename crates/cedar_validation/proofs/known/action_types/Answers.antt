use Rattle.std.proofs.Common.{◌≡◌, List, ap, arith, map, sym, subst, ◌∙◌, Contains}
use Rattle.std.specs.Map.{keys_of}
use Rattle.cedar_schema_elements.proofs.SetLemmas.{type_inserted}
use Rattle.cedar_validation.proofs.Checking.{checking_all, checking_here, checking_none}
use Rattle.cedar_validation.proofs.Keyed.{key_of_uid, key_with_uid}
use Rattle.cedar_validation.proofs.TypeSets.{types_more}
use Rattle.cedar_validation.proofs.known.action_types.Goals as goal
use Rattle.cedar_validation.specs.Words.{HasAction, PlainName, PlainUid, plain_parts, type_name, uid_of}

-- the set is empty at first, and no uid has been read
pub loop-uid-init : goal.loop-uid-init
loop-uid-init c =
    let names = map type_name c.new-types.result.keys in
    let P : List PlainName → Type 0 = λ items. (name : PlainName) → Contains items name
    → (uid : PlainUid) × HasAction (plain_parts c.args.parts.now) uid × (uid.ty ≡ name) in
    record {
      sound = subst P (sym (ap (map type_name) c.new-types.ensures.empty)) (λ name none. absurd (omega (arith, none.1)));
      collected =
          checking_none (λ uid. Contains names (uid_of uid).ty) (keys_of c.args.parts.now.actions.entries) _
          (c.into_iter-uid-iterator.ensures.into_iter_gives ∙ c.keys-uid-items.ensures.rest);
    }

-- the type put in is that of an action of the schema, and the types that were there stay
pub loop-uid-preserved : goal.loop-uid-preserved
loop-uid-preserved c =
    let actions = c.args.parts.now.actions.entries in
    let uid = c.in-Some.uid.now in
    let names = map type_name c.loop-uid.types.keys in
    let among =
    checking_here (λ each. Contains names (uid_of each).ty) (keys_of actions) _ _ uid c.in-Some.ensures.steps
    c.loop-uid.invariant.collected in
    types_more (HasAction (plain_parts c.args.parts.now)) (keys_of actions) _ _ c.loop-uid.types.keys c.insert.new.self.keys
    c.in_ok-clone.field-0 uid c.in-Some.ensures.steps (c.in_ok-clone.ensures.name ∙ c.entity_type.ensures.name)
    (key_with_uid actions uid among)
    (λ q. type_inserted c.loop-uid.types.keys c.insert.new.self.keys c.in_ok-clone.field-0 q (c.in_ok-insert.ensures.updates.0 q))
    c.loop-uid.invariant

-- a name in the set is the type of an action, and as no uid is left, the type of each action is in
-- it
pub returns : goal.returns
returns c = λ name. (
  c.loop-uid.invariant.sound name,
  λ of.
      let actions = c.args.parts.now.actions.entries in
      let names = map type_name c.loop-uid.types.keys in
      let key = key_of_uid actions of.0 of.1 in
      rw (ap (λ (uid : PlainUid). uid.ty) key.2 ∙ of.2) at (checking_all (λ each. Contains names (uid_of each).ty) (keys_of actions) _ c.in-None.ensures.steps.0
      c.loop-uid.invariant.collected key.0 key.1),
)
