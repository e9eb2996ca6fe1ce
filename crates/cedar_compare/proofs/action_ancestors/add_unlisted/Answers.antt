use Rattle.std.proofs.Common.{List, Contains, ap, map, subst, sym, ◌∙◌}
use Rattle.cedar_compare.proofs.ActionAncestorLemmas.{action_past_none, actions_left, no_action_left}
use Rattle.cedar_compare.proofs.FindLemmas.{plain_keys}
use Rattle.cedar_compare.proofs.action_ancestors.add_unlisted.Goals as goal
use Rattle.cedar_compare.specs.Words.{AreActionAncestorsSoFar, PlainUid, action_entries, action_of, schema_of, uid_of}

-- at first all actions of the schema are left
pub loop-uid-init : goal.loop-uid-init
loop-uid-init c =
    let one = schema_of c.args.one.now in
    let other = schema_of c.args.other.now in
    record {
      reported = actions_left one other (map uid_of c.into_iter-uid-iterator.result) c.args.ancestors.now
          (plain_keys uid_of action_of (action_entries c.args.one.now)
          ∙ sym (ap (map uid_of) (c.into_iter-uid-iterator.ensures.into_iter_gives ∙ c.actions-uid-items.ensures.uids)));
      kept = λ before. before;
    }

-- the descendants of one more action are done with
pub loop-uid-preserved-in-Continue-1 : goal.loop-uid-preserved-in-Continue-1
loop-uid-preserved-in-Continue-1 c =
    let one = schema_of c.args.one.now in
    let other = schema_of c.args.other.now in
    record {
      reported = λ before. c.in_ok-add_descendants.ensures.reported (map uid_of c.next.new.self)
          (subst (λ (uids : List PlainUid). AreActionAncestorsSoFar one other (λ lower upper. Contains uids upper) c.loop-uid.ancestors)
          (ap (map uid_of) c.in-Some.ensures.steps) (c.loop-uid.invariant.reported before));
      kept = λ before. c.in_ok-add_descendants.ensures.kept (c.loop-uid.invariant.kept before);
    }

-- a uid under which the schema has no action has no descendants either
pub loop-uid-preserved : goal.loop-uid-preserved
loop-uid-preserved c =
    let one = schema_of c.args.one.now in
    let other = schema_of c.args.other.now in
    record {
      reported = λ before. action_past_none one other (uid_of c.in-Some.uid.now) (map uid_of c.next.new.self) c.loop-uid.ancestors c.in_default.ensures
          (subst (λ (uids : List PlainUid). AreActionAncestorsSoFar one other (λ lower upper. Contains uids upper) c.loop-uid.ancestors)
          (ap (map uid_of) c.in-Some.ensures.steps) (c.loop-uid.invariant.reported before));
      kept = c.loop-uid.invariant.kept;
    }

-- where no action is left, one is kept for each descendant that the other schema doesn't list
pub returns-clause-reported : goal.returns-clause-reported
returns-clause-reported c = λ before.
    no_action_left (schema_of c.args.one.now) (schema_of c.args.other.now) (map uid_of c.loop-uid.uid-iterator) c.loop-uid.ancestors
    (ap (map uid_of) c.in-None.ensures.steps.0) (c.loop-uid.invariant.reported before)

-- what is kept for each action still holds for the two schemas turned round
pub returns-clause-kept : goal.returns-clause-kept
returns-clause-kept c = c.loop-uid.invariant.kept
