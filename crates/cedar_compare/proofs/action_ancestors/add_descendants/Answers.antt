use Rattle.std.proofs.Common.{◌≡◌, ◌∷◌, Contains, ap, inl, inr, map, refl, subst, sym, ◌∙◌}
use Rattle.std.proofs.lemmas.Bool.{false≢true}
use Rattle.cedar_ast.proofs.Lists.{Contains-cons}
use Rattle.cedar_compare.proofs.ActionAncestorLemmas.{IsActionLeft, action_left_first, action_left_none, action_left_past, action_past_kept, action_past_there, action_put, apart_turned, descendants_of_it, none_kept}
use Rattle.cedar_compare.proofs.action_ancestors.add_descendants.Goals as goal
use Rattle.cedar_compare.specs.Words.{AreActionAncestorsSoFar, ListsApart, action_of, schema_of, uid_of}

-- at first all descendants of the action are left
pub loop-lower-init : goal.loop-lower-init
loop-lower-init c =
    let one = schema_of c.args.one.now in
    let other = schema_of c.args.other.now in
    let uid = uid_of c.args.uid.now in
    let it = action_of c.args.action.now in
    let lowers : map uid_of c.into_iter-lower-iterator.result ≡ it.descendants =
    ap (map uid_of) c.into_iter-lower-iterator.ensures.into_iter_gives ∙ c.descendants-lower-items.ensures.uids in
    record {
      reported = λ left so_far. action_left_first one other uid left (map uid_of c.into_iter-lower-iterator.result) c.args.ancestors.now
          (λ lower listed. subst (λ xs. Contains xs lower) (sym lowers)
          (descendants_of_it one other uid left it c.requires.one c.requires.action lower listed))
          so_far;
      kept = λ before. before;
      listed = λ lower there. subst (λ xs. Contains xs lower) lowers there;
    }

-- where the other schema lists the descendant below the action too, nothing is to be kept for it
pub loop-lower-preserved-then-lists : goal.loop-lower-preserved-then-lists
loop-lower-preserved-then-lists c =
    let one = schema_of c.args.one.now in
    let other = schema_of c.args.other.now in
    let uid = uid_of c.args.uid.now in
    let lower = uid_of c.in-Some.lower.now in
    let rest = map uid_of c.next.new.self in
    let steps = ap (map uid_of) c.in-Some.ensures.steps in
    record {
      reported = λ left so_far. action_past_kept one other uid left lower rest c.loop-lower.ancestors (c.lists.ensures.0 c.if-lists.true)
          (subst (λ lowers. AreActionAncestorsSoFar one other (IsActionLeft uid lowers left) c.loop-lower.ancestors) steps (c.loop-lower.invariant.reported left so_far));
      kept = c.loop-lower.invariant.kept;
      listed = λ it there. c.loop-lower.invariant.listed it (subst (λ xs. Contains xs it) (sym steps) (Contains-cons lower rest it (inr there)));
    }

-- a descendant for which an action is kept needs no other one
pub loop-lower-preserved-then-contains_key : goal.loop-lower-preserved-then-contains_key
loop-lower-preserved-then-contains_key c =
    let one = schema_of c.args.one.now in
    let other = schema_of c.args.other.now in
    let uid = uid_of c.args.uid.now in
    let lower = uid_of c.in-Some.lower.now in
    let rest = map uid_of c.next.new.self in
    let steps = ap (map uid_of) c.in-Some.ensures.steps in
    record {
      reported = λ left so_far. action_past_there one other uid left c.in-Some.lower.now rest c.loop-lower.ancestors
          (λ none. false≢true (sym (none_kept c.loop-lower.ancestors c.in-Some.lower.now none) ∙ (sym c.contains_key.ensures ∙ c.if-contains_key.true)))
          (subst (λ lowers. AreActionAncestorsSoFar one other (IsActionLeft uid lowers left) c.loop-lower.ancestors) steps (c.loop-lower.invariant.reported left so_far));
      kept = c.loop-lower.invariant.kept;
      listed = λ it there. c.loop-lower.invariant.listed it (subst (λ xs. Contains xs it) (sym steps) (Contains-cons lower rest it (inr there)));
    }

-- one schema alone lists the descendant below the action, which is kept for it
pub loop-lower-preserved : goal.loop-lower-preserved
loop-lower-preserved c =
    let one = schema_of c.args.one.now in
    let other = schema_of c.args.other.now in
    let uid = uid_of c.args.uid.now in
    let it = action_of c.args.action.now in
    let first = c.in-Some.lower.now in
    let lower = uid_of first in
    let rest = map uid_of c.next.new.self in
    let steps = ap (map uid_of) c.in-Some.ensures.steps in
    let key = c.in_ok-clone.field-0 in
    let above = c.in_ok-clone-2.field-0 in
    let named : uid_of key ≡ lower = c.in_ok-clone.ensures.uid in
    let is : uid_of above ≡ uid = c.in_ok-clone-2.ensures.uid in
    let below : Contains it.descendants lower =
    c.loop-lower.invariant.listed lower (subst (λ xs. Contains xs lower) (sym steps) (Contains-cons lower rest lower (inl refl))) in
    let apart : ListsApart one other lower uid = inl (
      (it, c.requires.action, below),
      λ listed. false≢true (sym c.if-lists.false ∙ c.lists.ensures.1 listed),
    ) in
    let apart' : ListsApart one other (uid_of key) (uid_of above) =
    subst (λ u. ListsApart one other u (uid_of above)) (sym named) (subst (ListsApart one other lower) (sym is) apart) in
    record {
      reported = λ left so_far. action_put one other (IsActionLeft uid (lower ∷ rest) left) (IsActionLeft uid rest left) c.loop-lower.ancestors c.keep.new.kept key above
          c.in_ok-keep.ensures apart'
          (λ it different upper is_left. action_left_past one other uid left first rest it (λ same. different (named ∙ same)) upper is_left)
          (subst (λ lowers. AreActionAncestorsSoFar one other (IsActionLeft uid lowers left) c.loop-lower.ancestors) steps (c.loop-lower.invariant.reported left so_far));
      kept = λ before. action_put other one (λ lower upper. ⊥) (λ lower upper. ⊥) c.loop-lower.ancestors c.keep.new.kept key above
          c.in_ok-keep.ensures (apart_turned one other (uid_of key) (uid_of above) apart')
          (λ it different upper is_left. is_left)
          (c.loop-lower.invariant.kept before);
      listed = λ it there. c.loop-lower.invariant.listed it (subst (λ xs. Contains xs it) (sym steps) (Contains-cons lower rest it (inr there)));
    }

-- where no descendant is left, this action is done with
pub returns-clause-reported : goal.returns-clause-reported
returns-clause-reported c = λ left so_far.
    action_left_none (schema_of c.args.one.now) (schema_of c.args.other.now) (uid_of c.args.uid.now) left (map uid_of c.loop-lower.lower-iterator)
    c.loop-lower.ancestors (ap (map uid_of) c.in-None.ensures.steps.0) (c.loop-lower.invariant.reported left so_far)
