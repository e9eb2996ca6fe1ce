use Rattle.std.proofs.Common.{◌≡◌, ◌∷◌, Contains, ap, inl, inr, map, refl, subst, sym, ◌∙◌}
use Rattle.std.proofs.lemmas.Bool.{false≢true}
use Rattle.std.specs.Option.{option_copied, option_map}
use Rattle.cedar_ast.proofs.Lists.{Contains-cons}
use Rattle.cedar_compare.proofs.AncestorLemmas.{IsTypeLeft, below_it, entity_walk, may_above, none_kept, not_above, still_above}
use Rattle.cedar_compare.proofs.UpperLemmas.{left_first, left_none, left_past, past_kept, past_there, upper_put}
use Rattle.cedar_compare.proofs.ancestors.add_descendants.Goals as goal
use Rattle.cedar_compare.specs.Words.{AreAncestorsSoFar, MayStandAbove, PlainName, PlainUid, eid_text, new_of, old_of, plain_type, type_name, uid_of}

-- at first all descendants of the entity type are left
pub loop-lower-init : goal.loop-lower-init
loop-lower-init c =
    let old = old_of c.args.versions.now in
    let new = new_of c.args.versions.now in
    let name = type_name c.args.name.now in
    let it = plain_type c.args.old.now in
    let lowers : map type_name c.into_iter-lower-iterator.result ≡ it.descendants =
    ap (map type_name) c.into_iter-lower-iterator.ensures.into_iter_gives.0 in
    record {
      reported = λ left so_far. left_first (entity_walk old new) name left (map type_name c.into_iter-lower-iterator.result) c.args.ancestors.now
          (λ lower upper named above. subst (λ xs. Contains xs lower) (sym lowers)
          (below_it old new c.requires.versions.old_keyed c.requires.versions.new_keyed name it c.requires.old (eid_text c.args.upper.now.eid) c.requires.may
          (option_map plain_type (option_copied c.args.upper.now.kept)) c.requires.kept lower upper named above))
          so_far;
      listed = λ lower there. subst (λ xs. Contains xs lower) lowers there;
    }

-- a descendant loses nothing where each uid of the type still may stand above it in the new version
pub loop-lower-preserved-then-is_still_above : goal.loop-lower-preserved-then-is_still_above
loop-lower-preserved-then-is_still_above c =
    let old = old_of c.args.versions.now in
    let new = new_of c.args.versions.now in
    let name = type_name c.args.name.now in
    let it = plain_type c.args.old.now in
    let lower = type_name c.in-Some.lower.now in
    let steps = ap (map type_name) c.in-Some.ensures.steps in
    record {
      reported = λ left so_far. past_kept (entity_walk old new) name left lower (map type_name c.next.new.self) c.loop-lower.ancestors
          (λ upper named above. still_above old new c.requires.versions.old_keyed c.requires.versions.new_keyed name it c.requires.old
          (eid_text c.args.upper.now.eid) c.requires.may (option_map plain_type (option_copied c.args.upper.now.kept)) c.requires.kept lower
          (c.is_still_above.ensures.0 c.if-is_still_above.true) upper named above)
          (subst (λ lowers. AreAncestorsSoFar old new (IsTypeLeft name lowers left) c.loop-lower.ancestors) steps (c.loop-lower.invariant.reported left so_far));
      listed = λ other there. c.loop-lower.invariant.listed other (subst (λ xs. Contains xs other) (sym steps) (Contains-cons (type_name c.in-Some.lower.now) (map type_name c.next.new.self) other (inr there)));
    }

-- a descendant for which a uid is kept needs no other one
pub loop-lower-preserved-then-contains_key : goal.loop-lower-preserved-then-contains_key
loop-lower-preserved-then-contains_key c =
    let old = old_of c.args.versions.now in
    let new = new_of c.args.versions.now in
    let name = type_name c.args.name.now in
    let steps = ap (map type_name) c.in-Some.ensures.steps in
    record {
      reported = λ left so_far. past_there (entity_walk old new) name left c.in-Some.lower.now (map type_name c.next.new.self) c.loop-lower.ancestors
          (λ none. false≢true (sym (none_kept c.loop-lower.ancestors c.in-Some.lower.now none) ∙ (sym c.contains_key.ensures ∙ c.if-contains_key.true)))
          (subst (λ lowers. AreAncestorsSoFar old new (IsTypeLeft name lowers left) c.loop-lower.ancestors) steps (c.loop-lower.invariant.reported left so_far));
      listed = λ other there. c.loop-lower.invariant.listed other (subst (λ xs. Contains xs other) (sym steps) (Contains-cons (type_name c.in-Some.lower.now) (map type_name c.next.new.self) other (inr there)));
    }

-- the uid may stand above the descendant in the old version and not in the new, and is kept for it
pub loop-lower-preserved : goal.loop-lower-preserved
loop-lower-preserved c =
    let steps = ap (map type_name) c.in-Some.ensures.steps in
    let old = old_of c.args.versions.now in
    let new = new_of c.args.versions.now in
    let name = type_name c.args.name.now in
    let it = plain_type c.args.old.now in
    let first = c.in-Some.lower.now in
    let lower = type_name first in
    let rest = map type_name c.next.new.self in
    let kept = option_map plain_type (option_copied c.args.upper.now.kept) in
    let id = eid_text c.args.upper.now.eid in
    let key = c.in_ok-clone-3.field-0 in
    let uid = c.new-uid.result in
    let named : type_name key ≡ lower = c.in_ok-clone-3.ensures.name in
    let is : uid_of uid ≡ record { ty = name; eid = id } = λ i. record {
      ty = (c.new-uid.ensures.ty ∙ c.in_ok-clone.ensures.name) i;
      eid = (c.new-uid.ensures.eid ∙ c.in_ok-clone-2.ensures) i;
    } in
    let listed : Contains it.descendants lower = c.loop-lower.invariant.listed lower (subst (λ xs. Contains xs lower) (sym steps) (Contains-cons lower rest lower (inl refl))) in
    let Q : PlainName → PlainUid → Type 0 = MayStandAbove old in
    let R : PlainName → PlainUid → Type 0 = MayStandAbove new in
    record {
      reported = λ left so_far. upper_put (entity_walk old new) (IsTypeLeft name (lower ∷ rest) left) (IsTypeLeft name rest left) c.loop-lower.ancestors c.keep.new.kept key uid
          c.in_ok-keep.ensures (
            subst (λ n. Q n (uid_of uid)) (sym named) (subst (Q lower) (sym is)
                (may_above old new c.requires.versions.old_keyed c.requires.versions.new_keyed name it c.requires.old id c.requires.may kept c.requires.kept lower listed)),
            λ above. not_above old new c.requires.versions.old_keyed c.requires.versions.new_keyed name it c.requires.old id c.requires.may kept c.requires.kept lower
                (λ still. false≢true (sym c.if-is_still_above.false ∙ c.is_still_above.ensures.1 still))
                (subst (R lower) is (subst (λ n. R n (uid_of uid)) named above)),
          )
          (λ other different upper is_left. left_past (entity_walk old new) name left first rest other (λ same. different (named ∙ same)) upper is_left)
          (subst (λ lowers. AreAncestorsSoFar old new (IsTypeLeft name lowers left) c.loop-lower.ancestors) steps (c.loop-lower.invariant.reported left so_far));
      listed = λ other there. c.loop-lower.invariant.listed other (subst (λ xs. Contains xs other) (sym steps) (Contains-cons (type_name c.in-Some.lower.now) (map type_name c.next.new.self) other (inr there)));
    }

-- where no descendant is left, the uids of this entity type are done with
pub returns : goal.returns
returns c = λ left so_far.
    left_none (entity_walk (old_of c.args.versions.now) (new_of c.args.versions.now)) (type_name c.args.name.now) left (map type_name c.loop-lower.lower-iterator)
    c.loop-lower.ancestors (ap (map type_name) c.in-None.ensures.steps.0) (c.loop-lower.invariant.reported left so_far)
