use Rattle.std.proofs.Common.{◌≡◌, ◌⊎◌, List, ◌∷◌, ap, inl, inr, map, subst, sym, ◌∙◌, ⊎_elim, Contains}
use Rattle.std.proofs.lemmas.Bool.{false≢true}
use Rattle.cedar_ast.proofs.Basics.{Contains-none}
use Rattle.cedar_ast.proofs.Lists.{Contains-cons_cases}
use Rattle.cedar_ast.proofs.Names.{entity_type_ord-name_cmp}
use Rattle.cedar_ast.specs.contracts.entity_type.EntityTypeOrd.TheImpl as type_ord
use Rattle.cedar_compare.proofs.FindLemmas.{plain_keys}
use Rattle.cedar_compare.proofs.LostUidLemmas.{lost_on, lost_put}
use Rattle.cedar_compare.proofs.UpperLemmas.{none_kept}
use Rattle.cedar_compare.proofs.lost_uids.add_actions.Goals as goal
use Rattle.cedar_compare.specs.Words.{Exists, IsActionType, IsLostIn, PlainUid, action_entries, action_of, name_cmp, schema_of, type_name, uid_of}

-- at first all actions of the old version are left
pub loop-uid-init : goal.loop-uid-init
loop-uid-init c = λ so_far.
    let old = schema_of c.args.old.now in
    let new = schema_of c.args.new.now in
    let uids : map uid_of c.into_iter-uid-iterator.result ≡ map (λ it. it.0) old.actions =
    ap (map uid_of) (c.into_iter-uid-iterator.ensures.into_iter_gives ∙ c.actions-uid-items.ensures.uids)
    ∙ sym (plain_keys uid_of action_of (action_entries c.args.old.now)) in
    lost_on old new (λ uid. IsActionType uid.ty) (λ uid. Contains (map uid_of c.into_iter-uid-iterator.result) uid) c.args.lost.now
    (λ uid lost of_actions. inl (subst (λ (us : List PlainUid). Contains us uid) (sym uids) (lost.0.action of_actions))) so_far

-- what is left is another uid, or this one
past : (first : PlainUid) (left rest : List PlainUid) → left ≡ first ∷ rest → (uid : PlainUid) → Contains left uid → Contains rest uid ⊎ (uid ≡ first)
past first left rest steps uid among = ⊎_elim (λ same. inr (sym same)) (λ later. inl later)
    (Contains-cons_cases first rest uid (subst (λ (us : List PlainUid). Contains us uid) steps among))

-- a uid that isn't lost is gone past
pub loop-uid-preserved-then-not-is_lost : goal.loop-uid-preserved-then-not-is_lost
loop-uid-preserved-then-not-is_lost c = λ start.
    let old = schema_of c.args.old.now in
    let new = schema_of c.args.new.now in
    let first = uid_of c.in-Some.uid.now in
    let left = map uid_of c.loop-uid.uid-iterator in
    let rest = map uid_of c.next.new.self in
    lost_on old new (Contains left) (Contains rest) c.loop-uid.lost
    (λ uid lost among. ⊎_elim (λ later. inl later)
    (λ same. absurd (false≢true (sym c.if-not-is_lost.true ∙ c.is_lost.ensures.1 (subst (λ (u : PlainUid). Exists old u × ¬ Exists new u) same lost))))
    (past first left rest (ap (map uid_of) c.in-Some.ensures.steps) uid among))
    (c.loop-uid.invariant start)

-- so is one of a type under which one is kept
pub loop-uid-preserved-then-contains_key : goal.loop-uid-preserved-then-contains_key
loop-uid-preserved-then-contains_key c = λ start.
    let old = schema_of c.args.old.now in
    let new = schema_of c.args.new.now in
    let first = uid_of c.in-Some.uid.now in
    let left = map uid_of c.loop-uid.uid-iterator in
    let rest = map uid_of c.next.new.self in
    let key = c.entity_type.result.now in
    lost_on old new (Contains left) (Contains rest) c.loop-uid.lost
    (λ uid lost among. ⊎_elim (λ later. inl later)
    (λ same. inr (
      key,
      c.entity_type.ensures.name ∙ ap (λ (u : PlainUid). u.ty) (sym same),
      λ none.
          false≢true (sym (none_kept type_name (type_ord.ghosts).cmp name_cmp entity_type_ord-name_cmp c.loop-uid.lost key none)
          ∙ (sym c.contains_key.ensures ∙ c.if-contains_key.true)),
    ))
    (past first left rest (ap (map uid_of) c.in-Some.ensures.steps) uid among))
    (c.loop-uid.invariant start)

-- another one is put under its type
pub loop-uid-preserved : goal.loop-uid-preserved
loop-uid-preserved c = λ start.
    let old = schema_of c.args.old.now in
    let new = schema_of c.args.new.now in
    let first = uid_of c.in-Some.uid.now in
    let left = map uid_of c.loop-uid.uid-iterator in
    let rest = map uid_of c.next.new.self in
    let key = c.in_ok-clone.field-0 in
    let uid = c.in_ok-clone-2.field-0 in
    let copied : uid_of uid ≡ first = c.in_ok-clone-2.ensures.uid in
    let named : type_name key ≡ first.ty = c.in_ok-clone.ensures.name ∙ c.entity_type-in-loop-uid.ensures.name in
    let lost : IsLostIn old new (uid_of uid) = subst (IsLostIn old new) (sym copied) (c.is_lost.ensures.0 c.if-not-is_lost.false) in
    lost_put old new (Contains left) (Contains rest) c.loop-uid.lost c.keep.new.kept key uid c.in_ok-keep.ensures
    (ap (λ (u : PlainUid). u.ty) copied ∙ sym named, lost)
    (λ it is_lost differ among. ⊎_elim (λ later. inl later)
    (λ same. absurd (differ (ap (λ (u : PlainUid). u.ty) same ∙ sym named)))
    (past first left rest (ap (map uid_of) c.in-Some.ensures.steps) it among))
    (c.loop-uid.invariant start)

-- where none is left, all that are lost are kept
pub returns : goal.returns
returns c = λ start.
    let old = schema_of c.args.old.now in
    let new = schema_of c.args.new.now in
    lost_on old new (Contains (map uid_of c.loop-uid.uid-iterator)) (λ uid. ⊥) c.loop-uid.lost
    (λ uid lost among. absurd (Contains-none uid (subst (λ (us : List PlainUid). Contains us uid) (ap (map uid_of) c.in-None.ensures.steps.0) among)))
    (c.loop-uid.invariant start)
