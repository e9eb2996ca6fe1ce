use Rattle.std.proofs.Common.{◌≡◌, ◌⊎◌, List, ◌∷◌, Option, ap, inl, inr, map, subst, sym, ◌∙◌, ⊎_elim, Contains}
use Rattle.std.proofs.lemmas.Bool.{false≢true}
use Rattle.std.specs.Option.{option_map}
use Rattle.cedar_ast.proofs.Basics.{Contains-none}
use Rattle.cedar_ast.proofs.Lists.{Contains-cons_cases}
use Rattle.cedar_compare.proofs.FindLemmas.{plain_keys}
use Rattle.cedar_compare.proofs.LostUidLemmas.{lost_choice, lost_first, lost_on, lost_put, named_or_kept, no_lost_choice}
use Rattle.cedar_compare.proofs.lost_uids.lost_choices.Goals as goal
use Rattle.cedar_compare.specs.Words.{EntityUID, IsActionType, IsUidOutside, PlainName, plain_type, schema_entries, schema_of, type_name, uid_of}

-- what is left: uids of actions, and those of names that are left
abbrev Left : List PlainName → PlainName → Type 0
Left names name = IsActionType name ⊎ Contains names name

-- at first all entity types of the new version are left
pub loop-name-init : goal.loop-name-init
loop-name-init c =
    let names : map type_name c.into_iter-name-iterator.result ≡ map (λ it. it.0) (schema_of c.args.new.now).entity_types =
    ap (map type_name) (c.into_iter-name-iterator.ensures.into_iter_gives ∙ c.entity_type_names-name-items.ensures.names)
    ∙ sym (plain_keys type_name plain_type (schema_entries c.args.new.now)) in
    lost_first (schema_of c.args.old.now) (schema_of c.args.new.now) (λ uid. Left (map type_name c.into_iter-name-iterator.result) uid.ty)
    c.new-lost.result c.new-lost.ensures.empty
    (λ uid lost. subst (λ (ns : List PlainName). Left ns uid.ty) (sym names) (named_or_kept (schema_of c.args.old.now) (schema_of c.args.new.now) uid lost))

-- what is left is of another name, or of this one
past : (first : PlainName) (rest : List PlainName) (name : PlainName) → Left (first ∷ rest) name → Left rest name ⊎ (name ≡ first)
past first rest name left = ⊎_elim (λ of_actions. inl (inl of_actions))
    (λ among. ⊎_elim (λ same. inr (sym same)) (λ later. inl (inr later)) (Contains-cons_cases first rest name among)) left

-- a type of actions isn't looked at
pub loop-name-preserved-then-is_action : goal.loop-name-preserved-then-is_action
loop-name-preserved-then-is_action c =
    let old = schema_of c.args.old.now in
    let new = schema_of c.args.new.now in
    let first = type_name c.in-Some.name.now in
    let rest = map type_name c.next.new.self in
    lost_on old new (λ uid. Left (map type_name c.loop-name.name-iterator) uid.ty) (λ uid. Left rest uid.ty) c.loop-name.lost
    (λ uid lost left. inl (⊎_elim (λ later. later)
    (λ same. inl (subst IsActionType (sym same) (c.is_action.ensures.0 c.if-is_action.true)))
    (past first rest uid.ty (subst (λ (ns : List PlainName). Left ns uid.ty) (ap (map type_name) c.in-Some.ensures.steps) left))))
    c.loop-name.invariant

-- a uid that the type loses is put under it
pub loop-name-preserved-in_ok-keep : goal.loop-name-preserved-in_ok-keep
loop-name-preserved-in_ok-keep c =
    let old = schema_of c.args.old.now in
    let new = schema_of c.args.new.now in
    let first = type_name c.in-Some.name.now in
    let rest = map type_name c.next.new.self in
    let plain : ¬ IsActionType first = λ of_actions. false≢true (sym c.if-is_action.false ∙ c.is_action.ensures.1 of_actions) in
    let uid = c.in-Some-2.uid in
    let key = c.in_ok-clone.field-0 in
    let named : type_name key ≡ first = c.in_ok-clone.ensures.name in
    let P : Option EntityUID → Type 0 = λ o. IsUidOutside old new first (option_map uid_of o) in
    let lost = lost_choice old new first (uid_of uid) plain (subst P c.in-Some-2.is c.in_ok-uid.ensures) in
    lost_put old new (λ it. Left (map type_name c.loop-name.name-iterator) it.ty) (λ it. Left rest it.ty) c.loop-name.lost c.keep.new.kept
    key uid c.in_ok-keep.ensures (lost.0 ∙ sym named, lost.1)
    (λ it is_lost differ left. inl (⊎_elim (λ later. later)
    (λ same. absurd (differ (same ∙ sym named)))
    (past first rest it.ty (subst (λ (ns : List PlainName). Left ns it.ty) (ap (map type_name) c.in-Some.ensures.steps) left))))
    c.loop-name.invariant

-- a type that loses none is gone past
pub loop-name-preserved : goal.loop-name-preserved
loop-name-preserved c =
    let old = schema_of c.args.old.now in
    let new = schema_of c.args.new.now in
    let first = type_name c.in-Some.name.now in
    let rest = map type_name c.next.new.self in
    let plain : ¬ IsActionType first = λ of_actions. false≢true (sym c.if-is_action.false ∙ c.is_action.ensures.1 of_actions) in
    let P : Option EntityUID → Type 0 = λ o. IsUidOutside old new first (option_map uid_of o) in
    let none = subst P c.in_default.is c.in_ok-uid.ensures in
    lost_on old new (λ uid. Left (map type_name c.loop-name.name-iterator) uid.ty) (λ uid. Left rest uid.ty) c.loop-name.lost
    (λ uid lost left. inl (⊎_elim (λ later. later)
    (λ same. absurd (no_lost_choice old new first uid plain none same lost))
    (past first rest uid.ty (subst (λ (ns : List PlainName). Left ns uid.ty) (ap (map type_name) c.in-Some.ensures.steps) left))))
    c.loop-name.invariant

-- where no type is left, uids of actions are
pub returns : goal.returns
returns c =
    let old = schema_of c.args.old.now in
    let new = schema_of c.args.new.now in
    lost_on old new (λ uid. Left (map type_name c.loop-name.name-iterator) uid.ty) (λ uid. IsActionType uid.ty) c.loop-name.lost
    (λ uid lost left. inl (⊎_elim (λ of_actions. of_actions)
    (λ among. absurd (Contains-none uid.ty (subst (λ (ns : List PlainName). Contains ns uid.ty) (ap (map type_name) c.in-None.ensures.steps.0) among))) left))
    c.loop-name.invariant
