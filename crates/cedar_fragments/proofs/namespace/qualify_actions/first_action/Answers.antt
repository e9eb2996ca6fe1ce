use Rattle.std.proofs.Common.{◌≡◌, ◌∷◌, Contains, ap, map, string_bytes, sym, arith}
use Rattle.std.proofs.lemmas.List.{nil_from_length}
use Rattle.cedar_fragments.proofs.namespace.qualify_actions.first_action.Goals as goal
use Rattle.cedar_fragments.specs.Words.{PlainName, PlainUid, held_names, name_of, names_of, uid_of}
use Rattle.cedar_name_resolution.proofs.ResolveLemmas.{all_left, next_is_first, nothing_left, one_fewer_left}

-- behind a head that is the type of no such action, the tail is left
pub loop-name-init : goal.loop-name-init
loop-name-init c =
    let IsType : PlainName → Type 0 = λ name. Contains (held_names c.args.all_defs.now).actions (record { ty = name; eid = string_bytes c.args.id.now }) in
    let names = names_of c.args.names in
    let none : ¬ IsType (name_of c.args.names.head) = rw c.in_default.is at c.in_ok-uid.ensures.uid in
    one_fewer_left IsType names names _ (name_of c.args.names.head)
    (ap (λ tail. name_of c.args.names.head ∷ map name_of tail) (sym c.into_iter-name-iterator.ensures.into_iter_gives.0)) none (all_left IsType names)

-- the first name in it that is one is the first of all
pub returns-in-Some-2-clause-uid : goal.returns-in-Some-2-clause-uid
returns-in-Some-2-clause-uid c =
    let IsType : PlainName → Type 0 = λ name. Contains (held_names c.args.all_defs.now).actions (record { ty = name; eid = string_bytes c.args.id.now }) in
    let name = name_of c.in-Some-name.name in
    let found : (uid_of c.in-Some-2.uid ≡ record { ty = name; eid = string_bytes c.args.id.now }) × IsType name = rw c.in-Some-2.is at c.in_ok-uid-2.ensures.uid in
    let first = next_is_first IsType _ _ _ name (ap (map name_of) c.in-Some-name.ensures.steps.0) found.1 c.loop-name.invariant in
    (rw (ap (λ (uid : PlainUid). uid.ty) found.0) first, ap (λ (uid : PlainUid). uid.eid) found.0)

-- a name that is none leaves those behind it
pub loop-name-preserved : goal.loop-name-preserved
loop-name-preserved c =
    let IsType : PlainName → Type 0 = λ name. Contains (held_names c.args.all_defs.now).actions (record { ty = name; eid = string_bytes c.args.id.now }) in
    let none : ¬ IsType (name_of c.in-Some-name.name) = rw c.in_default-2.is at c.in_ok-uid-2.ensures.uid in
    one_fewer_left IsType _ _ _ (name_of c.in-Some-name.name) (ap (map name_of) c.in-Some-name.ensures.steps.0) none c.loop-name.invariant

-- at the end none is left
pub returns-clause-uid : goal.returns-clause-uid
returns-clause-uid c =
    let IsType : PlainName → Type 0 = λ name. Contains (held_names c.args.all_defs.now).actions (record { ty = name; eid = string_bytes c.args.id.now }) in
    nothing_left IsType _ _ (ap (map name_of) (nil_from_length _ (omega (arith, c.in-None.ensures.steps.0, c.loop-name.name-iterator.rest.ok.0)))) c.loop-name.invariant
