use Rattle.std.proofs.Common.{◌≡◌, [], ◌∷◌, ap, codes, refl, get_or, length, arith}
use Rattle.cedar_ast.proofs.Basics.{Contains-single}
use Rattle.declaration_examples.proofs.converted_back.unwritable_hierarchies.Goals as goal
use Rattle.declaration_examples.specs.Words.{PlainName, PlainUid, action_named, alias_name, enumerated_kind, external_action, plain_kind}

-- `User` isn't the type of actions: the names differ in length
pub returns-clause-action_type : goal.returns-clause-action_type
returns-clause-action_type c writable =
    let same = writable.action_types (record { ty = alias_name (codes "User"); eid = codes "b" }) (0, omega arith, refl) in
    let count : 4 ≡ 6 = ap length same in
    omega (arith, count)

-- what is below the group is no entity type that is there
pub returns-clause-missing : goal.returns-clause-missing
returns-clause-missing c writable =
    let there = writable.entity_types_below (alias_name (codes "U")) (alias_name (codes "Group")) (
      record { name = alias_name (codes "Group"); kind = plain_kind; descendants = alias_name (codes "U") ∷ [] },
      (0, omega arith, refl),
      (0, omega arith, refl),
    ) in
    let same = Contains-single (alias_name (codes "Group")) (alias_name (codes "U")) there in
    let count : 5 ≡ 1 = ap (λ (name : PlainName). length name.base) same in
    omega (arith, count)

-- an enumerated type is below none
pub returns-clause-enumerated : goal.returns-clause-enumerated
returns-clause-enumerated c writable =
    writable.none_enumerated (alias_name (codes "U")) (alias_name (codes "Group")) (
      record { name = alias_name (codes "Group"); kind = plain_kind; descendants = alias_name (codes "U") ∷ [] },
      (0, omega arith, refl),
      (0, omega arith, refl),
    )
    (record { name = alias_name (codes "U"); kind = enumerated_kind (codes "u" ∷ []); descendants = [] }, (1, omega arith, refl), tt)

-- what is below the action is no action that is there
pub returns-clause-missing_action : goal.returns-clause-missing_action
returns-clause-missing_action c writable =
    let there = writable.actions_below (action_named (codes "c")) (action_named (codes "b")) (
      record { uid = action_named (codes "b"); kind = external_action; descendants = action_named (codes "c") ∷ [] },
      (0, omega arith, refl),
      (0, omega arith, refl),
    ) in
    let same = Contains-single (action_named (codes "b")) (action_named (codes "c")) there in
    let first : 98 ≡ 99 = ap (λ (uid : PlainUid). get_or uid.eid 0 0) same in
    omega (arith, first)
