use Rattle.std.proofs.Common.{◌≡◌, zero, suc, List, [], ◌∷◌, ap, refl, arith, codes, Contains}
use Rattle.declaration_examples.proofs.examples.parents_may_be_said_apart_or_together.Goals as goal
use Rattle.declaration_examples.specs.Words.{Body, Declaration, Entity, EntityBody, IsParent, PlainName, Reference, SaysAll, action, alias_name, apart_bag, entity_parents, entity_type, external, external_here, refer_here, together_bag}

-- the two references
abbrev to_a : Reference
to_a = refer_here Entity (codes "A")

abbrev to_b : Reference
to_b = refer_here Entity (codes "B")

-- a declaration of an entity type is none of an action
no_action : (parents : List Reference) (it : Declaration) (body : _) → it.body ≡ action body → ¬ (external_here parents ≡ it)
no_action parents it body is same = different (ap (λ (each : Declaration). each.body) same) is where
  different : {other : Body} → entity_type (external parents) ≡ other → ¬ (other ≡ action body)
  different first second = cc

-- what stands in the list of one is in that of both
a_in_both : (reference : Reference) → Contains (to_a ∷ []) reference → Contains (to_b ∷ to_a ∷ []) reference
a_in_both reference (zero, below, is) = (1, omega arith, is)
a_in_both reference (suc k, below, is) = absurd (omega (arith, below))

b_in_both : (reference : Reference) → Contains (to_b ∷ []) reference → Contains (to_b ∷ to_a ∷ []) reference
b_in_both reference (zero, below, is) = (0, omega arith, is)
b_in_both reference (suc k, below, is) = absurd (omega (arith, below))

-- the parents of a declaration of `U` are those of an entity type of the same name and body
parents_of : (name : PlainName) (body : EntityBody) (reference : Reference) (parents : List Reference)
    → ◌≡◌ {A = PlainName × EntityBody} (alias_name (codes "U"), external parents) (name, body) → Contains (entity_parents body) reference
    → (alias_name (codes "U") ≡ name) × Contains parents reference
parents_of name body reference parents is parent =
    (ap (λ (each : PlainName × EntityBody). each.0) is, rw (← (ap (λ (each : PlainName × EntityBody). each.1) is)) at parent)

-- a parent that is said apart is said together
parent_together : (name : PlainName) (reference : Reference) → IsParent apart_bag name reference → IsParent together_bag name reference
parent_together name reference (body, (zero, below, is), parent) =
    let found = parents_of name body reference (to_a ∷ []) is parent in
    rw (← found.0) (external (to_b ∷ to_a ∷ []), (0, omega arith, refl), a_in_both reference found.1)
parent_together name reference (body, (suc zero, below, is), parent) =
    let found = parents_of name body reference (to_b ∷ []) is parent in
    rw (← found.0) (external (to_b ∷ to_a ∷ []), (0, omega arith, refl), b_in_both reference found.1)
parent_together name reference (body, (suc (suc k), below, is), parent) = absurd (omega (arith, below))

-- one of both is said apart
one_apart : (reference : Reference) → Contains (to_b ∷ to_a ∷ []) reference → IsParent apart_bag (alias_name (codes "U")) reference
one_apart reference (zero, below, is) = (external (to_b ∷ []), (1, omega arith, refl), (0, omega arith, is))
one_apart reference (suc zero, below, is) = (external (to_a ∷ []), (0, omega arith, refl), (0, omega arith, is))
one_apart reference (suc (suc k), below, is) = absurd (omega (arith, below))

-- a parent that is said together is said apart
parent_apart : (name : PlainName) (reference : Reference) → IsParent together_bag name reference → IsParent apart_bag name reference
parent_apart name reference (body, (zero, below, is), parent) =
    let found = parents_of name body reference (to_b ∷ to_a ∷ []) is parent in
    rw found.0 at (one_apart reference found.1)
parent_apart name reference (body, (suc k, below, is), parent) = absurd (omega (arith, below))

-- neither declares an action
apart_has_no_action : (it : Declaration) (body : _) → it.body ≡ action body → ¬ Contains apart_bag it
apart_has_no_action it body of (zero, below, is) = no_action (to_a ∷ []) it body of is
apart_has_no_action it body of (suc zero, below, is) = no_action (to_b ∷ []) it body of is
apart_has_no_action it body of (suc (suc k), below, is) = omega (arith, below)

together_has_no_action : (it : Declaration) (body : _) → it.body ≡ action body → ¬ Contains together_bag it
together_has_no_action it body of (zero, below, is) = no_action (to_b ∷ to_a ∷ []) it body of is
together_has_no_action it body of (suc k, below, is) = omega (arith, below)

-- the name is the only one
only_name : (name : PlainName) → Contains (alias_name (codes "U") ∷ alias_name (codes "U") ∷ []) name
    → Contains (alias_name (codes "U") ∷ []) name
only_name name (zero, below, is) = (0, omega arith, is)
only_name name (suc zero, below, is) = (0, omega arith, is)
only_name name (suc (suc k), below, is) = absurd (omega (arith, below))

-- and stands among two
also_name : (name : PlainName) → Contains (alias_name (codes "U") ∷ []) name
    → Contains (alias_name (codes "U") ∷ alias_name (codes "U") ∷ []) name
also_name name (zero, below, is) = (0, omega arith, is)
also_name name (suc k, below, is) = absurd (omega (arith, below))

-- what is said apart is said together
together_says : SaysAll apart_bag together_bag
together_says = record {
  common = λ it none. absurd (omega (arith, none.1));
  common_twice = λ name none. none;
  entities = λ name among. only_name name among;
  entity_definitions = λ name body none. absurd (omega (arith, none.1));
  entities_twice = λ name none. none;
  parents = parent_together;
  actions = λ uid none. absurd (omega (arith, none.1));
  action_definitions = λ uid it none. absurd (omega (arith, none.1));
  actions_twice = λ uid none. none;
  action_parents = λ uid reference none. absurd (omega (arith, none.1.1));
  attributes = λ namespace id has. absurd (apart_has_no_action _ has.0 refl has.1);
}

-- and what is said together is said apart
apart_says : SaysAll together_bag apart_bag
apart_says = record {
  common = λ it none. absurd (omega (arith, none.1));
  common_twice = λ name none. none;
  entities = also_name;
  entity_definitions = λ name body none. absurd (omega (arith, none.1));
  entities_twice = λ name none. none;
  parents = parent_apart;
  actions = λ uid none. absurd (omega (arith, none.1));
  action_definitions = λ uid it none. absurd (omega (arith, none.1));
  actions_twice = λ uid none. none;
  action_parents = λ uid reference none. absurd (omega (arith, none.1.1));
  attributes = λ namespace id has. absurd (together_has_no_action _ has.0 refl has.1);
}

pub returns : goal.returns
returns c = (together_says, apart_says)
