-- What a bag declares is so by one of its declarations.
use Rattle.std.proofs.Common.{sym, subst, ◌≡◌, List, ◌∷◌, [], ap, refl, arith, Contains}
use Rattle.std.specs.List.{flat_map}
use Rattle.cedar_ast.proofs.Basics.{Contains-single}
use Rattle.cedar_schema_semantics.proofs.OccurrenceLemmas.{Contains-flat_map, Contains-given}
use Rattle.cedar_schema_semantics.specs.Words.{ActionBody, Bag, Body, Declaration, EntityBody, Expr, PlainName, PlainUid, action, action_in, common_in, common_type, declared_actions, declared_common, declared_entities, declared_name, declared_uid, entity_in, entity_type}

-- a kind of declarations: one of the kind gives what it declares under its key, and any other
-- nothing
pub record Kind (Key It : Type 0) : Type 0 where
  pub key_of : Declaration → Key
  pub body_of : It → Body
  pub given_in : Key → Body → List (Key × It)
  pub gives : (key : Key) (it : It) → given_in key (body_of it) ≡ (key, it) ∷ []
  pub alone : (key : Key) (body : Body) (entry : Key × It) → Contains (given_in key body) entry → (body ≡ body_of entry.1) × (key ≡ entry.0)

module _ {Key It : Type 0} (of : Kind Key It) where
  -- what a bag declares of the kind
  abbrev pub declared : Bag → List (Key × It)
  declared bag = flat_map (λ each. of.given_in (of.key_of each) each.body) bag

  -- what is declared is so by a declaration of the bag
  pub declaration : (bag : Bag) (key : Key) (it : It) → Contains (declared bag) (key, it)
      → (by : Declaration) × Contains bag by × (by.body ≡ of.body_of it) × (of.key_of by ≡ key)
  declaration bag key it among =
      let found = Contains-flat_map (λ each. of.given_in (of.key_of each) each.body) bag (key, it) among in
      let alone = of.alone (of.key_of found.0) found.0.body (key, it) found.2 in
      (found.0, found.1, alone.0, alone.1)

  -- and a declaration of the bag declares it
  pub declares : (bag : Bag) (by : Declaration) (it : It) → Contains bag by → by.body ≡ of.body_of it
      → Contains (declared bag) (of.key_of by, it)
  declares bag by it among is =
      let key = of.key_of by in
      Contains-given (λ each. of.given_in (of.key_of each) each.body) bag by (key, it) among
      (subst (λ body. Contains (of.given_in key body) (key, it)) (sym is)
      (subst (λ all. Contains all (key, it)) (sym (of.gives key it)) (0, omega arith, refl)))

-- a declaration gives nothing but what it declares
pub common_alone : (name : PlainName) (body : Body) (entry : PlainName × Expr) → Contains (common_in name body) entry
    → (body ≡ common_type entry.1) × (name ≡ entry.0)
common_alone name (common_type definition) entry here =
    let same = Contains-single (name, definition) entry here in (ap (λ each. common_type each.1) same, ap (λ each. each.0) same)
common_alone name _ entry here = absurd (omega (arith, here.1))

pub entity_alone : (name : PlainName) (body : Body) (entry : PlainName × EntityBody) → Contains (entity_in name body) entry
    → (body ≡ entity_type entry.1) × (name ≡ entry.0)
entity_alone name (entity_type of) entry here =
    let same = Contains-single (name, of) entry here in (ap (λ each. entity_type each.1) same, ap (λ each. each.0) same)
entity_alone name _ entry here = absurd (omega (arith, here.1))

pub action_alone : (uid : PlainUid) (body : Body) (entry : PlainUid × ActionBody) → Contains (action_in uid body) entry
    → (body ≡ action entry.1) × (uid ≡ entry.0)
action_alone uid (action of) entry here =
    let same = Contains-single (uid, of) entry here in (ap (λ each. action each.1) same, ap (λ each. each.0) same)
action_alone uid _ entry here = absurd (omega (arith, here.1))

-- common types, entity types and actions
abbrev pub common_types : Kind PlainName Expr
common_types = record { key_of = declared_name; body_of = common_type; given_in = common_in; gives = λ name it. refl; alone = common_alone }

abbrev pub entity_types : Kind PlainName EntityBody
entity_types = record { key_of = declared_name; body_of = entity_type; given_in = entity_in; gives = λ name it. refl; alone = entity_alone }

abbrev pub actions : Kind PlainUid ActionBody
actions = record { key_of = declared_uid; body_of = action; given_in = action_in; gives = λ uid it. refl; alone = action_alone }

-- each that is declared is so by a declaration of the bag
pub common_declaration : (bag : Bag) (name : PlainName) (definition : Expr) → Contains (declared_common bag) (name, definition)
    → (it : Declaration) × Contains bag it × (it.body ≡ common_type definition) × (declared_name it ≡ name)
common_declaration = declaration common_types

pub entity_declaration : (bag : Bag) (name : PlainName) (body : EntityBody) → Contains (declared_entities bag) (name, body)
    → (it : Declaration) × Contains bag it × (it.body ≡ entity_type body) × (declared_name it ≡ name)
entity_declaration = declaration entity_types

pub action_declaration : (bag : Bag) (uid : PlainUid) (body : ActionBody) → Contains (declared_actions bag) (uid, body)
    → (it : Declaration) × Contains bag it × (it.body ≡ action body) × (declared_uid it ≡ uid)
action_declaration = declaration actions

-- and a declaration of each declares it
pub declares_common : (bag : Bag) (it : Declaration) (definition : Expr) → Contains bag it → it.body ≡ common_type definition
    → Contains (declared_common bag) (declared_name it, definition)
declares_common = declares common_types

pub declares_entity : (bag : Bag) (it : Declaration) (body : EntityBody) → Contains bag it → it.body ≡ entity_type body
    → Contains (declared_entities bag) (declared_name it, body)
declares_entity = declares entity_types

pub declares_action : (bag : Bag) (it : Declaration) (body : ActionBody) → Contains bag it → it.body ≡ action body
    → Contains (declared_actions bag) (declared_uid it, body)
declares_action = declares actions
