-- A schema, and the same with its descendants closed: the faults of the one are those of the other.
use Rattle.std.proofs.Common.{◌≡◌, ◌↔◌, ◌∙◌, List, map, inl, inr, subst, sym, Contains}
use Rattle.cedar_ast.proofs.Basics.{Contains-image}
use Rattle.cedar_ast.proofs.Chains.{first_step, last_step, refined}
use Rattle.cedar_ast.proofs.Lists.{Contains-preimage}
use Rattle.cedar_ast.proofs.TurnLemmas.{turn_weaker}
use Rattle.cedar_schema_semantics.proofs.TurnLemmas.{turn_back, turn_forth}
use Rattle.cedar_validation.proofs.Pairwise.{pairwise_back}
use Rattle.cedar_validation.specs.Words.{ActionKind, Chain, ClosesAction, ClosesType, EntityTypeKind, Extensions, Fault, HoldsPairwise, IsContextOf, IsEnumerated, IsExternal, IsPrincipalOrResourceOf, IsSchemaFault, IsTypeIn, IsTypeOfKind, IsUnknownType, ListsDescendant, ListsDescendantAction, PlainName, PlainSchema, PlainUid, SameItems, SchemaAction, SchemaEntityType, Ty, action_cycle, action_entity_type, action_shadowing, enumerated_below, external_below_enumerated, invalid_action_type, one, type_shadowing, undeclared_action_descendant, undeclared_entity_types, unknown_extension_type}

-- what items list, and of what kinds they are
pub record Shape (P Q T : Type 0) : Type 0 where
  pub listed : Q → List P
  pub kind : Q → T

-- an item under the second name lists the first
abbrev pub Lists : {P Q T : Type 0} → Shape P Q T → List (P × Q) → P → P → Type 0
Lists {Q = Q} shape items lower upper = (it : Q) × Contains items (upper, it) × Contains (shape.listed it) lower

-- entity types by name
abbrev pub type_shape : Shape PlainName SchemaEntityType EntityTypeKind
type_shape = record { listed = λ it. it.descendants; kind = λ it. it.kind }

-- actions by uid
abbrev pub action_shape : Shape PlainUid SchemaAction ActionKind
action_shape = record { listed = λ it. it.descendants; kind = λ it. it.kind }

-- each of the items stands among the others with the same name and kind
pub record Found {P Q T : Type 0} (shape : Shape P Q T) (items others : List (P × Q)) : Type 0 where
  pub at : (it : P × Q) → Contains items it → (other : P × Q) × Contains others other × (it.0 ≡ other.0)
      × (shape.kind it.1 ≡ shape.kind other.1)

-- each of the items stands among the others and the other way round, and chains of the others lead
-- as far
pub record Agrees {P Q T : Type 0} (shape : Shape P Q T) (items others : List (P × Q)) : Type 0 where
  pub forth : Found shape items others
  pub back : Found shape others items
  pub chain : (lower upper : P) → Chain (Lists shape items) lower upper → Chain (Lists shape others) lower upper

module _ {P Q T : Type 0} {shape : Shape P Q T} {items others : List (P × Q)} (found : Found shape items others) where
  -- a name of the items is one of the others
  has : (name : P) → Contains (map (λ (it : P × Q). it.0) items) name → Contains (map (λ (it : P × Q). it.0) others) name
  has name there =
      let it = Contains-preimage (λ (each : P × Q). each.0) items name there in
      let other = found.at it.0 it.1 in
      rw (sym other.2 ∙ it.2) at (Contains-image (λ (each : P × Q). each.0) others other.0 other.1)

  -- what is of a kind is so among the others
  with_kind : (S : T → Type 0) (it : P × Q) → Contains items it → S (shape.kind it.1)
      → (other : P × Q) × Contains others other × S (shape.kind other.1)
  with_kind S it among is = let other = found.at it among in (other.0, other.1, subst S other.3 is)

  -- and under the same name
  of_kind : (S : T → Type 0) (name : P) → (it : Q) × Contains items (name, it) × S (shape.kind it)
      → (it : Q) × Contains others (name, it) × S (shape.kind it)
  of_kind S name of =
      let other = found.at (name, of.0) of.1 in
      (other.0.1, rw (sym other.2) at other.1, subst S other.3 of.2)

module _ (extensions : Extensions) (schema other : PlainSchema) (types : Agrees type_shape schema.entity_types other.entity_types)
    (actions : Agrees action_shape schema.actions other.actions) where
  -- a type that stands in the one stands in the other
  type_in : (ty : Ty) → IsTypeIn schema ty → IsTypeIn other ty
  type_in ty either =
      elim either [ inl of ↦ inl (with_kind types.forth (λ kind. IsTypeOfKind kind ty) of.0 of.1 of.2) | inr of ↦ inr (with_kind actions.forth (λ kind. IsContextOf kind ty) of.0 of.1 of.2) ]

  -- an entity type that isn't known in the one isn't in the other
  unknown_carried : (name : PlainName) → IsUnknownType schema name → IsUnknownType other name
  unknown_carried name unknown =
      elim unknown [
        | inl of ↦ inl (
          of.0,
          type_in of.0 of.1,
          of.2,
          λ known. of.3 (elim known [ inl is ↦ inl (has types.back name is) | inr it ↦ inr (it.0, has actions.back it.0 it.1, it.2) ]),
        )
        | inr either ↦ inr (elim either [
          | inl of ↦ let begins = first_step (ListsDescendant other) name of.0 (types.chain name of.0 (one of.1)) in
              inl (begins.0, begins.1, λ is. of.2 (has types.back name is))
          | inr of ↦ let it = with_kind actions.forth (λ kind. IsPrincipalOrResourceOf kind name) of.0 of.1 of.2 in
              inr (it.0, it.1, it.2, λ is. of.3 (has types.back name is))
        ])
      ]

  -- a fault of the one is one of the other
  pub fault_carried : (fault : Fault) → IsSchemaFault extensions schema fault → IsSchemaFault extensions other fault
  fault_carried (undeclared_entity_types names) h = (h.0, λ name among. unknown_carried name (h.1 name among))
  fault_carried (unknown_extension_type name) h = (h.0, type_in h.0 h.1, h.2, h.3)
  fault_carried (action_entity_type name) h = (has types.forth name h.0, h.1)
  fault_carried (invalid_action_type uid) h = (has actions.forth uid h.0, h.1)
  fault_carried (action_cycle uid) h = actions.chain uid uid h
  fault_carried (external_below_enumerated lower upper) h =
      (of_kind types.forth IsExternal lower h.0, of_kind types.forth IsEnumerated upper h.1, types.chain lower upper h.2)
  fault_carried (enumerated_below lower upper) h = (of_kind types.forth IsEnumerated lower h.0, types.chain lower upper h.1)
  fault_carried (undeclared_action_descendant uid) h =
      let begins = first_step (ListsDescendantAction other) uid h.0 (actions.chain uid h.0 (one h.1)) in
      (begins.0, begins.1, λ is. h.2 (has actions.back uid is))
  fault_carried (type_shadowing plain qualified) h = (has types.forth plain h.0, has types.forth qualified h.1, h.2)
  fault_carried (action_shadowing plain qualified) h = (has actions.forth plain h.0, has actions.forth qualified h.1, h.2)
  fault_carried _ h = absurd h

-- two items have one name, are of one kind and list the same
pub record IsAlike {P Q T : Type 0} (shape : Shape P Q T) (it other : P × Q) : Type 0 where
  pub key : it.0 ≡ other.0
  pub kind : shape.kind it.1 ≡ shape.kind other.1
  pub listed : SameItems (shape.listed it.1) (shape.listed other.1)

module _ {P Q T : Type 0} (shape : Shape P Q T) (items others : List (P × Q)) (alike : HoldsPairwise (IsAlike shape) items others) where
  -- what the items list the others list under the same names
  listed_forth : (lower upper : P) → Lists shape items lower upper → Lists shape others lower upper
  listed_forth lower upper lists =
      let it = turn_forth (IsAlike shape) items others alike (upper, lists.0) lists.1 in
      let S : P → Type 0 = λ name. Contains others (name, it.0.1) in
      (it.0.1, subst S (sym it.2.key) it.1, (it.2.listed lower).0 lists.2)

  -- each item is found among the others
  alike_found : Found shape items others
  alike_found = record {
    at = λ it among.
        let other = turn_forth (IsAlike shape) items others alike it among in
        (other.0, other.1, other.2.key, other.2.kind);
  }

  -- so chains of the others lead where those of the items do
  pub chain_forth : (lower upper : P) → Chain (Lists shape items) lower upper → Chain (Lists shape others) lower upper
  chain_forth lower upper chain = refined (λ low high lists. one (listed_forth low high lists)) chain

-- what is alike is so the other way round
pub alike_back : {P Q T : Type 0} (shape : Shape P Q T) (items others : List (P × Q)) → HoldsPairwise (IsAlike shape) items others
    → HoldsPairwise (IsAlike shape) others items
alike_back shape =
    turn_back (IsAlike shape) (IsAlike shape)
    (λ it other is. record {
      key = sym is.key;
      kind = sym is.kind;
      listed = λ lower. ((is.listed lower).1, (is.listed lower).0);
    })

-- items that are alike agree
pub agrees_alike : {P Q T : Type 0} (shape : Shape P Q T) (items others : List (P × Q)) → HoldsPairwise (IsAlike shape) items others
    → Agrees shape items others
agrees_alike shape items others alike = record {
  forth = alike_found shape items others alike;
  back = alike_found shape others items (alike_back shape items others alike);
  chain = chain_forth shape items others alike;
}

-- the items have one name and are of one kind, and the second lists just what chains lead to from
-- that name
pub record Closes {P Q T : Type 0} (shape : Shape P Q T) (items : List (P × Q)) (it other : P × Q) : Type 0 where
  pub key : it.0 ≡ other.0
  pub kind : shape.kind it.1 ≡ shape.kind other.1
  pub descendants : (lower : P) → Contains (shape.listed other.1) lower ↔ Chain (Lists shape items) lower it.0

-- the items, closed in turn
abbrev pub AreClosed : {P Q T : Type 0} → Shape P Q T → List (P × Q) → List (P × Q) → Type 0
AreClosed shape items closed = HoldsPairwise (Closes shape items) items closed

-- entity types that are closed
pub types_closed : (schema : PlainSchema) (closed : List (PlainName × SchemaEntityType))
    → HoldsPairwise (ClosesType schema) schema.entity_types closed → AreClosed type_shape schema.entity_types closed
types_closed schema =
    turn_weaker (ClosesType schema) (Closes type_shape schema.entity_types)
    (λ it other is. record { key = is.key; kind = is.kind; descendants = is.descendants }) schema.entity_types

-- actions that are closed
pub actions_closed : (schema : PlainSchema) (closed : List (PlainUid × SchemaAction))
    → HoldsPairwise (ClosesAction schema) schema.actions closed → AreClosed action_shape schema.actions closed
actions_closed schema =
    turn_weaker (ClosesAction schema) (Closes action_shape schema.actions)
    (λ it other is. record { key = is.key; kind = is.kind; descendants = is.descendants }) schema.actions

module _ {P Q T : Type 0} (shape : Shape P Q T) (items closed : List (P × Q)) (are : AreClosed shape items closed) where
  -- what chains lead to is listed by the closed items, and nothing else is
  pub chain_listed : (lower upper : P) → Chain (Lists shape items) lower upper → Lists shape closed lower upper
  chain_listed lower upper chain =
      let last = last_step (Lists shape items) lower upper chain in
      let it = turn_forth (Closes shape items) items closed are (upper, last.1.0) last.1.1 in
      let S : P → Type 0 = λ name. Contains closed (name, it.0.1) in
      (it.0.1, subst S (sym it.2.key) it.1, (it.2.descendants lower).1 chain)

  pub listed_chain : (lower upper : P) → Lists shape closed lower upper → Chain (Lists shape items) lower upper
  listed_chain lower upper lists =
      let it = pairwise_back (Closes shape items) items closed are (upper, lists.0) lists.1 in
      rw it.2.key at ((it.2.descendants lower).0 lists.2)

  -- each item is found among the closed ones
  found : Found shape items closed
  found = record {
    at = λ it among.
        let other = turn_forth (Closes shape items) items closed are it among in
        (other.0, other.1, other.2.key, other.2.kind);
  }

  -- and the other way round
  found_back : Found shape closed items
  found_back = record {
    at = λ other among.
        let it = pairwise_back (Closes shape items) items closed are other among in
        (it.0, it.1, sym it.2.key, sym it.2.kind);
  }

  -- the one agrees with the other
  agrees_forth : Agrees shape items closed
  agrees_forth = record { forth = found; back = found_back; chain = λ lower upper chain. one (chain_listed lower upper chain) }

  agrees_back : Agrees shape closed items
  agrees_back = record { forth = found_back; back = found; chain = λ lower upper chain. refined listed_chain chain }

  -- what the closed items lead to the items lead to
  pub leads_back : (key other : P) (names : List P) → key ≡ other
      → ((lower : P) → Contains names lower ↔ Chain (Lists shape closed) lower other)
      → (lower : P) → Contains names lower ↔ Chain (Lists shape items) lower key
  leads_back key other names same leads lower = (
    λ among. rw (sym same) at (refined listed_chain ((leads lower).0 among)),
    λ chain. (leads lower).1 (one (chain_listed lower other (rw same at chain))),
  )

module _ (extensions : Extensions) (schema closed : PlainSchema)
    (types : HoldsPairwise (ClosesType schema) schema.entity_types closed.entity_types)
    (actions : HoldsPairwise (ClosesAction schema) schema.actions closed.actions) (fault : Fault) where
  -- a fault of the schema is one of the closed one
  pub fault_forth : IsSchemaFault extensions schema fault → IsSchemaFault extensions closed fault
  fault_forth =
      fault_carried extensions schema closed
      (agrees_forth type_shape schema.entity_types closed.entity_types (types_closed schema closed.entity_types types))
      (agrees_forth action_shape schema.actions closed.actions (actions_closed schema closed.actions actions)) fault

  -- and the other way round
  pub fault_back : IsSchemaFault extensions closed fault → IsSchemaFault extensions schema fault
  fault_back =
      fault_carried extensions closed schema
      (agrees_back type_shape schema.entity_types closed.entity_types (types_closed schema closed.entity_types types))
      (agrees_back action_shape schema.actions closed.actions (actions_closed schema closed.actions actions)) fault
