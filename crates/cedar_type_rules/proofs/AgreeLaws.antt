-- Strict subtyping is permissive subtyping of types that agree.
use Rattle.std.proofs.Common.{◌≡◌, ◌↔◌, inl, inr, Bool, sym, ap, ◌∙◌, Some}
use Rattle.cedar_type_rules.proofs.SubtypeLaws.{FieldsBelow-names}
use Rattle.cedar_type_rules.proofs.SubtypeLemmas.{found-HasField}
use Rattle.cedar_type_rules.specs.Words.{Agree, AreWellFormed, Below, ClosedAttributes, Fields, FieldsAgree, FieldsBelow, HasField, IsSortedByName, IsWellFormed, NamesBelow, OpenAttributes, OpenTag, Permissive, Strict, Text, Ty, any_entity, any_set, end, extension_of, field, field_at, long, never, record_of, set_of, text, truth, union_of}

-- names that fit strictly fit permissively
NamesBelow-permissive : (openness : OpenTag) (a b : Fields) → NamesBelow Strict openness a b → NamesBelow Permissive openness a b
NamesBelow-permissive OpenAttributes a b names = tt
NamesBelow-permissive ClosedAttributes a b names = names

mutual
  -- what is below strictly is so permissively
  pub Below-permissive : (a b : Ty) → Below Strict a b → Below Permissive a b
  Below-permissive never b h = tt
  Below-permissive (truth a) (truth b) h = h
  Below-permissive long long h = tt
  Below-permissive text text h = tt
  Below-permissive any_entity any_entity h = tt
  Below-permissive (union_of a) (union_of b) h = λ name among. rw h at among
  Below-permissive any_set any_set h = tt
  Below-permissive (set_of a) any_set h = tt
  Below-permissive (set_of a) (set_of b) h = Below-permissive a b h
  Below-permissive (record_of a openness) (record_of b upper_openness) h =
      (h.0, NamesBelow-permissive upper_openness a b h.1, FieldsBelow-permissive a b h.2)
  Below-permissive (extension_of a) (extension_of b) h = h
  Below-permissive a b h = elim h [ ]

  -- attributes that are below strictly are so permissively
  FieldsBelow-permissive : (a b : Fields) → FieldsBelow Strict a b → FieldsBelow Permissive a b
  FieldsBelow-permissive a end h = tt
  FieldsBelow-permissive a (field name required ty rest) h =
      let own = h.0 in
      ((own.0, own.1, own.2, (λ needed. own.3 ∙ needed), Below-permissive own.1 ty own.4), FieldsBelow-permissive a rest h.1)

-- the type of an attribute is well formed
pub AreWellFormed-of : (fields : Fields) (name : Text) (required : Bool) (ty : Ty) → AreWellFormed fields
    → HasField fields name required ty → IsWellFormed ty
AreWellFormed-of end name required ty formed has = absurd has
AreWellFormed-of (field other flag of rest) name required ty formed (inl same) = rw same.2 at formed.0
AreWellFormed-of (field other flag of rest) name required ty formed (inr there) =
    AreWellFormed-of rest name required ty formed.1 there

-- a record whose names are sorted without duplicates has one attribute of a name
pub HasField-once : (fields : Fields) (name : Text) (required flag : Bool) (ty of : Ty) → IsSortedByName fields
    → HasField fields name required ty → HasField fields name flag of → (required ≡ flag) × (ty ≡ of)
HasField-once fields name required flag ty of sorted_by_name has also =
    let first : field_at name fields ≡ Some (required, ty) = found-HasField name fields required ty sorted_by_name has in
    let second : field_at name fields ≡ Some (flag, of) = found-HasField name fields flag of sorted_by_name also in
    let same : Some (required, ty) ≡ Some (flag, of) = sym first ∙ second in
    let pair : (required, ty) ≡ (flag, of) = cc in
    (ap (λ (p : Bool × Ty). p.0) pair, ap (λ (p : Bool × Ty). p.1) pair)

mutual
  -- what is below strictly agrees
  pub Agree-strict : (a b : Ty) → IsWellFormed a → Below Strict a b → Agree a b
  Agree-strict any_entity (union_of b) formed h = elim h [ ]
  Agree-strict (union_of a) any_entity formed h = elim h [ ]
  Agree-strict (union_of a) (union_of b) formed h = h
  Agree-strict (set_of a) (set_of b) formed h = Agree-strict a b formed h
  Agree-strict (record_of a openness) (record_of b upper_openness) formed h =
      (h.1, FieldsBelow-names Strict a b h.2, FieldsAgree-strict a b formed.0 formed.1 h.2)
  Agree-strict a b formed h = tt

  -- attributes that are below strictly agree
  FieldsAgree-strict : (a b : Fields) → IsSortedByName a → AreWellFormed a → FieldsBelow Strict a b → FieldsAgree a b
  FieldsAgree-strict a end sorted_by_name formed h = tt
  FieldsAgree-strict a (field name required ty rest) sorted_by_name formed h =
      let own = h.0 in (
        (λ flag of has.
            (let same = HasField-once a name flag own.0 of own.1 sorted_by_name has own.2 in (
              same.0 ∙ own.3,
              Agree-strict of ty (AreWellFormed-of a name flag of formed has)
                  (rw same.1 own.4),
            ))),
        FieldsAgree-strict a rest sorted_by_name formed h.1,
      )

mutual
  -- what is below permissively and agrees is below strictly
  pub Below-strict : (a b : Ty) → Below Permissive a b → Agree a b → Below Strict a b
  Below-strict never b h g = tt
  Below-strict (truth a) (truth b) h g = h
  Below-strict long long h g = tt
  Below-strict text text h g = tt
  Below-strict any_entity any_entity h g = tt
  Below-strict (union_of a) any_entity h g = elim g [ ]
  Below-strict (union_of a) (union_of b) h g = g
  Below-strict any_set any_set h g = tt
  Below-strict (set_of a) any_set h g = tt
  Below-strict (set_of a) (set_of b) h g = Below-strict a b h g
  Below-strict (record_of a openness) (record_of b upper_openness) h g = (h.0, g.0, FieldsBelow-strict a b h.2 g.2)
  Below-strict (extension_of a) (extension_of b) h g = h
  Below-strict a b h g = elim h [ ]

  -- attributes that are below permissively and agree are below strictly
  FieldsBelow-strict : (a b : Fields) → FieldsBelow Permissive a b → FieldsAgree a b → FieldsBelow Strict a b
  FieldsBelow-strict a end h g = tt
  FieldsBelow-strict a (field name required ty rest) h g =
      let own = h.0 in
      let alike = g.0 own.0 own.1 own.2 in
      ((own.0, own.1, own.2, alike.0, Below-strict own.1 ty own.4 alike.1), FieldsBelow-strict a rest h.1 g.1)

-- what is well formed is below strictly exactly where it is below permissively and agrees
pub Below-strict-both : (a b : Ty) → IsWellFormed a → Below Strict a b ↔ (Below Permissive a b × Agree a b)
Below-strict-both a b formed =
    (λ below. (Below-permissive a b below, Agree-strict a b formed below), λ both. Below-strict a b both.0 both.1)
