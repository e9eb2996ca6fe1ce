-- Subtyping is reflexive and transitive.
use Rattle.std.proofs.Common.{inl, inr, Bool, refl, sym, ◌∙◌, Contains, arith}
use Rattle.cedar_ast.proofs.Inclusion.{Included-none, Included-cons}
use Rattle.cedar_ast.proofs.Lists.{Contains-cons, Contains-cons_cases}
use Rattle.cedar_type_rules.specs.Words.{Below, ClosedAttributes, Fields, FieldsBelow, FlagsBelow, HasField, Included, NamesBelow, OpenAttributes, OpenTag, OpennessBelow, Permissive, Strict, Text, Ty, ValidationMode, any_entity, any_set, end, extension_of, field, field_names, long, never, record_of, set_of, text, truth, union_of}

-- each attribute of the one record is one of the other
abbrev pub FieldsWithin : Fields → Fields → Type 0
FieldsWithin fields all = (name : Text) (required : Bool) (ty : Ty) → HasField fields name required ty → HasField all name required ty

-- a flag fits below itself
FlagsBelow-itself : (mode : ValidationMode) (required : Bool) → FlagsBelow mode required required
FlagsBelow-itself Strict required = refl
FlagsBelow-itself Permissive required = λ h. h

-- flags fit pairwise below one another
FlagsBelow-trans : (mode : ValidationMode) (a b c : Bool) → FlagsBelow mode a b → FlagsBelow mode b c → FlagsBelow mode a c
FlagsBelow-trans Strict a b c h k = h ∙ k
FlagsBelow-trans Permissive a b c h k = λ required. h (k required)

-- a openness fits below itself
OpennessBelow-itself : (openness : OpenTag) → OpennessBelow openness openness
OpennessBelow-itself OpenAttributes = tt
OpennessBelow-itself ClosedAttributes = tt

-- tags fit pairwise below one another
OpennessBelow-trans : (a b c : OpenTag) → OpennessBelow a b → OpennessBelow b c → OpennessBelow a c
OpennessBelow-trans OpenAttributes OpenAttributes c h k = k
OpennessBelow-trans OpenAttributes ClosedAttributes c h k = elim h [ ]
OpennessBelow-trans ClosedAttributes b OpenAttributes h k = tt
OpennessBelow-trans ClosedAttributes b ClosedAttributes h k = tt

-- the names of a record are its own
NamesBelow-itself : (mode : ValidationMode) (openness : OpenTag) (fields : Fields) → NamesBelow mode openness fields fields
NamesBelow-itself Strict OpenAttributes fields = λ name among. among
NamesBelow-itself Strict ClosedAttributes fields = λ name among. among
NamesBelow-itself Permissive OpenAttributes fields = tt
NamesBelow-itself Permissive ClosedAttributes fields = λ name among. among

mutual
  -- each type is below itself
  pub Below-itself : (mode : ValidationMode) (ty : Ty) → Below mode ty ty
  Below-itself mode never = tt
  Below-itself mode (truth known) = inr refl
  Below-itself mode long = tt
  Below-itself mode text = tt
  Below-itself mode any_entity = tt
  Below-itself Strict (union_of names) = refl
  Below-itself Permissive (union_of names) = λ name among. among
  Below-itself mode any_set = tt
  Below-itself mode (set_of ty) = Below-itself mode ty
  Below-itself mode (record_of fields openness) = (
    OpennessBelow-itself openness,
    NamesBelow-itself mode openness fields,
    FieldsBelow-within mode fields fields (λ name required ty has. has),
  )
  Below-itself mode (extension_of name) = refl

  -- a record is below another if it has its attributes
  FieldsBelow-within : (mode : ValidationMode) (all fields : Fields) → FieldsWithin fields all → FieldsBelow mode all fields
  FieldsBelow-within mode all end within = tt
  FieldsBelow-within mode all (field name required ty rest) within = (
    (required, ty, within name required ty (inl (refl, refl, refl)), FlagsBelow-itself mode required, Below-itself mode ty),
    FieldsBelow-within mode all rest (λ other flag of has. within other flag of (inr has)),
  )

-- what is below an attribute of a record that has it
pub HasBelow-of : (mode : ValidationMode) (lower upper : Fields) (name : Text) (required : Bool) (ty : Ty)
    → FieldsBelow mode lower upper → HasField upper name required ty → (own_required : Bool) × (own : Ty)
    × HasField lower name own_required own × FlagsBelow mode own_required required × Below mode own ty
HasBelow-of mode lower end name required ty below has = absurd has
HasBelow-of mode lower (field other flag of rest) name required ty below (inl same) =
    let found = below.0 in
    (found.0, found.1, rw same.0 at found.2, rw same.1 at found.3, rw (← same.2) found.4)
HasBelow-of mode lower (field other flag of rest) name required ty below (inr there) =
    HasBelow-of mode lower rest name required ty below.1 there

-- the name of an attribute is among the names
pub HasField-name : (fields : Fields) (name : Text) (required : Bool) (ty : Ty) → HasField fields name required ty
    → Contains (field_names fields) name
HasField-name end name required ty has = absurd has
HasField-name (field other flag of rest) name required ty (inl same) = Contains-cons other (field_names rest) name (inl same.0)
HasField-name (field other flag of rest) name required ty (inr there) =
    Contains-cons other (field_names rest) name (inr (HasField-name rest name required ty there))

-- a name among the names is that of an attribute
pub HasField-named : (fields : Fields) (name : Text) → Contains (field_names fields) name → (required : Bool)
    × (ty : Ty) × HasField fields name required ty
HasField-named end name among = absurd (omega (arith, among.1))
HasField-named (field other flag of rest) name among =
    elim (Contains-cons_cases other (field_names rest) name among) [
      | inl same ↦ (flag, of, inl (same, refl, refl))
      | inr there ↦
          let found = HasField-named rest name there in
          (found.0, found.1, inr found.2)
    ]

-- the names of an upper record are among those of a lower one
pub FieldsBelow-names : (mode : ValidationMode) (lower upper : Fields) → FieldsBelow mode lower upper
    → Included (field_names upper) (field_names lower)
FieldsBelow-names mode lower end below = Included-none (field_names lower)
FieldsBelow-names mode lower (field name required ty rest) below =
    Included-cons name (field_names rest) (field_names lower) (HasField-name lower name _ _ below.0.2)
    (FieldsBelow-names mode lower rest below.1)

-- the names of records below one another in turn
NamesBelow-trans : (mode : ValidationMode) (openness upper_openness : OpenTag) (a b c : Fields)
    → OpennessBelow openness upper_openness → NamesBelow mode openness a b → NamesBelow mode upper_openness b c
    → NamesBelow mode upper_openness a c
NamesBelow-trans Strict OpenAttributes OpenAttributes a b c tags h k = λ name among. k name (h name among)
NamesBelow-trans Strict OpenAttributes ClosedAttributes a b c tags h k = λ name among. k name (h name among)
NamesBelow-trans Strict ClosedAttributes OpenAttributes a b c tags h k = λ name among. k name (h name among)
NamesBelow-trans Strict ClosedAttributes ClosedAttributes a b c tags h k = λ name among. k name (h name among)
NamesBelow-trans Permissive openness OpenAttributes a b c tags h k = tt
NamesBelow-trans Permissive OpenAttributes ClosedAttributes a b c tags h k = elim tags [ ]
NamesBelow-trans Permissive ClosedAttributes ClosedAttributes a b c tags h k = λ name among. k name (h name among)

mutual
  -- a type below one that is below a third is below the third
  pub Below-trans : (mode : ValidationMode) (a b c : Ty) → Below mode a b → Below mode b c → Below mode a c
  Below-trans mode never b c h k = tt
  Below-trans mode (truth a) (truth b) (truth c) h k =
      elim k [ inl any ↦ inl any | inr same ↦ elim h [ inl any ↦ inl (sym same ∙ any) | inr also ↦ inr (also ∙ same) ] ]
  Below-trans mode (truth a) (truth b) c h k = elim k [ ]
  Below-trans mode long long c h k = k
  Below-trans mode text text c h k = k
  Below-trans mode any_entity any_entity c h k = k
  Below-trans Permissive (union_of a) any_entity any_entity h k = tt
  Below-trans Permissive (union_of a) any_entity c h k = elim k [ ]
  Below-trans Permissive (union_of a) (union_of b) any_entity h k = tt
  Below-trans Permissive (union_of a) (union_of b) (union_of c) h k = λ name among. k name (h name among)
  Below-trans Permissive (union_of a) (union_of b) c h k = elim k [ ]
  Below-trans Strict (union_of a) (union_of b) (union_of c) h k = h ∙ k
  Below-trans Strict (union_of a) (union_of b) c h k = elim k [ ]
  Below-trans mode any_set any_set c h k = k
  Below-trans mode (set_of a) any_set any_set h k = tt
  Below-trans mode (set_of a) any_set c h k = elim k [ ]
  Below-trans mode (set_of a) (set_of b) any_set h k = tt
  Below-trans mode (set_of a) (set_of b) (set_of c) h k = Below-trans mode a b c h k
  Below-trans mode (set_of a) (set_of b) c h k = elim k [ ]
  Below-trans mode (record_of a openness) (record_of b middle_tag) (record_of c upper_openness) h k = (
    OpennessBelow-trans openness middle_tag upper_openness h.0 k.0,
    NamesBelow-trans mode middle_tag upper_openness a
        b c k.0 h.1 k.1,
    FieldsBelow-trans mode a b c h.2 k.2,
  )
  Below-trans mode (record_of a openness) (record_of b middle_tag) c h k = elim k [ ]
  Below-trans mode (extension_of a) (extension_of b) (extension_of c) h k = h ∙ k
  Below-trans mode (extension_of a) (extension_of b) c h k = elim k [ ]
  Below-trans mode a b c h k = elim h [ ]

  -- a record with attributes below those of a record below a third has attributes below the third's
  FieldsBelow-trans : (mode : ValidationMode) (a b c : Fields) → FieldsBelow mode a b → FieldsBelow mode b c → FieldsBelow mode a c
  FieldsBelow-trans mode a b end h k = tt
  FieldsBelow-trans mode a b (field name required ty rest) h k =
      let middle = k.0 in
      let lower = HasBelow-of mode a b name middle.0 middle.1 h middle.2 in (
        (
          lower.0,
          lower.1,
          lower.2,
          FlagsBelow-trans mode lower.0 middle.0 required lower.3 middle.3,
          Below-trans mode
              lower.1 middle.1 ty lower.4 middle.4,
        ),
        FieldsBelow-trans mode a b rest h k.1,
      )
