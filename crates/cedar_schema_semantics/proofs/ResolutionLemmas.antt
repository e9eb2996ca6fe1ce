-- References resolve to one name, and an expression is elaborated as one type.
use Rattle.std.proofs.Common.{◌≡◌, List, [], ◌∷◌, ap, sym, ◌∙◌, refl, inl, inr, Contains, suc, arith}
use Rattle.cedar_schema_semantics.specs.Words.{ClosedAttributes, Common, CommonOrEntity, Defined, ElaboratesTo, Entity, Expr, Fields, IsCommon, IsDefined, IsFirst, MayNameCommon, MembersElaborateTo, Names, PlainName, Reference, ReferenceType, ResolvesTo, Ty, as_common, as_entity, as_extension, as_long, as_member, as_no_member, as_record, as_set, as_text, as_truth, field, names_of, record_of, set_of, union_of}

-- there is one first item of which a fact holds
pub IsFirst-same : {A : Type 0} (P : A → Type 0) (xs : List A) (x y : A) → IsFirst P xs x → IsFirst P xs y → x ≡ y
IsFirst-same P [] x y one other = absurd one
IsFirst-same P (first ∷ rest) x y one other =
    elim one [
      | inl here ↦ elim other [ inl there ↦ sym here.0 ∙ there.0 | inr later ↦ absurd (later.0 here.1) ]
      | inr later ↦ elim other [ inl there ↦ absurd (later.0 there.1) | inr there ↦ IsFirst-same P rest x y later.1 there.1 ]
    ]

-- where two facts hold of the same items, they hold first of the same
pub IsFirst-like : {A : Type 0} (P Q : A → Type 0) → ((x : A) → P x → Q x) → ((x : A) → Q x → P x)
    → (xs : List A) (x : A) → IsFirst P xs x → IsFirst Q xs x
IsFirst-like P Q to from [] x first = absurd first
IsFirst-like P Q to from (y ∷ rest) x first =
    elim first [
      | inl here ↦ inl (here.0, to y here.1)
      | inr later ↦ inr (λ holds. later.0 (from y holds), IsFirst-like P Q to from rest x later.1)
    ]

-- no common name has two definitions
abbrev pub HasOneDefinition : Defined → Type 0
HasOneDefinition defined =
    (name : PlainName) (body other : Expr) → Contains defined.common (name, body) → Contains defined.common (name, other) → body ≡ other

-- the definitions that a reference names are the same
pub same_definition : (defined : Defined) → HasOneDefinition defined
    → (reference : Reference) (name name' : PlainName) (body body' : Expr) → ResolvesTo (names_of defined) reference name
    → ResolvesTo (names_of defined) reference name' → IsCommon defined reference.kind name body
    → IsCommon defined reference.kind name' body' → body ≡ body'
same_definition defined one reference name name' body body' resolves resolves' common common' =
    let same : name ≡ name' = IsFirst-same (IsDefined (names_of defined) reference.kind) reference.possibilities name name' resolves resolves' in
    one name body body' common.1 (rw same common'.1)

mutual
  -- where no common name has two definitions, an expression is elaborated as one type
  pub elaborated_once : (defined : Defined) → HasOneDefinition defined → {expr : Expr} {ty ty' : Ty}
      → ElaboratesTo defined expr ty → ElaboratesTo defined expr ty' → ty ≡ ty'
  elaborated_once defined one as_text as_text = refl
  elaborated_once defined one as_long as_long = refl
  elaborated_once defined one as_truth as_truth = refl
  elaborated_once defined one (as_set element) (as_set other) = ap set_of (elaborated_once defined one element other)
  elaborated_once defined one (as_record members) (as_record others) =
      ap (λ fields. record_of fields ClosedAttributes) (members_elaborated_once defined one members others)
  elaborated_once defined one (as_entity reference name resolves is_entity no_common)
      (as_entity reference' name' resolves' is_entity' no_common') =
      ap (λ each. union_of (each ∷ [])) (IsFirst-same (IsDefined (names_of defined) reference.kind) reference.possibilities name
      name' resolves resolves')
  elaborated_once defined one (as_entity reference name resolves is_entity no_common)
      (as_common reference' name' body resolves' is_common written) =
      let same : name ≡ name' = IsFirst-same (IsDefined (names_of defined) reference.kind) reference.possibilities name name' resolves resolves' in
      absurd (no_common body (rw same is_common))
  elaborated_once defined one (as_common reference name body resolves is_common written)
      (as_entity reference' name' resolves' is_entity' no_common) =
      let same : name ≡ name' = IsFirst-same (IsDefined (names_of defined) reference.kind) reference.possibilities name name' resolves resolves' in
      absurd (no_common body (rw same at is_common))
  elaborated_once defined one {ty = ty} {ty' = ty'} (as_common reference name body resolves is_common written)
      (as_common reference' name' body' resolves' is_common' written') =
      let same : body ≡ body' = same_definition defined one reference name name' body body' resolves resolves' is_common is_common' in
      elaborated_once defined one written (rw same written')
  elaborated_once defined one (as_extension name) (as_extension name') = refl

  -- the same of the attributes of a record
  members_elaborated_once : (defined : Defined) → HasOneDefinition defined → {members : _} {fields fields' : Fields}
      → MembersElaborateTo defined members fields → MembersElaborateTo defined members fields' → fields ≡ fields'
  members_elaborated_once defined one as_no_member as_no_member = refl
  members_elaborated_once defined one (as_member {name = name} {required = required} {ty = ty} first rest)
      (as_member {fields = others} first' rest') =
      ap (λ fields. field name required ty fields) (members_elaborated_once defined one rest rest')
      ∙ ap (λ each. field name required each others) (elaborated_once defined one first first')

-- the name that a list of possibilities resolves to is one of them, and is defined
pub first_defined : (defined : Names) (kind : ReferenceType) (names : List PlainName) (name : PlainName)
    → IsFirst (IsDefined defined kind) names name → Contains names name × IsDefined defined kind name
first_defined defined kind [] name none = absurd none
first_defined defined kind (first ∷ rest) name found =
    elim found [
      | inl here ↦ ((0, omega arith, here.0), rw here.0 at here.1)
      | inr later ↦
          let tail = first_defined defined kind rest name later.1 in ((suc tail.0.0, omega (arith, tail.0.1), tail.0.2), tail.1)
    ]

-- a reference to an entity type names no common type
pub names_no_common : (kind : ReferenceType) → kind ≡ Entity → ¬ MayNameCommon kind
names_no_common Common is may = cc
names_no_common Entity is may = may
names_no_common CommonOrEntity is may = cc
