-- What has a type has each type above it.
use Rattle.std.proofs.Common.{◌≡◌, ◌⊎◌, inl, inr, Bool, true, false, refl, sym, ◌∙◌, Option, Some, None}
use Rattle.cedar_type_rules.specs.Words.{Below, BoolType, ClosedAttributes, EachTree, Entries, EntryFits, Fields, FieldsBelow, FlagsBelow, HasBy, HasField, HasFieldsBy, HasTruth, NamesBelow, NamesListed, OpenAttributes, OpenTag, OpennessBelow, Permissive, PlainName, Strict, Text, Tree, Trees, Ty, ValidationMode, any_entity, any_set, call_value, end, entry_at, entry_names, extension_of, field, field_names, is_open, long, map_value, no_tree, number_value, record_of, set_of, set_value, text, text_value, tree, truth, truth_value, uid_value, union_of}
use Rattle.cedar_type_rules.specs.declared.bool_type.BoolType.TheVariants as bool_type

-- what holds of each value holds of it in a weaker form
pub EachTree-weaker : (P Q : Tree → Type 0) (values : Trees) → ((value : Tree) → P value → Q value) → EachTree P values → EachTree Q values
EachTree-weaker P Q no_tree weaker each = tt
EachTree-weaker P Q (tree first rest) weaker each = (weaker first each.0, EachTree-weaker P Q rest weaker each.1)

-- what is as it has to be is so in a weaker form
pub EntryFits-weaker : (P Q : Tree → Type 0) (own required : Bool) (found : Option Tree)
    → ((value : Tree) → P value → Q value) → (own ≡ false → required ≡ false) → EntryFits P own found → EntryFits Q required found
EntryFits-weaker P Q own required None weaker flags fits = flags fits
EntryFits-weaker P Q own required (Some value) weaker flags fits = weaker value fits

-- an attribute that may be missing is below none that is required
pub FlagsBelow-missing : (mode : ValidationMode) (own required : Bool) → FlagsBelow mode own required → own ≡ false → required ≡ false
FlagsBelow-missing Strict own required fits missing = sym fits ∙ missing
FlagsBelow-missing Permissive own true fits missing = absurd (let e = fits refl in cc)
FlagsBelow-missing Permissive own false fits missing = refl

-- a truth value as known is so as less is known
pub HasTruth-above : (value : Bool) (a b : BoolType) → HasTruth value a → (b ≡ bool_type.AnyBool) ⊎ (a ≡ b) → HasTruth value b
HasTruth-above value a b has below = elim below [ inl any ↦ rw any tt | inr same ↦ rw same at has ]

-- a record whose attributes are listed lists them in a record type above
pub NamesListed-above : (mode : ValidationMode) (openness upper_openness : OpenTag) (values : Entries)
    (lower upper : Fields) → NamesListed (is_open openness) (entry_names values) (field_names lower)
    → OpennessBelow openness upper_openness → NamesBelow mode upper_openness lower upper
    → NamesListed (is_open upper_openness) (entry_names values) (field_names upper)
NamesListed-above mode openness OpenAttributes values lower upper listed tags names = tt
NamesListed-above mode OpenAttributes ClosedAttributes values lower upper listed tags names = elim tags [ ]
NamesListed-above Strict ClosedAttributes ClosedAttributes values lower upper listed tags names =
    λ name among. names name (listed name among)
NamesListed-above Permissive ClosedAttributes ClosedAttributes values lower upper listed tags names =
    λ name among. names name (listed name among)

-- what the values have at one of the attributes
pub HasFieldsBy-of : (calls : PlainName → Trees → PlainName → Type 0) (values : Entries) (fields : Fields) (name : Text)
    (required : Bool) (ty : Ty) → HasFieldsBy calls values fields → HasField fields name required ty
    → EntryFits (λ value. HasBy calls value ty) required (entry_at name values)
HasFieldsBy-of calls values end name required ty has among = absurd among
HasFieldsBy-of calls values (field other flag of rest) name required ty has (inl same) =
    let P : Text → Bool → Ty → Type 0 = λ n r t. EntryFits (λ value. HasBy calls value t) r (entry_at n values) in
    rw (← same.0, ← same.1, ← same.2) has.0
HasFieldsBy-of calls values (field other flag of rest) name required ty has (inr there) =
    HasFieldsBy-of calls values rest name required ty has.1 there

mutual
  -- what has a type has each type above it
  pub HasBy-above : (calls : PlainName → Trees → PlainName → Type 0) (value : Tree) (mode : ValidationMode) (a b : Ty)
      → HasBy calls value a → Below mode a b → HasBy calls value b
  HasBy-above calls (truth_value value) mode (truth a) (truth b) h k = HasTruth-above value a b h k
  HasBy-above calls (truth_value value) mode (truth a) b h k = elim k [ ]
  HasBy-above calls (number_value value) mode long long h k = tt
  HasBy-above calls (number_value value) mode long b h k = elim k [ ]
  HasBy-above calls (text_value value) mode text text h k = tt
  HasBy-above calls (text_value value) mode text b h k = elim k [ ]
  HasBy-above calls (uid_value uid) mode any_entity any_entity h k = tt
  HasBy-above calls (uid_value uid) mode any_entity b h k = elim k [ ]
  HasBy-above calls (uid_value uid) Permissive (union_of a) any_entity h k = tt
  HasBy-above calls (uid_value uid) Permissive (union_of a) (union_of b) h k = k uid.ty h
  HasBy-above calls (uid_value uid) Permissive (union_of a) b h k = elim k [ ]
  HasBy-above calls (uid_value uid) Strict (union_of a) (union_of b) h k = rw k at h
  HasBy-above calls (uid_value uid) Strict (union_of a) b h k = elim k [ ]
  HasBy-above calls (set_value values) mode any_set any_set h k = tt
  HasBy-above calls (set_value values) mode any_set b h k = elim k [ ]
  HasBy-above calls (set_value values) mode (set_of a) any_set h k = tt
  HasBy-above calls (set_value values) mode (set_of a) (set_of b) h k =
      EachTree-weaker (λ value. HasBy calls value a) (λ value. HasBy calls value b) values
      (λ value has. HasBy-above calls value mode a b has k) h
  HasBy-above calls (set_value values) mode (set_of a) b h k = elim k [ ]
  HasBy-above calls (map_value values) mode (record_of a openness) (record_of b upper_openness) h k =
      (NamesListed-above mode openness upper_openness values a b h.0 k.0 k.1, HasFieldsBy-above calls values mode a b h.1 k.2)
  HasBy-above calls (map_value values) mode (record_of a openness) b h k = elim k [ ]
  HasBy-above calls (call_value function args) mode (extension_of a) (extension_of b) h k = rw k at h
  HasBy-above calls (call_value function args) mode (extension_of a) b h k = elim k [ ]
  HasBy-above calls value mode a b h k = elim h [ ]

  -- what has the attributes of a record has those of a record above it
  HasFieldsBy-above : (calls : PlainName → Trees → PlainName → Type 0) (values : Entries) (mode : ValidationMode)
      (a b : Fields) → HasFieldsBy calls values a → FieldsBelow mode a b → HasFieldsBy calls values b
  HasFieldsBy-above calls values mode a end h k = tt
  HasFieldsBy-above calls values mode a (field name required ty rest) h k =
      let own = k.0 in (
        EntryFits-weaker (λ value. HasBy calls value own.1) (λ value. HasBy calls value ty) own.0 required
            (entry_at name values) (λ value has. HasBy-above calls value mode own.1 ty has own.4)
            (FlagsBelow-missing mode own.0 required own.3) (HasFieldsBy-of calls values a name own.0 own.1 h own.2),
        HasFieldsBy-above calls values mode a rest h k.1,
      )
