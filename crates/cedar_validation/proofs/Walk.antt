-- What stands in types, as their attributes are gone through.
use Rattle.std.proofs.Common.{◌≡◌, ◌⊎◌, ◌≤◌, ◌+◌, ℕ, inl, inr, arith}
use Rattle.std.specs.Prelude.{Bool}
use Rattle.cedar_validation.specs.Words.{Fields, FieldsMentionEntity, FieldsMentionExtensionType, MentionsEntity, MentionsExtensionType, PlainName, Text, Ty, end, field, record_of, set_of}

abbrev mutual
  -- how many parts a type has
  pub ty_size : Ty → ℕ
  ty_size (set_of ty) = ty_size ty + 1
  ty_size (record_of fields openness) = fields_size fields + 1
  ty_size _ = 0

  -- how many the types of attributes have
  pub fields_size : Fields → ℕ
  fields_size end = 0
  fields_size (field text required ty rest) = ty_size ty + fields_size rest + 1

-- what stands in attributes is known, but for those that are left
pub record Walked (Known KnownExtension : PlainName → Type 0) (all left : Fields) : Type 0 where
  pub entities : (name : PlainName) → FieldsMentionEntity all name → Known name ⊎ FieldsMentionEntity left name
  pub entities_among : (name : PlainName) → FieldsMentionEntity left name → FieldsMentionEntity all name
  pub extensions : (name : PlainName) → FieldsMentionExtensionType all name → KnownExtension name ⊎ FieldsMentionExtensionType left name
  pub extensions_among : (name : PlainName) → FieldsMentionExtensionType left name → FieldsMentionExtensionType all name
  pub smaller : fields_size left ≤ fields_size all

module _ (Known KnownExtension : PlainName → Type 0) (all : Fields) where
  module _ (left rest : Fields) (text : Text) (required : Bool) (ty : Ty) (is : left ≡ field text required ty rest)
      (so_far : Walked Known KnownExtension all left) where
    next : Walked Known KnownExtension all (field text required ty rest)
    next = rw is at so_far

    -- what stands in it stands in them all
    pub walked_entity : (name : PlainName) → MentionsEntity ty name → FieldsMentionEntity all name
    walked_entity name mentions = next.entities_among name (inl mentions)

    pub walked_extension : (name : PlainName) → MentionsExtensionType ty name → FieldsMentionExtensionType all name
    walked_extension name mentions = next.extensions_among name (inl mentions)

    -- where that is known, one is done with
    pub walked_more : ((name : PlainName) → MentionsEntity ty name → Known name)
        → ((name : PlainName) → MentionsExtensionType ty name → KnownExtension name) → Walked Known KnownExtension all rest
    walked_more entities extensions = record {
      entities = λ name mentions. elim (next.entities name mentions) [ inl known ↦ inl known | inr still ↦ elim still [ inl here ↦ inl (entities name here) | inr later ↦ inr later ] ];
      entities_among = λ name mentions. next.entities_among name (inr mentions);
      extensions = λ name mentions. elim (next.extensions name mentions) [ inl known ↦ inl known | inr still ↦ elim still [ inl here ↦ inl (extensions name here) | inr later ↦ inr later ] ];
      extensions_among = λ name mentions. next.extensions_among name (inr mentions);
      smaller = let h = next.smaller in omega arith;
    }

  -- where none is left, what stands in them is known
  module _ (left : Fields) (nothing : left ≡ end) (so_far : Walked Known KnownExtension all left) where
    done : Walked Known KnownExtension all end
    done = rw nothing at so_far

    pub walked_all : ((name : PlainName) → FieldsMentionEntity all name → Known name)
        × ((name : PlainName) → FieldsMentionExtensionType all name → KnownExtension name)
    walked_all = (
      λ name mentions. elim (done.entities name mentions) [ inl known ↦ known | inr none ↦ absurd none ],
      λ name mentions. elim (done.extensions name mentions) [ inl known ↦ known | inr none ↦ absurd none ],
    )
