-- Texts and names of a length, which strings and names can hold, and names that aren't reserved.
use Rattle.std.proofs.Common.{◌≡◌, ◌≢◌, ◌<◌, true, refl, sym, ap, ◌∙◌, ℕ, zero, suc, length, [], ◌∷◌, ◌==◌, slice_index, slice_index_or, arith, inl, inr}
use Rattle.std.proofs.lemmas.Bool.{false≢true}
use Rattle.std.proofs.lemmas.List.Elements.{All-nil, All-map}
use Rattle.std.proofs.lemmas.Str.{IsUtf8-from_ascii, IsUtf8-nil}
use Rattle.std.specs.List.{list_all}
use Rattle.cedar_ast.specs.Words.{EntityType, IsIdentifier, IsName, IsText, Name, PlainName, Text, id_text, is_identifier_byte, plain_name, reserved_word, type_name}

-- a text of that many `_`
abbrev pub stretch : ℕ → Text
stretch zero = []
stretch (suc k) = 95 ∷ stretch k

-- its length
pub length-stretch : (k : ℕ) → length (stretch k) ≡ k
length-stretch zero = refl
length-stretch (suc k) = (let before = length-stretch k in omega (arith, before))

-- its bytes are those of identifiers
stretch-identifier_bytes : (k : ℕ) → list_all is_identifier_byte (stretch k) ≡ true
stretch-identifier_bytes zero = refl
stretch-identifier_bytes (suc k) = stretch-identifier_bytes k

-- it is an identifier if it isn't empty
IsIdentifier-stretch : (k : ℕ) → IsIdentifier (stretch (suc k))
IsIdentifier-stretch k = stretch-identifier_bytes k

-- each of its bytes is `_`
stretch-same : (k : ℕ) → list_all (λ byte. byte == 95) (stretch k) ≡ true
stretch-same zero = refl
stretch-same (suc k) = stretch-same k

-- it isn't the reserved word
stretch-unreserved : (k : ℕ) → stretch k ≢ reserved_word
stretch-unreserved k same = false≢true (sym (ap (list_all (λ byte. byte == 95)) same) ∙ stretch-same k)

-- its bytes are of ASCII
stretch-ascii : (k i : ℕ) → slice_index (stretch k) i < 128
stretch-ascii zero i = omega arith
stretch-ascii (suc k) zero = omega arith
stretch-ascii (suc k) (suc i) = stretch-ascii k i

-- it is a text
pub IsText-stretch : (k : ℕ) → IsText (stretch k)
IsText-stretch k = IsUtf8-from_ascii (stretch k) (stretch-ascii k)

-- the empty text is one
pub IsText-nil : IsText []
IsText-nil = IsUtf8-nil

-- a name of that many `_`
abbrev pub stretch_name : ℕ → PlainName
stretch_name k = record { base = stretch (suc k); path = [] }

-- it is a name that isn't reserved
pub IsName-stretch : (k : ℕ) → IsName (stretch_name k)
IsName-stretch k = (
  IsIdentifier-stretch k,
  All-nil IsIdentifier,
  elim [ inl left ↦ stretch-unreserved (suc k) left | inr among ↦ omega (arith, among.1) ],
)

-- what a name stands for isn't reserved
pub IsName-plain_name : (name : Name) → IsName (plain_name name)
IsName-plain_name name = (
  name.name.parts.value.id.identifier,
  All-map IsIdentifier id_text name.name.parts.value.path.items (λ k d below. (slice_index_or name.name.parts.value.path.items k d).identifier),
  name.unreserved,
)

-- the name of an entity type isn't reserved
pub IsName-type_name : (ty : EntityType) → IsName (type_name ty)
IsName-type_name ty = IsName-plain_name ty.0
