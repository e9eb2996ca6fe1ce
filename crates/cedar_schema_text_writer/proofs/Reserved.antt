-- What tests on names tell.
use Rattle.std.proofs.Common.{◌≡◌, Bool, true, false, ◌||◌, ◌&&◌, inl, inr, Option, None, Some, List, [], ◌∷◌, Contains, refl, ap, sym, ◌∙◌, arith}
use Rattle.std.proofs.lemmas.Bool.{false≢true}
use Rattle.std.proofs.lemmas.Bool.Decides.{Decides-like, Decides-or}
use Rattle.std.proofs.lemmas.Slice.Eq.{bytes_eq-Decides}
use Rattle.std.specs.Bool.{Decides}
use Rattle.cedar_ast.proofs.Lists.{Contains-cons, Contains-cons_cases}
use Rattle.cedar_ast.specs.PlainName.{IsReserved}
use Rattle.cedar_ast.specs.Words.{PlainName, Text, reserved_word}
use Rattle.cedar_schema_ast.specs.Words.{names_within, possible_names}
use Rattle.cedar_schema_text_writer.specs.Names.{built_in_words, is_among, is_none, is_reserved, last_name, may_be_built_in}

-- a test decides whether a text is one of some
pub among : (text : Text) (words : List Text) → Decides (is_among text words) (Contains words text)
among text [] = (λ e. absurd (false≢true e), λ there. absurd (omega (arith, there.1)))
among text (word ∷ words) =
    Decides-like _
    (elim [ inl same ↦ Contains-cons word words text (inl (sym same)) | inr later ↦ Contains-cons word words text (inr later) ])
    (λ there. elim (Contains-cons_cases word words text there) [ inl same ↦ inl (sym same) | inr later ↦ inr later ])
    (Decides-or _ _ (bytes_eq-Decides text word) (among text words))

-- a test decides whether a name is reserved
reserved : (name : PlainName) → Decides (is_reserved name) (IsReserved name)
reserved name = Decides-or _ _ (bytes_eq-Decides name.base reserved_word) (among reserved_word name.path)

no_test : (b : Bool) → ¬ (b ≡ true) → b ≡ false
no_test true isn't = absurd (isn't refl)
no_test false isn't = refl

has_path : (path : List Text) → ¬ (path ≡ []) → is_none path ≡ false
has_path [] isn't = absurd (isn't refl)
has_path (part ∷ path) isn't = refl

module _ (name : PlainName) where
  -- whether the name is a base name that a built-in type has
  abbrev is_word : Bool
  is_word = is_none name.path && is_among name.base built_in_words

  -- a reserved name may name a built-in type
  pub reserved_may : (answer : Bool) → answer ≡ true → IsReserved name → answer ≡ may_be_built_in name
  reserved_may answer is there = is ∙ sym (ap (λ b. b || is_word) ((reserved name).1 there))

  -- another with a path doesn't
  pub qualified_may_not : (answer : Bool) → answer ≡ false → ¬ IsReserved name → ¬ (name.path ≡ []) → answer ≡ may_be_built_in name
  qualified_may_not answer is isn't qualified =
      is ∙ sym (λ i. no_test (is_reserved name) (λ e. isn't ((reserved name).0 e)) i || (has_path name.path qualified i && is_among name.base built_in_words))

  -- another without a path does by its base name
  pub base_may : (answer : Bool) → ¬ IsReserved name → name.path ≡ [] → answer ≡ is_among name.base built_in_words → answer ≡ may_be_built_in name
  base_may answer isn't base is =
      is ∙ sym (λ i. no_test (is_reserved name) (λ e. isn't ((reserved name).0 e)) i || (is_none (base i) && is_among name.base built_in_words))

last_within : (namespace : PlainName) (base : Text) (path : List Text) → last_name (names_within namespace base path) ≡ record { base = base; path = path }
last_within namespace base [] = refl
last_within namespace base (part ∷ path) = refl

-- the last of a written name's possibilities is the name that was written
pub last_possible : (namespace : Option PlainName) (name : PlainName) → last_name (possible_names namespace name) ≡ name
last_possible None name = refl
last_possible (Some namespace) name = last_within namespace name.base name.path
