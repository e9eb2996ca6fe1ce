-- Names as they are written, and the paths that are read of them.
use Rattle.std.proofs.Common.{◌≡◌, ℕ, suc, true, ◌&&◌, List, [], ◌∷◌, ◌++◌, refl, ap, ◌∙◌, All, arith}
use Rattle.std.proofs.lemmas.Bool.{and_parts}
use Rattle.std.proofs.lemmas.Bool.Decides.{nat_tests}
use Rattle.std.specs.List.{list_all}
use Rattle.std.specs.Prelude.{codes}
use Rattle.cedar_ast.specs.Words.{IsIdentifier, IsOfIdentifiers, PlainName, Text, begins_identifier, is_identifier_byte, is_identifier_text}
use Rattle.cedar_schema_grammar.specs.Grammar.{Form, IsPath, between, separated, ◌then◌, mark, nothing}
use Rattle.cedar_schema_grammar.specs.Grammar.{word as word_form}
use Rattle.cedar_schema_grammar.specs.Tree.{Path}
use Rattle.cedar_schema_text.proofs.NameLemmas.{is_name_popped, name_popped}
use Rattle.cedar_schema_text.specs.Faults.{is_name}
use Rattle.cedar_schema_text.specs.Meaning.{name_from}
use Rattle.cedar_schema_text_laws.proofs.Tokens.{Opens-none, Says, says_last, says_nothing, says_path_separator, says_so, says_word}
use Rattle.cedar_schema_text_writer.specs.Pieces.{path_pieces, sign, word}
use Rattle.cedar_schema_tokens.specs.Lexical.{is_word}
use Rattle.cedar_schema_tokens.specs.Token.{Token}
use Rattle.cedar_schema_tokens.specs.Written.{is_id}
use Rattle.cedar_schema_tokens.specs.declared.token.Symbol.TheVariants as mark_of

-- the bytes of an identifier are those of a token's id
words_of : (w : Text) → list_all is_identifier_byte w ≡ true → list_all is_word w ≡ true
words_of [] all = refl
words_of (b ∷ bs) all =
    let parts = and_parts (is_identifier_byte b) (list_all is_identifier_byte bs) all in
    ap (λ test. test && list_all is_word bs) (here parts.0) ∙ words_of bs parts.1
  where
    here : is_identifier_byte b ≡ true → is_word b ≡ true
    here is = grind (arith, nat_tests)

pub id_of_identifier : (w : Text) → is_identifier_text w ≡ true → is_id w ≡ true
id_of_identifier [] is = is
id_of_identifier (b ∷ bs) is =
    let parts = and_parts (begins_identifier (b ∷ bs)) (list_all is_identifier_byte (b ∷ bs)) is in
    let rest = and_parts (is_identifier_byte b) (list_all is_identifier_byte bs) parts.1 in
    ap (λ test. test && list_all is_word bs) parts.0 ∙ words_of bs rest.1

-- the ids of a name
abbrev pub ids_of : PlainName → List Text
ids_of name = name.path ++ name.base ∷ []

-- a path that is a name
abbrev pub PathOf : PlainName → Form
PathOf name ts rest = (p : Path) × IsPath p ts rest × (name_from p.ids ≡ name) × (is_name p.ids ≡ true) × (p.ids ≡ ids_of name)

-- an id before others
separated_more : (id : Text) (others : List Text) (last : Text) (ts rest : List Token)
    → (word_form id then mark mark_of.PathSeparator then separated mark_of.PathSeparator word_form (others ++ last ∷ [])) ts rest
    → separated mark_of.PathSeparator word_form (id ∷ (others ++ last ∷ [])) ts rest
separated_more id [] last ts rest is = is
separated_more id (other ∷ others) last ts rest is = is

all_identifiers : (path : List Text) (base : Text) → All IsIdentifier path → IsIdentifier base → list_all is_identifier_text (path ++ base ∷ []) ≡ true
all_identifiers [] base all is = ap (λ test. test && true) is
all_identifiers (id ∷ path) base all is =
    ap (λ test. test && list_all is_identifier_text (path ++ base ∷ [])) (all 0 id (omega arith))
    ∙ all_identifiers path base (λ k d below. all (suc k) d (omega (arith, below))) is

module _ (source total : ℕ) where
  ids_say : (path : List Text) (base : Text) → All IsIdentifier path → IsIdentifier base
      → Says source total (path_pieces (record { base = base; path = path })) (separated mark_of.PathSeparator word_form (path ++ base ∷ []))
  ids_say [] base all is =
      says_last source total (word base ∷ []) (word_form base)
      (says_word source total base [] nothing (id_of_identifier base is) Opens-none (says_nothing source total))
  ids_say (id ∷ path) base all is =
      let rest = path_pieces (record { base = base; path = path }) in
      let form = separated mark_of.PathSeparator word_form (path ++ base ∷ []) in
      says_so source total (path_pieces (record { base = base; path = id ∷ path })) (word_form id then mark mark_of.PathSeparator then form)
      (separated mark_of.PathSeparator word_form (id ∷ (path ++ base ∷ []))) (separated_more id path base)
      (says_word source total id (sign (codes "::") ∷ rest) (mark mark_of.PathSeparator then form)
      (id_of_identifier id (all 0 id (omega arith))) (λ text ended. refl)
      (says_path_separator source total rest form (ids_say path base (λ k d below. all (suc k) d (omega (arith, below))) is)))

  -- a name says a path that is the name
  pub path_says : (name : PlainName) → IsOfIdentifiers name → Says source total (path_pieces name) (PathOf name)
  path_says name identifiers =
      says_so source total (path_pieces name) (separated mark_of.PathSeparator word_form (ids_of name)) (PathOf name) read
      (ids_say name.path name.base identifiers.1 identifiers.0)
    where
      read : (ts rest : List Token) → separated mark_of.PathSeparator word_form (ids_of name) ts rest → PathOf name ts rest
      read ts rest are = (
        record { ids = ids_of name; loc = between ts rest },
        (are, refl),
        name_popped (ids_of name) name.path name.base refl,
        is_name_popped (ids_of name) name.path name.base refl (all_identifiers name.path name.base identifiers.1 identifiers.0),
        refl,
      )
