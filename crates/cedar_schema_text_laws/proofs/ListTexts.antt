-- Lists these they are written, and the lists that are read of them.
use Rattle.std.proofs.Common.{◌≡◌, ℕ, List, [], ◌∷◌, ◌++◌, map, codes, refl, sym, ap, ap₂, subst, ◌∙◌, inr, append_assoc}
use Rattle.std.proofs.lemmas.Grind.{flat_map-append}
use Rattle.std.specs.List.{flat_map}
use Rattle.cedar_schema_grammar.specs.Grammar.{Form, any, mark, nothing, separated, ◌then◌}
use Rattle.cedar_schema_text.specs.Faults.{Fault}
use Rattle.cedar_schema_text_laws.proofs.Tokens.{Open, Opens, Opens-none, Says, says_blank, says_close_bracket, says_comma, says_last, says_nothing, says_open_bracket, says_so, says_then}
use Rattle.cedar_schema_text_writer.specs.Pieces.{Piece, blank, list_pieces, others_pieces, sign, spelled, text_of}
use Rattle.cedar_schema_text_writer.specs.Pieces.{separated as separated_pieces}
use Rattle.cedar_schema_tokens.specs.Token.{Token}
use Rattle.cedar_schema_tokens.specs.declared.token.Symbol.TheVariants as mark_of

-- pieces one after another, of which each ends an identifier
pub Opens-append : (pieces others : List Piece) → Opens pieces → Opens others → Opens (pieces ++ others)
Opens-append pieces others opens more all ended =
    subst Open (sym (ap (λ front. front ++ all) (flat_map-append spelled pieces others) ∙ append_assoc (text_of pieces) (text_of others) all))
    (opens (text_of others ++ all) (more all ended))

-- items that say what some things do, and are read these others without faults
module _ {A B C : Type 0} (item : A → List Piece) (form : B → Form) (said : B → C) (given : A → C) (faults : B → List Fault) where
  -- an item that says so
  abbrev pub ItemOf : A → Form
  ItemOf a ts rest = (b : B) × form b ts rest × (said b ≡ given a) × (faults b ≡ [])

  -- items that say so, with commas between them
  abbrev pub SomeOf : List A → Form
  SomeOf these ts rest =
      (b : B) × (bs : List B) × separated mark_of.Comma form (b ∷ bs) ts rest × (map said (b ∷ bs) ≡ map given these) × (flat_map faults (b ∷ bs) ≡ [])

  -- items that say so, if any
  abbrev pub ListOf : List A → Form
  ListOf these ts rest = (bs : List B) × any form bs ts rest × (map said bs ≡ map given these) × (flat_map faults bs ≡ [])

  others_open : (these : List A) → Opens (others_pieces item these)
  others_open [] = Opens-none
  others_open (a ∷ these) = λ all ended. refl

  module _ (source total : ℕ) (each : (a : A) → Says source total (item a) (ItemOf a)) where
    some_say : (a : A) (these : List A) → Says source total (separated_pieces item (a ∷ these)) (SomeOf (a ∷ these))
    some_say a [] =
        says_so source total (item a ++ []) (ItemOf a then nothing) (SomeOf (a ∷ []))
        (λ ts rest is. (
          is.1.0,
          [],
          subst (λ (last : List Token). form is.1.0 ts last) is.2 is.1.1,
          ap (λ c. c ∷ []) is.1.2,
          ap (λ front. front ++ []) is.1.3,
        ))
        (says_then source total (item a) [] (ItemOf a) nothing (each a) Opens-none (says_nothing source total))
    some_say a (next ∷ these) =
        let others = sign (codes ",") ∷ blank ∷ separated_pieces item (next ∷ these) in
        says_so source total (item a ++ others) (ItemOf a then mark mark_of.Comma then SomeOf (next ∷ these)) (SomeOf (a ∷ next ∷ these))
        (λ ts rest is. (
          is.1.0,
          is.2.2.0 ∷ is.2.2.1,
          (is.0, is.1.1, (is.2.0, is.2.1, is.2.2.2)),
          ap₂ (λ c cs. c ∷ cs) is.1.2 is.2.2.3,
          ap₂ (λ front behind. front ++ behind) is.1.3 is.2.2.4,
        ))
        (says_then source total (item a) others (ItemOf a) (mark mark_of.Comma then SomeOf (next ∷ these)) (each a) (λ all ended. refl)
        (says_comma source total (blank ∷ separated_pieces item (next ∷ these)) (SomeOf (next ∷ these))
        (says_blank source total (separated_pieces item (next ∷ these)) (SomeOf (next ∷ these)) (some_say next these))))

    close_says : Says source total (sign (codes "]") ∷ []) (mark mark_of.CloseBracket)
    close_says = says_last source total (sign (codes "]") ∷ []) (mark mark_of.CloseBracket) (says_close_bracket source total [] nothing (says_nothing source total))

    -- a list of some in brackets
    pub some_list_says : (a : A) (these : List A)
        → Says source total (list_pieces item (a ∷ these)) (mark mark_of.OpenBracket then SomeOf (a ∷ these) then mark mark_of.CloseBracket)
    some_list_says a these =
        let inside = separated_pieces item (a ∷ these) in
        says_open_bracket source total (inside ++ sign (codes "]") ∷ []) (SomeOf (a ∷ these) then mark mark_of.CloseBracket)
        (says_then source total inside (sign (codes "]") ∷ []) (SomeOf (a ∷ these)) (mark mark_of.CloseBracket) (some_say a these) (λ all ended. refl) close_says)

    -- a list of any in brackets
    pub list_says : (these : List A) → Says source total (list_pieces item these) (mark mark_of.OpenBracket then ListOf these then mark mark_of.CloseBracket)
    list_says [] =
        says_open_bracket source total (sign (codes "]") ∷ []) (ListOf [] then mark mark_of.CloseBracket)
        (says_so source total (sign (codes "]") ∷ []) (mark mark_of.CloseBracket) (ListOf [] then mark mark_of.CloseBracket)
        (λ ts rest is. (ts, ([], refl, refl, refl), is)) close_says)
    list_says (a ∷ these) =
        says_so source total (list_pieces item (a ∷ these)) (mark mark_of.OpenBracket then SomeOf (a ∷ these) then mark mark_of.CloseBracket)
        (mark mark_of.OpenBracket then ListOf (a ∷ these) then mark mark_of.CloseBracket)
        (λ ts rest is. (is.0, is.1, (is.2.0, (is.2.1.0 ∷ is.2.1.1, (is.2.0, is.2.1.2, inr refl), is.2.1.3, is.2.1.4), is.2.2)))
        (some_list_says a these)
