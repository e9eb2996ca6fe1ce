-- Names and identifiers as texts spell them.
use Rattle.std.specs.Prelude.{ℕ, Bool, not, ◌==◌, ◌&&◌, ◌||◌, List, [], ◌∷◌, Option, Some, None, option_map, option_and_then, cond}
use Rattle.std.specs.Str.{bytes_eq}
use Rattle.cedar_ast.specs.Words.{PlainName, Text, is_identifier_text, reserved_word}
use Rattle.cedar_json.specs.Fields.{is_among}

-- texts in a row, the first of them with a byte before it
abbrev pub with_byte : ℕ → List Text → List Text
with_byte byte [] = (byte ∷ []) ∷ []
with_byte byte (first ∷ rest) = (byte ∷ first) ∷ rest

-- a text cut at each `::`
abbrev pub pieces : Text → List Text
pieces [] = [] ∷ []
pieces (byte ∷ []) = (byte ∷ []) ∷ []
pieces (byte ∷ next ∷ rest) =
    cond ((byte == 58) && (next == 58)) ([] ∷ pieces rest) (with_byte byte (pieces (next ∷ rest)))

-- the name with one part more before it
abbrev pub name_after : Text → PlainName → PlainName
name_after part name = record { base = name.base; path = part ∷ name.path }

-- the name whose parts are these, the base name last, where there is a part and each is an
-- identifier
abbrev pub name_of_parts : List Text → Option PlainName
name_of_parts [] = None
name_of_parts (base ∷ []) = cond (is_identifier_text base)
    (Some (record { base = base; path = [] })) None
name_of_parts (part ∷ next ∷ rest) =
    cond (is_identifier_text part) (option_map (name_after part) (name_of_parts (next ∷ rest))) None

-- the name that a text spells: identifiers joined by `::`
abbrev pub spelled_name : Text → Option PlainName
spelled_name text = name_of_parts (pieces text)

-- the text is an identifier other than the reserved word
abbrev pub is_unreserved : Text → Bool
is_unreserved text = is_identifier_text text && not (bytes_eq text reserved_word)

-- a part of the name is the reserved word
abbrev pub is_reserved : PlainName → Bool
is_reserved name = bytes_eq name.base reserved_word || is_among reserved_word name.path

-- the name, where it isn't reserved
abbrev pub if_unreserved : PlainName → Option PlainName
if_unreserved name = cond (is_reserved name) None (Some name)

-- the name that a text spells, where it isn't reserved
abbrev pub plain_name_in : Text → Option PlainName
plain_name_in text = option_and_then if_unreserved (spelled_name text)
