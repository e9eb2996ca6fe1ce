use Rattle.std.specs.Char.{encode_utf8, is_control}
use Rattle.std.specs.Fmt.{digits}
use Rattle.std.specs.List.{flat_map}
use Rattle.std.specs.Prelude.{◌≡◌, ℕ, false, ◌++◌, ◌==◌, codes, cond}
use Rattle.std.specs.Str.{IsUtf8, chars}
use Rattle.cedar_ast.specs.NameText.{IsOfIdentifiers}
use Rattle.cedar_ast.specs.PlainName.{IsReserved, name_text}
use Rattle.cedar_ast.specs.PlainUid.{PlainUid}
use Rattle.cedar_ast.specs.Text.{Text}

-- a character of an id as it is printed: a quote, a backslash and some controls by a letter behind
-- a backslash, any other control by its number in hexadecimal, and all else as it is
abbrev pub escaped : ℕ → Text
escaped c =
    cond (c == 0) (codes "\\0")
    (cond (c == 9) (codes "\\t")
    (cond (c == 10) (codes "\\n")
    (cond (c == 13) (codes "\\r")
    (cond (c == 34) (codes "\\\"")
    (cond (c == 92) (codes "\\\\")
    (cond (is_control c) (codes "\\u{" ++ (digits 16 false c ++ codes "}")) (encode_utf8 c)))))))

-- an id as it is printed, without the quotes
abbrev pub escaped_text : Text → Text
escaped_text eid = flat_map escaped (chars eid)

-- an id as it is printed: in quotes, and escaped
abbrev pub quoted_text : Text → Text
quoted_text eid = codes "\"" ++ (escaped_text eid ++ codes "\"")

-- a uid as it is printed: its type, `::`, and its id
abbrev pub uid_text : PlainUid → Text
uid_text uid = name_text uid.ty ++ (codes "::" ++ quoted_text uid.eid)

-- some id prints as the text between quotes, and the last quote
abbrev pub IsQuoted : Text → Type 0
IsQuoted text = (eid : Text) × IsUtf8 eid × (escaped_text eid ++ codes "\"" ≡ text)

-- some uid, whose type is a name of identifiers, prints as the text
abbrev pub IsUidText : Text → Type 0
IsUidText text = (uid : PlainUid) × IsOfIdentifiers uid.ty × IsUtf8 uid.eid × (uid_text uid ≡ text)

-- some uid, whose type is a reserved name of identifiers, prints as the text
abbrev pub IsReservedUidText : Text → Type 0
IsReservedUidText text = (uid : PlainUid) × IsOfIdentifiers uid.ty × IsReserved uid.ty
    × IsUtf8 uid.eid × (uid_text uid ≡ text)
