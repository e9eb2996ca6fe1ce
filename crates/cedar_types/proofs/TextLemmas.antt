-- Texts of unions and of attributes, as they are written one after another.
use Rattle.std.proofs.Common.{◌≡◌, ◌∙◌, refl, sym, ap, List, [], ◌∷◌, ◌++◌, codes, string_bytes, Global, append_assoc}
use Rattle.std.proofs.lemmas.List.{append-nil}
use Rattle.std.specs.List.{flat_map}
use Rattle.std.specs.declared.string.String.{String}
use Rattle.cedar_types.specs.Words.{AttributeType, Attributes, PlainName, Text, attribute_of, fields_from, fields_of, fields_of-pairs, fields_text, mark_text, name_text, names_text, pairs_of, plain_attributes, ty_text}

-- the first name, and each other one behind a comma
pub names_text-first : (first : PlainName) (others : List PlainName)
    → names_text (first ∷ others) ≡ name_text first ++ flat_map (λ name. codes ", " ++ name_text name) others
names_text-first first [] = sym (append-nil (name_text first))
names_text-first first (next ∷ others) =
    let rest = flat_map (λ name. codes ", " ++ name_text name) others in
    ap (λ text. name_text first ++ codes ", " ++ text) (names_text-first next others)
    ∙ (append_assoc (name_text first) (codes ", ") (name_text next ++ rest)
    ∙ ap (λ text. name_text first ++ text) (sym (append_assoc (codes ", ") (name_text next) rest)))

-- an attribute as it is printed, with a comma behind it
abbrev pub entry_text : String Global × AttributeType → Text
entry_text entry = string_bytes entry.0 ++ mark_text (attribute_of entry.1).0 ++ ty_text (attribute_of entry.1).1 ++ codes ","

-- attributes are printed one after another
fields_text-entries : (entries : List (String Global × AttributeType))
    → fields_text (fields_from (plain_attributes entries)) ≡ flat_map entry_text entries
fields_text-entries [] = refl
fields_text-entries (entry ∷ rest) = ap (λ text. entry_text entry ++ text) (fields_text-entries rest)

-- the attributes of a record are printed as its pairs one after another
pub fields_text-pairs : (all : Attributes) (own : List (String Global × AttributeType)) → own ≡ pairs_of all
    → fields_text (fields_of all) ≡ flat_map entry_text own
fields_text-pairs all own is = ap fields_text (fields_of-pairs all) ∙ (fields_text-entries (pairs_of all) ∙ ap (flat_map entry_text) (sym is))
