-- What names would name, where a fragment is written beside the others of its schema.
use Rattle.std.specs.List.{list_any}
use Rattle.std.specs.Ordering.{is_eq}
use Rattle.std.specs.Str.{bytes_eq}
use Rattle.std.specs.Prelude.{Bool, true, false, ◌||◌, ◌&&◌, not, List, [], ◌∷◌, ◌++◌, Option, map, cond, codes}
use Rattle.cedar_ast.specs.Words.{PlainName, Text, is_identifier_text, name_cmp, reserved_word}
use Rattle.cedar_schema_ast.specs.Words.{possible_names, raw_bag}
use Rattle.cedar_schema_ast.specs.declared.json_schema.fragment.Fragment.{Fragment}
use Rattle.cedar_schema_ast.specs.declared.json_schema.raw_name.RawName.{RawName}
use Rattle.cedar_schema_semantics.specs.Words.{Bag, Names, action_uids, alias_name, built_in_name, declared_common, declared_entities}
use Rattle.cedar_schema_text_writer.specs.declared.scope.Standing.{Standing}
use Rattle.cedar_schema_text_writer.specs.declared.scope.Standing.TheVariants.{Common, Entity, Undeclared}

-- the full names that a bag declares: of common types, and of entity types, with the types of its
-- actions among them
abbrev pub names_of_bag : Bag → Names
names_of_bag bag = record {
  common = map (λ it. it.0) (declared_common bag);
  entities = map (λ it. it.0) (declared_entities bag) ++ map (λ uid. uid.ty) (action_uids bag);
  actions = [];
}

-- a name is one of some
abbrev pub is_held : List PlainName → PlainName → Bool
is_held names name = list_any (λ other. is_eq (name_cmp name other)) names

-- what a name in full is declared as: a common type, and perhaps an entity type too; an entity type
-- alone; or neither
abbrev pub standing_of : Names → PlainName → Standing
standing_of names name =
    cond (is_held names.common name) Common (cond (is_held names.entities name) Entity Undeclared)

-- the one standing, or the other where nothing is declared
abbrev pub standing_or : Standing → Standing → Standing
standing_or Undeclared other = other
standing_or Common other = Common
standing_or Entity other = Entity

-- what the first of some names that is declared is declared as
abbrev pub first_standing : Names → List PlainName → Standing
first_standing names [] = Undeclared
first_standing names (name ∷ rest) =
    standing_or (standing_of names name) (first_standing names rest)

-- how it is known what the first of a reference's possibilities is declared as
abbrev pub First : Type 0
First = List PlainName → Standing

-- what the first of a reference's possibilities is declared as by a fragment or by those beside it
abbrev pub first_beside : Fragment RawName → List (Fragment RawName) → First
first_beside fragment beside = first_standing (names_of_bag (raw_bag (fragment ∷ beside)))

-- the name of a built-in type by what its base name would name: the base name alone, or the name in
-- full where that would name something that is declared
abbrev pub built_in_by : Standing → Text → PlainName
built_in_by Undeclared word = alias_name word
built_in_by Common word = built_in_name word
built_in_by Entity word = built_in_name word

-- the name of a built-in type, as it is written in a namespace
abbrev pub built_in_written : First → Option PlainName → Text → PlainName
built_in_written first namespace word =
    built_in_by (first (possible_names namespace (alias_name word))) word

-- the last of some names: of a reference's possibilities, it is the name that was written
abbrev pub last_name : List PlainName → PlainName
last_name [] = alias_name []
last_name (name ∷ []) = name
last_name (name ∷ other ∷ rest) = last_name (other ∷ rest)

-- a text is one of some
abbrev pub is_among : Text → List Text → Bool
is_among text [] = false
is_among text (one ∷ others) = bytes_eq text one || is_among text others

-- a part of the name is the reserved word
abbrev pub is_reserved : PlainName → Bool
is_reserved name = bytes_eq name.base reserved_word || is_among reserved_word name.path

-- the names of the primitive types
abbrev pub primitive_words : List Text
primitive_words = codes "Bool" ∷ codes "Long" ∷ codes "String" ∷ []

-- the names of all built-in types
abbrev pub built_in_words : List Text
built_in_words =
    codes "Bool" ∷ codes "Long" ∷ codes "String" ∷ codes "ipaddr" ∷ codes "decimal"
    ∷ codes "datetime" ∷ codes "duration" ∷ []

-- the list has no items
abbrev pub is_none : {A : Type 0} → List A → Bool
is_none [] = true
is_none (first ∷ rest) = false

-- a name that isn't declared may name a built-in type
abbrev pub may_be_built_in : PlainName → Bool
may_be_built_in name =
    is_reserved name || (is_none name.path && is_among name.base built_in_words)

-- the words that policies reserve
abbrev pub policy_words : List Text
policy_words =
    codes "true" ∷ codes "false" ∷ codes "if" ∷ codes "then" ∷ codes "else" ∷ codes "in"
    ∷ codes "is" ∷ codes "like" ∷ codes "has" ∷ codes "__cedar" ∷ []

-- the id of an action or the name of an attribute is written as an identifier
abbrev pub is_bare : Text → Bool
is_bare text = is_identifier_text text && not (is_among text policy_words)
