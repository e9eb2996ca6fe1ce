-- What is at fault in the members of a text.
use Rattle.std.specs.List.{flat_map, find, list_all, list_any}
use Rattle.std.specs.Prelude.{◌≡◌, Bool, true, false, not, ◌&&◌, List, [], ◌∷◌, ◌++◌, map, Option, Some, None, Contains, cond, codes, string_bytes, ⊤}
use Rattle.std.specs.Str.{bytes_eq}
use Rattle.cedar_ast.specs.Joined.{joined}
use Rattle.cedar_ast.specs.Words.{Text, is_identifier_text, reserved_word}
use Rattle.cedar_ast.specs.declared.loc.Loc.{Loc}
use Rattle.cedar_schema_ast.specs.ReservedTypeWord.{reserved_type_words}
use Rattle.cedar_schema_grammar.specs.Tree.{Name, Path, Ty, named, set_of, record_of, Attributes, no_attributes, attribute, Parent, Says, principals, resources, context, Part, Applies, Body, choices, standard, Declaration, Member}
use Rattle.cedar_schema_text.specs.Meaning.{Entity, Action, Common, Block, first_said, principals_of, resources_of, context_of, entities_in, actions_in, commons_in, blocks_in, alone_in}
use Rattle.cedar_schema_text.specs.declared.fault.MeaningFault.{MeaningFault}
use Rattle.cedar_schema_text.specs.declared.fault.MeaningFault.TheVariants as fault
use Rattle.cedar_schema_text.specs.declared.fault.Missing.{Missing}
use Rattle.cedar_schema_text.specs.declared.fault.Missing.TheVariants as missing
use Rattle.cedar_schema_text.specs.declared.fault.Repeated.{Repeated}
use Rattle.cedar_schema_text.specs.declared.fault.Repeated.TheVariants as repeated

-- a name that stands again, with where it stands first and where again; the part that an
-- `appliesTo` lacks, with the place of this; a name that may not stand where it does
pub data Fault : Type 0 where
  twice : Repeated → Text → Loc → Loc → Fault
  lacking : Missing → Loc → Fault
  reserved : Loc → Fault

-- the fault, where a test fails
abbrev pub unless : Bool → Fault → List Fault
unless true it = []
unless false it = it ∷ []

-- the faults of what is there
abbrev pub if_there : {A : Type 0} → (A → List Fault) → Option A → List Fault
if_there f None = []
if_there f (Some x) = f x

-- ---- repeats

-- a name behind others, of which one has the same text
abbrev pub repeat_of : Repeated → Option Name → Name → List Fault
repeat_of what None x = []
repeat_of what (Some first) x = twice what x.text first.loc x.loc ∷ []

-- the first of some names with this text
abbrev pub first_named : Text → List Name → Option Name
first_named text names = find (λ x. bytes_eq x.text text) names

-- the names that stand again, behind some others
abbrev pub repeats_behind : Repeated → List Name → List Name → List Fault
repeats_behind what before [] = []
repeats_behind what before (x ∷ names) =
    repeat_of what (first_named x.text before) x ++ repeats_behind what (before ++ x ∷ []) names

-- the names that stand again
abbrev pub repeats : Repeated → List Name → List Fault
repeats what names = repeats_behind what [] names

-- ---- names

-- there are ids, and each is an identifier, as in each path of a text
abbrev pub is_name : List Text → Bool
is_name [] = false
is_name (id ∷ ids) = list_all is_identifier_text (id ∷ ids)

-- a path that is no name stands where one should
abbrev pub name_faults : Path → List Fault
name_faults path = unless (is_name path.ids) (reserved path.loc)

-- no part of a namespace's name is the reserved word
abbrev pub is_namespace_name : List Text → Bool
is_namespace_name ids = is_name ids && not (list_any (bytes_eq reserved_word) ids)

-- a path that may not name a namespace stands where one should
abbrev pub namespace_faults : Path → List Fault
namespace_faults path = unless (is_namespace_name path.ids) (reserved path.loc)

-- the id of an entity type isn't the reserved word
abbrev pub is_unreserved : Text → Bool
is_unreserved text = is_identifier_text text && not (bytes_eq text reserved_word)

-- the id of a common type is no word of a form of types either
abbrev pub is_common_id : Text → Bool
is_common_id text =
    is_unreserved text && not (list_any (bytes_eq text) reserved_type_words)

-- ---- types

-- the names of attributes
abbrev pub attribute_names : Attributes → List Name
attribute_names no_attributes = []
attribute_names (attribute annotations name is_required ty more) = name ∷ attribute_names more

abbrev mutual
  -- what is at fault in a type
  pub type_faults : Ty → List Fault
  type_faults (named path) = name_faults path
  type_faults (set_of element) = type_faults element
  type_faults (record_of all loc) =
      repeats repeated.Attribute (attribute_names all) ++ attributes_faults all

  -- what is at fault in attributes, each by itself
  pub attributes_faults : Attributes → List Fault
  attributes_faults no_attributes = []
  attributes_faults (attribute annotations name is_required ty more) =
      (repeats repeated.Annotation annotations ++ type_faults ty) ++ attributes_faults more

-- ---- entity types

-- a body lists an id at least, as in each text
abbrev pub body_faults : Loc → Body → List Fault
body_faults loc (choices []) = reserved loc ∷ []
body_faults loc (choices (x ∷ texts)) = []
body_faults loc (standard parents shape tags) =
    flat_map name_faults parents ++ if_there type_faults shape ++ if_there type_faults tags

-- what is at fault in the declaration of an entity type
abbrev pub entity_faults : Entity → List Fault
entity_faults it =
    unless (is_unreserved it.name.text) (reserved it.name.loc) ++ body_faults it.name.loc it.body

-- ---- actions

-- the word of a part
abbrev pub word_of : Says → Text
word_of (principals paths) = codes "principal"
word_of (resources paths) = codes "resource"
word_of (context ty) = codes "context"

-- the word of a part, where it stands
abbrev pub part_name : Part → Name
part_name part = record { text = word_of part.says; loc = part.loc }

-- the faults of what a part says that must not be absent
abbrev pub part_faults : Missing → Loc → Option (List Path) → List Fault
part_faults which loc None = lacking which loc ∷ []
part_faults which loc (Some paths) = flat_map name_faults paths

-- what is at fault in an `appliesTo`
abbrev pub requests_faults : Applies → List Fault
requests_faults it =
    repeats repeated.Part (map part_name it.parts)
    ++ part_faults missing.Principal it.loc (first_said principals_of it.parts)
    ++ part_faults missing.Resource it.loc (first_said resources_of it.parts)
    ++ if_there type_faults (first_said context_of it.parts)

-- what is at fault in a parent
abbrev pub parent_faults : Parent → List Fault
parent_faults it = if_there name_faults it.ty

-- what is at fault in the declaration of an action
abbrev pub action_faults : Action → List Fault
action_faults it =
    if_there (flat_map parent_faults) it.parents ++ if_there requests_faults it.applies

-- ---- common types

-- what is at fault in the declaration of a common type
abbrev pub common_faults : Common → List Fault
common_faults it =
    unless (is_common_id it.name.text) (reserved it.name.loc) ++ type_faults it.of

-- ---- namespaces

-- things that are declared: no name stands again, and each by itself
abbrev pub declared_faults : {A : Type 0} → Repeated → (A → Name) → (A → List Fault) → List A
    → List Fault
declared_faults what name faults all = repeats what (map name all) ++ flat_map faults all

-- what is at fault in common types
abbrev pub commons_faults : List Common → List Fault
commons_faults = declared_faults repeated.CommonType (λ it. it.name) common_faults

-- what is at fault in entity types
abbrev pub entities_faults : List Entity → List Fault
entities_faults = declared_faults repeated.EntityType (λ it. it.name) entity_faults

-- what is at fault in actions
abbrev pub actions_faults : List Action → List Fault
actions_faults = declared_faults repeated.Action (λ it. it.name) action_faults

-- of a declaration an annotation stands but once
abbrev pub noted_faults : Declaration → List Fault
noted_faults d = repeats repeated.Annotation d.annotations

-- what is at fault in the declarations of a namespace
abbrev pub definition_faults : List Declaration → List Fault
definition_faults all =
    flat_map noted_faults all ++ commons_faults (commons_in all)
    ++ entities_faults (entities_in all) ++ actions_faults (actions_in all)

-- the name of a block's namespace
abbrev pub block_name : Block → Name
block_name it = record { text = joined (codes "::") it.path.ids; loc = it.path.loc }

-- what is at fault in a block, beside its namespace standing again
abbrev pub block_faults : Block → List Fault
block_faults it =
    repeats repeated.Annotation it.annotations ++ namespace_faults it.path
    ++ definition_faults it.declarations

-- the blocks of namespaces
abbrev pub blocks_faults : List Block → List Fault
blocks_faults = declared_faults repeated.Namespace block_name block_faults

-- what is at fault in the members of a text
abbrev pub faults_in : List Member → List Fault
faults_in members = blocks_faults (blocks_in members) ++ definition_faults (alone_in members)

-- what is named is among the faults, or memory ran out
abbrev pub IsAmong : List Fault → MeaningFault → Type 0
IsAmong faults (fault.Twice it) =
    Contains faults (twice it.what (string_bytes it.name) it.first it.second)
IsAmong faults (fault.Missing which loc) = Contains faults (lacking which loc)
IsAmong faults (fault.Reserved loc) = Contains faults (reserved loc)
IsAmong faults fault.Memory = ⊤
