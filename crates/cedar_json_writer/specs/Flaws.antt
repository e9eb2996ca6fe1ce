-- What can't be written of fragments.
use Rattle.std.specs.List.{flat_map}
use Rattle.std.specs.Prelude.{◌≡◌, ℕ, ◌+◌, List, [], ◌∷◌, ◌++◌, Option, Some, None, cond, codes, nat_lt}
use Rattle.cedar_ast.specs.Words.{Entries, Text, Tree, Trees, call_value, entries_from, entry, map_value, no_entry, no_tree, number_value, set_value, text_value, tree, truth_value, uid_value}
use Rattle.cedar_json.specs.Words.{Pairs, WrittenAction, WrittenDefinition, WrittenFragment, is_among}
use Rattle.cedar_json_writer.specs.FragmentDocument.{fragment_document}
use Rattle.cedar_json_writer.specs.TypeDocument.{reference_text}
use Rattle.cedar_schema_ast.specs.Expr.{Members as AttributeList, no_member as no_attribute, member as attribute}
use Rattle.cedar_schema_ast.specs.Words.{EntityBody, Expr, Requests, elsewhere, enumerated, extension_expr, external, long_expr, named, record_expr, requests, set_expr, standard, text_expr, truth_expr}
use Rattle.cedar_schema_ast.specs.declared.json_schema.reference_type.ReferenceType.{ReferenceType}
use Rattle.cedar_schema_ast.specs.declared.json_schema.reference_type.ReferenceType.TheVariants.{Common, Entity, CommonOrEntity}
use Rattle.json.specs.Json.{max_depth}
use Rattle.json.specs.Tree.{depth}

-- what can't be written: a reference to a common type by a word that says of which form a type is,
-- a call with the number of its arguments, which isn't one, a record whose one key says that it is
-- an entity or a call, and what nests deeper than is read
pub data Flaw : Type 0 where
  type_word : Text → Flaw
  arguments : ℕ → Flaw
  lone_key : Text → Flaw
  nesting : Flaw

-- the words that say of which form a type is
abbrev pub type_words : List Text
type_words =
    codes "String" ∷ codes "Long" ∷ codes "Boolean" ∷ codes "Set" ∷ codes "Record"
    ∷ codes "Entity" ∷ codes "EntityOrCommon" ∷ codes "Extension" ∷ []

-- the keys that say that an object with no other is an entity or a call
abbrev pub value_keys : List Text
value_keys = codes "__entity" ∷ codes "__extn" ∷ []

-- what can't be written of a reference
abbrev pub reference_flaws : ReferenceType → Text → List Flaw
reference_flaws Common text = cond (is_among text type_words) (type_word text ∷ []) []
reference_flaws Entity text = []
reference_flaws CommonOrEntity text = []

unfoldable mutual
  -- what can't be written of a type
  pub type_flaws : Expr → List Flaw
  type_flaws text_expr = []
  type_flaws long_expr = []
  type_flaws truth_expr = []
  type_flaws (set_expr element) = type_flaws element
  type_flaws (record_expr all additional) = attributes_flaws all
  type_flaws (named reference) = reference_flaws reference.kind (reference_text reference)
  type_flaws (extension_expr name) = []

  -- what can't be written of attributes
  pub attributes_flaws : AttributeList → List Flaw
  attributes_flaws no_attribute = []
  attributes_flaws (attribute name required ty rest) = type_flaws ty ++ attributes_flaws rest

-- how many values there are
abbrev pub count : Trees → ℕ
count no_tree = 0
count (tree value rest) = 1 + count rest

-- what can't be written of a call for the number of its arguments
abbrev pub arity_flaws : Trees → List Flaw
arity_flaws no_tree = arguments 0 ∷ []
arity_flaws (tree value no_tree) = []
arity_flaws (tree value (tree other rest)) = arguments (count (tree value (tree other rest))) ∷ []

-- what can't be written of a record for its keys
abbrev pub key_flaws : Entries → List Flaw
key_flaws no_entry = []
key_flaws (entry name value no_entry) = cond (is_among name value_keys) (lone_key name ∷ []) []
key_flaws (entry name value (entry other it rest)) = []

unfoldable mutual
  -- what can't be written of a value
  pub value_flaws : Tree → List Flaw
  value_flaws (truth_value b) = []
  value_flaws (number_value z) = []
  value_flaws (text_value text) = []
  value_flaws (uid_value uid) = []
  value_flaws (set_value values) = values_flaws values
  value_flaws (map_value values) = key_flaws values ++ entries_flaws values
  value_flaws (call_value function args) = arity_flaws args ++ values_flaws args

  -- what can't be written of some values
  pub values_flaws : Trees → List Flaw
  values_flaws no_tree = []
  values_flaws (tree value rest) = value_flaws value ++ values_flaws rest

  -- what can't be written of values by text
  pub entries_flaws : Entries → List Flaw
  entries_flaws no_entry = []
  entries_flaws (entry name value rest) = value_flaws value ++ entries_flaws rest

-- what can't be written of what may be there
abbrev pub flaws_in : {A : Type 0} → (A → List Flaw) → Option A → List Flaw
flaws_in flaws None = []
flaws_in flaws (Some it) = flaws it

-- what can't be written of what is declared of an entity type
abbrev pub body_flaws : EntityBody → List Flaw
body_flaws (standard parents shape tags) = type_flaws shape ++ flaws_in type_flaws tags
body_flaws (enumerated ids) = []
body_flaws (external parents) = []

-- what can't be written of the requests that an action is for
abbrev pub requests_flaws : Requests → List Flaw
requests_flaws (requests principals resources context) = type_flaws context
requests_flaws elsewhere = []

-- what can't be written of an action's attributes
abbrev pub pairs_flaws : Pairs → List Flaw
pairs_flaws pairs = entries_flaws (entries_from pairs)

-- what can't be written of an action
abbrev pub action_flaws : WrittenAction → List Flaw
action_flaws it =
    flaws_in requests_flaws it.applies_to ++ flaws_in pairs_flaws it.attributes

-- what can't be written of declarations
abbrev pub declared_flaws : {K A : Type 0} → (A → List Flaw) → List (K × A) → List Flaw
declared_flaws flaws entries = flat_map (λ entry. flaws entry.1) entries

-- what can't be written of the definition of a namespace
abbrev pub definition_flaws : WrittenDefinition → List Flaw
definition_flaws it =
    declared_flaws type_flaws it.common_types
    ++ (declared_flaws (λ entity. body_flaws entity.body) it.entity_types
    ++ declared_flaws action_flaws it.actions)

-- what can't be written of a fragment for its parts
abbrev pub parts_flaws : WrittenFragment → List Flaw
parts_flaws it = declared_flaws definition_flaws it

-- whether a fragment's object nests deeper than is read
abbrev pub nesting_flaws : WrittenFragment → List Flaw
nesting_flaws it = cond (nat_lt max_depth (depth (fragment_document it))) (nesting ∷ []) []

-- what can't be written of a fragment
abbrev pub fragment_flaws : WrittenFragment → List Flaw
fragment_flaws it = parts_flaws it ++ nesting_flaws it

-- the fragment can be written
abbrev pub IsWritable : WrittenFragment → Type 0
IsWritable it = fragment_flaws it ≡ []
