-- What the plain data of each fragment of the library holds to.
use Rattle.std.specs.List.Sorted.{IsStrictlySortedBy}
use Rattle.std.specs.Option.{option_cmp}
use Rattle.std.specs.Prelude.{◌≡◌, ◌≢◌, true, List, [], ◌∷◌, Option, Some, None, ⊤, map}
use Rattle.cedar_ast.specs.Words.{Entries, IsOfIdentifiers, IsReserved, PlainName, Text, Tree, Trees, call_value, entries_from, entry, entry_names, map_value, name_cmp, no_entry, no_tree, number_value, set_value, text_cmp, text_value, tree, truth_value, uid_value}
use Rattle.cedar_json.specs.Words.{Pairs, WrittenAction, WrittenDefinition, WrittenFragment, WrittenParent, common_key, id_key, is_long, is_unreserved}
use Rattle.cedar_schema_ast.specs.Expr.{Members as AttributeList, no_member as no_attribute, member as attribute}
use Rattle.cedar_schema_ast.specs.Words.{EntityBody, Expr, Reference, Requests, elsewhere, enumerated, extension_expr, external, long_expr, named, record_expr, reference_to, requests, set_expr, standard, text_expr, truth_expr}
use Rattle.cedar_schema_ast.specs.declared.json_schema.reference_type.ReferenceType.TheVariants.{Entity}

-- the reference is a name as it was written
abbrev pub IsWrittenReference : Reference → Type 0
IsWrittenReference reference =
    (name : PlainName) × IsOfIdentifiers name × (reference ≡ reference_to None reference.kind name)

-- the reference is a name of an entity type as it was written
abbrev pub IsWrittenEntity : Reference → Type 0
IsWrittenEntity reference =
    (name : PlainName) × IsOfIdentifiers name × (reference ≡ reference_to None Entity name)

-- the name is of identifiers and not reserved
abbrev pub IsPlain : PlainName → Type 0
IsPlain name = IsOfIdentifiers name × ¬ IsReserved name

-- the names of attributes
abbrev pub attribute_names : AttributeList → List Text
attribute_names no_attribute = []
attribute_names (attribute name required ty rest) = name ∷ attribute_names rest

unfoldable mutual
  -- the names of a type are names, and attributes stand in the order of theirs
  pub SoundType : Expr → Type 0
  SoundType text_expr = ⊤
  SoundType long_expr = ⊤
  SoundType truth_expr = ⊤
  SoundType (set_expr element) = SoundType element
  SoundType (record_expr all additional) =
      IsStrictlySortedBy text_cmp (attribute_names all) × SoundAttributes all
  SoundType (named reference) = IsWrittenReference reference
  SoundType (extension_expr name) = is_unreserved name ≡ true

  -- the types of attributes are so
  pub SoundAttributes : AttributeList → Type 0
  SoundAttributes no_attribute = ⊤
  SoundAttributes (attribute name required ty rest) = SoundType ty × SoundAttributes rest

unfoldable mutual
  -- the numbers of a value have 64 bits, its names aren't reserved, and records are in order
  pub SoundValue : Tree → Type 0
  SoundValue (truth_value b) = ⊤
  SoundValue (number_value z) = is_long z ≡ true
  SoundValue (text_value text) = ⊤
  SoundValue (uid_value uid) = IsPlain uid.ty
  SoundValue (set_value values) = SoundValues values
  SoundValue (map_value values) =
      IsStrictlySortedBy text_cmp (entry_names values) × SoundEntries values
  SoundValue (call_value function args) = IsPlain function × SoundValues args

  -- some values are so
  pub SoundValues : Trees → Type 0
  SoundValues no_tree = ⊤
  SoundValues (tree value rest) = SoundValue value × SoundValues rest

  -- the values at some texts are so
  pub SoundEntries : Entries → Type 0
  SoundEntries no_entry = ⊤
  SoundEntries (entry name value rest) = SoundValue value × SoundEntries rest

-- what holds of what may be there
abbrev pub IfThere : {A : Type 0} → (A → Type 0) → Option A → Type 0
IfThere P None = ⊤
IfThere P (Some it) = P it

-- what holds of each item of a list
abbrev pub Each : {A : Type 0} → (A → Type 0) → List A → Type 0
Each P [] = ⊤
Each P (first ∷ rest) = P first × Each P rest

-- what is declared of an entity type is sound, as it was written
abbrev pub SoundBody : EntityBody → Type 0
SoundBody (standard parents shape tags) =
    Each IsWrittenEntity parents × SoundType shape × IfThere SoundType tags
SoundBody (enumerated ids) = ids ≢ []
SoundBody (external parents) = ⊥

-- a parent of an action is sound
abbrev pub SoundParent : WrittenParent → Type 0
SoundParent it = IfThere IsWrittenEntity it.1

-- the requests that an action is for are sound, as they were written
abbrev pub SoundRequests : Requests → Type 0
SoundRequests (requests principals resources context) =
    Each IsWrittenEntity principals × Each IsWrittenEntity resources × SoundType context
SoundRequests elsewhere = ⊥

-- attributes are sound, in the order of their names
abbrev pub SoundPairs : Pairs → Type 0
SoundPairs pairs = SoundValue (map_value (entries_from pairs))

-- an action is sound
pub record SoundAction (it : WrittenAction) : Type 0 where
  pub attributes : IfThere SoundPairs it.attributes
  pub applies_to : IfThere SoundRequests it.applies_to
  pub member_of : IfThere (Each SoundParent) it.member_of

-- declarations stand in the order of their ids, each under an id, and each is sound
pub record SoundDeclarations {A : Type 0} (key : Text → Option Text) (Sound : A → Type 0)
    (entries : List (Text × A)) : Type 0 where
  pub in_order : IsStrictlySortedBy text_cmp (map (λ entry. entry.0) entries)
  pub under_ids : Each (λ entry. key entry.0 ≡ Some entry.0) entries
  pub each : Each (λ entry. Sound entry.1) entries

-- a definition is sound
pub record SoundDefinition (it : WrittenDefinition) : Type 0 where
  pub common_types : SoundDeclarations common_key SoundType it.common_types
  pub entity_types : SoundDeclarations id_key (λ entity. SoundBody entity.body) it.entity_types
  pub actions : SoundDeclarations Some SoundAction it.actions

-- namespaces stand in the order of their names, which aren't reserved, and each is sound
pub record SoundFragment (it : WrittenFragment) : Type 0 where
  pub in_order : IsStrictlySortedBy (option_cmp name_cmp) (map (λ entry. entry.0) it)
  pub named : Each (λ entry. IfThere IsPlain entry.0) it
  pub each : Each (λ entry. SoundDefinition entry.1) it
