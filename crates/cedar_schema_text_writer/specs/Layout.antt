-- The pieces of declarations and of fragments (Cedar reference, schema format).
use Rattle.std.specs.Option.{option_map}
use Rattle.std.specs.Prelude.{ℕ, suc, List, [], ◌∷◌, ◌++◌, Bool, true, false, Option, None, Some, cond, codes, string_bytes}
use Rattle.std.specs.declared.alloc.Global.{Global}
use Rattle.std.specs.declared.string.String.{String}
use Rattle.std.specs.declared.vec.Vec.{Vec}
use Rattle.cedar_ast.specs.Words.{PlainName, Text, eid_text, items_of, plain_name}
use Rattle.cedar_ast.specs.declared.name.Name.{Name}
use Rattle.cedar_ast.specs.declared.unreserved_id.UnreservedId.{UnreservedId}
use Rattle.cedar_schema_ast.specs.Words.{common_type_text, raw_expr, raw_name, unreserved_id_text}
use Rattle.cedar_schema_ast.specs.declared.json_schema.action_type.ActionEntityUID.{ActionEntityUID}
use Rattle.cedar_schema_ast.specs.declared.json_schema.action_type.ActionType.{ActionType}
use Rattle.cedar_schema_ast.specs.declared.json_schema.action_type.ApplySpec.{ApplySpec}
use Rattle.cedar_schema_ast.specs.declared.json_schema.common_type_id.CommonTypeId.{CommonTypeId}
use Rattle.cedar_schema_ast.specs.declared.json_schema.entity_type.EntityType.{EntityType}
use Rattle.cedar_schema_ast.specs.declared.json_schema.entity_type.EntityTypeKind.{EntityTypeKind}
use Rattle.cedar_schema_ast.specs.declared.json_schema.entity_type.EntityTypeKind.TheVariants as kind
use Rattle.cedar_schema_ast.specs.declared.json_schema.fragment.CommonType.{CommonType}
use Rattle.cedar_schema_ast.specs.declared.json_schema.fragment.Fragment.{Fragment}
use Rattle.cedar_schema_ast.specs.declared.json_schema.fragment.NamespaceDefinition.{NamespaceDefinition}
use Rattle.cedar_schema_ast.specs.declared.json_schema.raw_name.RawName.{RawName}
use Rattle.cedar_schema_ast.specs.declared.json_schema.type_of.Type.{«Type»}
use Rattle.cedar_schema_text_writer.specs.Names.{First}
use Rattle.cedar_schema_text_writer.specs.Pieces.{Piece, blank, line, list_pieces, path_pieces, quoted, sign, word}
use Rattle.cedar_schema_text_writer.specs.TypeLayout.{is_empty_record, name_piece, type_pieces}

-- the word before a declaration of what is defined elsewhere
abbrev pub external_pieces : Bool → List Piece
external_pieces true = word (codes "external") ∷ blank ∷ []
external_pieces false = []

-- a name as it was written
abbrev pub raw_pieces : RawName → List Piece
raw_pieces name = path_pieces (raw_name name)

-- the parents of an entity type, where there are some
abbrev pub parents_pieces : List RawName → List Piece
parents_pieces [] = []
parents_pieces (first ∷ others) =
    blank ∷ word (codes "in") ∷ blank ∷ list_pieces raw_pieces (first ∷ others)

-- the id of a parent of an action, alone or behind its type
abbrev pub parent_pieces_by : Option RawName → Text → List Piece
parent_pieces_by None id = name_piece id ∷ []
parent_pieces_by (Some ty) id = raw_pieces ty ++ sign (codes "::") ∷ quoted id ∷ []

-- a parent of an action
abbrev pub parent_pieces : ActionEntityUID RawName → List Piece
parent_pieces it = parent_pieces_by it.ty (string_bytes it.id)

-- the parents of an action, where they are listed
abbrev pub member_of_pieces : Option (Vec (ActionEntityUID RawName) Global) → List Piece
member_of_pieces None = []
member_of_pieces (Some parents) =
    blank ∷ word (codes "in") ∷ blank ∷ list_pieces parent_pieces parents.items

-- a part that lists types, on a line of its own
abbrev pub types_pieces : ℕ → Text → List RawName → List Piece
types_pieces level text types =
    line level ∷ word text ∷ sign (codes ":") ∷ blank
    ∷ (list_pieces raw_pieces types ++ sign (codes ",") ∷ [])

-- declarations that are written in a namespace, where it is known what names would name
module _ (first : First) (namespace : Option PlainName) where
  -- a type
  abbrev pub written_pieces : ℕ → «Type» RawName → List Piece
  written_pieces level ty = type_pieces first namespace level (raw_expr namespace ty)

  -- a shape, where it has attributes
  abbrev pub shape_pieces : ℕ → «Type» RawName → List Piece
  shape_pieces level ty =
      cond (is_empty_record (raw_expr namespace ty)) []
      (blank ∷ sign (codes "=") ∷ blank ∷ written_pieces level ty)

  -- the type of the tags, where there is one
  abbrev pub tags_pieces : ℕ → Option («Type» RawName) → List Piece
  tags_pieces level None = []
  tags_pieces level (Some ty) = blank ∷ word (codes "tags") ∷ blank ∷ written_pieces level ty

  -- what is declared of an entity type: its choices; or its parents, its shape and its tags
  abbrev pub kind_pieces : ℕ → EntityTypeKind RawName → List Piece
  kind_pieces level (kind.Enum choices) =
      blank ∷ word (codes "enum") ∷ blank
      ∷ list_pieces (λ id. quoted (eid_text id) ∷ []) (items_of choices)
  kind_pieces level (kind.Standard it) =
      parents_pieces it.member_of_types.items
      ++ (shape_pieces level it.shape.0 ++ tags_pieces level it.tags)

  -- a context on a line of its own, where it isn't a record without attributes
  abbrev pub context_pieces : ℕ → «Type» RawName → List Piece
  context_pieces level ty =
      cond (is_empty_record (raw_expr namespace ty)) []
      (line level ∷ word (codes "context") ∷ sign (codes ":") ∷ blank
      ∷ (written_pieces level ty ++ sign (codes ",") ∷ []))

  -- the parts of the requests that an action is for
  abbrev pub parts_pieces : ℕ → ApplySpec RawName → List Piece
  parts_pieces level it =
      types_pieces level (codes "principal") it.principal_types.items
      ++ (types_pieces level (codes "resource") it.resource_types.items
      ++ context_pieces level it.context.0)

  -- the requests that an action is for, where they are declared
  abbrev pub applies_to_pieces : ℕ → Option (ApplySpec RawName) → List Piece
  applies_to_pieces level None = []
  applies_to_pieces level (Some it) =
      blank ∷ word (codes "appliesTo") ∷ blank ∷ sign (codes "{")
      ∷ (parts_pieces (suc level) it ++ line level ∷ sign (codes "}") ∷ [])

  -- the declaration of a common type
  abbrev pub common_pieces : ℕ → CommonTypeId → CommonType RawName → List Piece
  common_pieces level id it =
      word (codes "type") ∷ blank ∷ word (common_type_text id) ∷ blank ∷ sign (codes "=") ∷ blank
      ∷ (written_pieces level it.ty ++ sign (codes ";") ∷ [])

  -- the declaration of an entity type
  abbrev pub entity_pieces : ℕ → UnreservedId → EntityType RawName → List Piece
  entity_pieces level id it =
      external_pieces it.external
      ++ (word (codes "entity") ∷ blank ∷ word (unreserved_id_text id)
      ∷ (kind_pieces level it.kind ++ sign (codes ";") ∷ []))

  -- the declaration of an action
  abbrev pub action_pieces : ℕ → String Global → ActionType RawName → List Piece
  action_pieces level id it =
      external_pieces it.external
      ++ (word (codes "action") ∷ blank ∷ name_piece (string_bytes id)
      ∷ (member_of_pieces it.member_of
      ++ (applies_to_pieces level it.applies_to ++ sign (codes ";") ∷ [])))

-- declarations of one kind, a line each; the first of them begins a line where something stands
-- before it
abbrev pub lines_pieces : {K T : Type 0} → (K → T → List Piece) → ℕ → Bool → List (K × T)
    → List Piece
lines_pieces pieces level begun [] = []
lines_pieces pieces level begun (entry ∷ rest) =
    cond begun (line level ∷ []) []
    ++ (pieces entry.0 entry.1 ++ lines_pieces pieces level true rest)

-- something stands before what follows some declarations
abbrev pub begun_by : {A : Type 0} → Bool → List A → Bool
begun_by begun [] = begun
begun_by begun (first ∷ rest) = true

-- something stands before what follows a definition
abbrev pub begun_behind : Bool → NamespaceDefinition RawName → Bool
begun_behind begun it =
    begun_by (begun_by (begun_by begun it.common_types.entries) it.entity_types.entries)
    it.actions.entries

-- something stands before what follows a namespace
abbrev pub begun_after : Bool → Option PlainName → NamespaceDefinition RawName → Bool
begun_after begun None it = begun_behind begun it
begun_after begun (Some name) it = true

-- an empty line, where something stands before it
abbrev pub gap_pieces : Bool → List Piece
gap_pieces begun = cond begun (line 0 ∷ line 0 ∷ []) []

module _ (first : First) where
  -- the declarations of a definition: its common types, its entity types and its actions
  abbrev pub definition_pieces : Option PlainName → ℕ → Bool → NamespaceDefinition RawName
      → List Piece
  definition_pieces namespace level begun it =
      let types = it.common_types.entries in
      let entities = it.entity_types.entries in
      let behind = begun_by begun types in
      lines_pieces (common_pieces first namespace level) level begun types
      ++ (lines_pieces (entity_pieces first namespace level) level behind entities
      ++ lines_pieces (action_pieces first namespace level) level (begun_by behind entities)
      it.actions.entries)

  -- the block of a namespace, with its declarations one level further in
  abbrev pub block_pieces : PlainName → NamespaceDefinition RawName → List Piece
  block_pieces name it =
      word (codes "namespace") ∷ blank ∷ (path_pieces name
      ++ (blank ∷ sign (codes "{") ∷ (definition_pieces (Some name) 1 true it
      ++ line 0 ∷ sign (codes "}") ∷ [])))

  -- a namespace: its block behind an empty line, or the declarations of the empty one outside of
  -- any block
  abbrev pub namespace_pieces : Bool → Option PlainName → NamespaceDefinition RawName → List Piece
  namespace_pieces begun None it = definition_pieces None 0 begun it
  namespace_pieces begun (Some name) it = gap_pieces begun ++ block_pieces name it

  -- namespaces, in order
  abbrev pub namespaces_pieces : Bool → List (Option Name × NamespaceDefinition RawName)
      → List Piece
  namespaces_pieces begun [] = []
  namespaces_pieces begun (entry ∷ rest) =
      let name = option_map plain_name entry.0 in
      namespace_pieces begun name entry.1
      ++ namespaces_pieces (begun_after begun name entry.1) rest

  -- a fragment
  abbrev pub fragment_pieces : Fragment RawName → List Piece
  fragment_pieces it = namespaces_pieces false it.0.entries
