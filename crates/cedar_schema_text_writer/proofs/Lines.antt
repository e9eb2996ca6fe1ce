-- Declarations and namespaces that are written one after another.
use Rattle.std.proofs.Common.{◌≡◌, ℕ, Bool, true, Option, Some, List, [], ◌∷◌, ◌++◌, cond, codes, string_bytes, refl, ap, sym, subst, ◌∙◌, append_assoc, append-nil}
use Rattle.std.specs.Option.{option_map}
use Rattle.std.specs.declared.alloc.Global.{Global}
use Rattle.std.specs.declared.string.String.{String}
use Rattle.cedar_ast.specs.Words.{PlainName, Text, plain_name}
use Rattle.cedar_ast.specs.declared.unreserved_id.UnreservedId.{UnreservedId}
use Rattle.cedar_schema_ast.specs.Words.{common_type_text, unreserved_id_text}
use Rattle.cedar_ast.specs.declared.name.Name.{Name}
use Rattle.cedar_schema_ast.specs.declared.json_schema.action_type.ActionType.{ActionType}
use Rattle.cedar_schema_ast.specs.declared.json_schema.common_type_id.CommonTypeId.{CommonTypeId}
use Rattle.cedar_schema_ast.specs.declared.json_schema.entity_type.EntityType.{EntityType}
use Rattle.cedar_schema_ast.specs.declared.json_schema.fragment.CommonType.{CommonType}
use Rattle.cedar_schema_ast.specs.declared.json_schema.fragment.NamespaceDefinition.{NamespaceDefinition}
use Rattle.cedar_schema_ast.specs.declared.json_schema.raw_name.RawName.{RawName}
use Rattle.cedar_schema_text_writer.proofs.Written.{adds_more}
use Rattle.cedar_schema_text_writer.specs.Layout.{action_pieces, applies_to_pieces, begun_after, begun_by, block_pieces, common_pieces, definition_pieces, entity_pieces, external_pieces, kind_pieces, lines_pieces, member_of_pieces, namespace_pieces, namespaces_pieces, written_pieces}
use Rattle.cedar_schema_text_writer.specs.Names.{First}
use Rattle.cedar_schema_text_writer.specs.Pieces.{Adds, Piece, blank, line, path_pieces, sign, word}
use Rattle.cedar_schema_text_writer.specs.TypeLayout.{name_piece}

-- a declaration on a line of its own stands before the others
pub lines_more : {K T : Type 0} (pieces : K → T → List Piece) (level : ℕ) (begun : Bool) (id : K) (it : T) (left rest : List (K × T)) → left ≡ (id, it) ∷ rest
    → lines_pieces pieces level begun left ≡ (cond begun (line level ∷ []) [] ++ pieces id it) ++ lines_pieces pieces level true rest
lines_more pieces level begun id it left rest is =
    ap (lines_pieces pieces level begun) is
    ∙ sym (append_assoc (cond begun (line level ∷ []) []) (pieces id it) (lines_pieces pieces level true rest))

-- what has begun goes on
begun_already : {A : Type 0} (items : List A) → begun_by true items ≡ true
begun_already [] = refl
begun_already (item ∷ items) = refl

-- whether something stands behind some items is known once the first is written
pub begun_more : {A : Type 0} (begun : Bool) (item : A) (left rest : List A) (behind : Bool) → left ≡ item ∷ rest → begun_by begun left ≡ behind
    → begun_by true rest ≡ behind
begun_more begun item left rest behind is so_far = begun_already rest ∙ (sym (ap (begun_by begun) is) ∙ so_far)

-- a word that is added as it is
pub word_added : (old new : String Global) (text given : Text) → given ≡ text → string_bytes new ≡ string_bytes old ++ given
    → Adds old new (word text ∷ [])
word_added old new text given is added =
    added ∙ ap (λ (t : Text). string_bytes old ++ t) (is ∙ sym (append-nil text))

-- definitions that are written beside what is known
module _ (first : First) where
  -- the parts of a common type's declaration one behind another
  pub common_written : (namespace : Option PlainName) (level : ℕ) (id : CommonTypeId) (it : CommonType RawName)
      (old begun named defined typed new : String Global) → Adds old begun (word (codes "type") ∷ blank ∷ [])
      → Adds begun named (word (common_type_text id) ∷ []) → Adds named defined (blank ∷ sign (codes "=") ∷ blank ∷ [])
      → Adds defined typed (written_pieces first namespace level it.ty) → Adds typed new (sign (codes ";") ∷ [])
      → Adds old new (common_pieces first namespace level id it)
  common_written namespace level id it old begun named defined typed new one two three four five =
      let name : List Piece = word (common_type_text id) ∷ [] in
      let middle : List Piece = blank ∷ sign (codes "=") ∷ blank ∷ [] in
      let ty : List Piece = written_pieces first namespace level it.ty in
      let closing : List Piece = sign (codes ";") ∷ [] in
      adds_more old begun new (word (codes "type") ∷ blank ∷ []) (name ++ (middle ++ (ty ++ closing))) one
      (adds_more begun named new name (middle ++ (ty ++ closing)) two
      (adds_more named defined new middle (ty ++ closing) three (adds_more defined typed new ty closing four five)))

  -- those of an entity type's declaration
  pub entity_written : (namespace : Option PlainName) (level : ℕ) (id : UnreservedId) (it : EntityType RawName)
      (old begun word_written named declared new : String Global) → Adds old begun (external_pieces it.external)
      → Adds begun word_written (word (codes "entity") ∷ blank ∷ []) → Adds word_written named (word (unreserved_id_text id) ∷ [])
      → Adds named declared (kind_pieces first namespace level it.kind) → Adds declared new (sign (codes ";") ∷ [])
      → Adds old new (entity_pieces first namespace level id it)
  entity_written namespace level id it old begun word_written named declared new one two three four five =
      let opening : List Piece = word (codes "entity") ∷ blank ∷ [] in
      let name : List Piece = word (unreserved_id_text id) ∷ [] in
      let body : List Piece = kind_pieces first namespace level it.kind in
      let closing : List Piece = sign (codes ";") ∷ [] in
      adds_more old begun new (external_pieces it.external) (opening ++ (name ++ (body ++ closing))) one
      (adds_more begun word_written new opening (name ++ (body ++ closing)) two
      (adds_more word_written named new name (body ++ closing) three (adds_more named declared new body closing four five)))

  -- those of an action's declaration
  pub action_written : (namespace : Option PlainName) (level : ℕ) (id : String Global) (it : ActionType RawName)
      (old begun word_written named listed applied new : String Global) → Adds old begun (external_pieces it.external)
      → Adds begun word_written (word (codes "action") ∷ blank ∷ []) → Adds word_written named (name_piece (string_bytes id) ∷ [])
      → Adds named listed (member_of_pieces it.member_of) → Adds listed applied (applies_to_pieces first namespace level it.applies_to)
      → Adds applied new (sign (codes ";") ∷ []) → Adds old new (action_pieces first namespace level id it)
  action_written namespace level id it old begun word_written named listed applied new one two three four five six =
      let opening : List Piece = word (codes "action") ∷ blank ∷ [] in
      let name : List Piece = name_piece (string_bytes id) ∷ [] in
      let parents : List Piece = member_of_pieces it.member_of in
      let requests : List Piece = applies_to_pieces first namespace level it.applies_to in
      let closing : List Piece = sign (codes ";") ∷ [] in
      adds_more old begun new (external_pieces it.external) (opening ++ (name ++ (parents ++ (requests ++ closing)))) one
      (adds_more begun word_written new opening (name ++ (parents ++ (requests ++ closing))) two
      (adds_more word_written named new name (parents ++ (requests ++ closing)) three
      (adds_more named listed new parents (requests ++ closing) four
      (adds_more listed applied new requests closing five six))))

  -- declarations of each kind behind those of another
  pub definition_written : (namespace : Option PlainName) (level : ℕ) (begun behind later : Bool) (it : NamespaceDefinition RawName)
      (old types entities new : String Global)
      → Adds old types (lines_pieces (common_pieces first namespace level) level begun it.common_types.entries)
      → behind ≡ begun_by begun it.common_types.entries
      → Adds types entities (lines_pieces (entity_pieces first namespace level) level behind it.entity_types.entries)
      → later ≡ begun_by behind it.entity_types.entries
      → Adds entities new (lines_pieces (action_pieces first namespace level) level later it.actions.entries)
      → Adds old new (definition_pieces first namespace level begun it)
  definition_written namespace level begun behind later it old types entities new one same two same_later three =
      let commons : List Piece = lines_pieces (common_pieces first namespace level) level begun it.common_types.entries in
      let entity_lines : Bool → List Piece = λ b. lines_pieces (entity_pieces first namespace level) level b it.entity_types.entries in
      let action_lines : Bool → List Piece = λ b. lines_pieces (action_pieces first namespace level) level b it.actions.entries in
      let later_same : later ≡ begun_by (begun_by begun it.common_types.entries) it.entity_types.entries =
      same_later ∙ ap (λ b. begun_by b it.entity_types.entries) same in
      subst (λ (ps : List Piece). Adds old new (commons ++ ps))
      (λ i. entity_lines (same i) ++ action_lines (later_same i))
      (adds_more old types new commons (entity_lines behind ++ action_lines later) one
      (adds_more types entities new (entity_lines behind) (action_lines later) two three))

  -- the parts of a block one behind another
  pub block_written : (namespace : Option PlainName) (name : PlainName) (it : NamespaceDefinition RawName)
      (old word_written path_written opened inside line_begun new : String Global) → namespace ≡ Some name
      → Adds old word_written (word (codes "namespace") ∷ blank ∷ []) → Adds word_written path_written (path_pieces name)
      → Adds path_written opened (blank ∷ sign (codes "{") ∷ []) → Adds opened inside (definition_pieces first namespace 1 true it)
      → Adds inside line_begun (line 0 ∷ []) → Adds line_begun new (sign (codes "}") ∷ [])
      → Adds old new (block_pieces first name it)
  block_written namespace name it old word_written path_written opened inside line_begun new is one two three four five six =
      let definition : List Piece = definition_pieces first (Some name) 1 true it in
      let closing : List Piece = line 0 ∷ sign (codes "}") ∷ [] in
      let opening : List Piece = blank ∷ sign (codes "{") ∷ [] in
      adds_more old word_written new (word (codes "namespace") ∷ blank ∷ []) (path_pieces name ++ (opening ++ (definition ++ closing))) one
      (adds_more word_written path_written new (path_pieces name) (opening ++ (definition ++ closing)) two
      (adds_more path_written opened new opening (definition ++ closing) three
      (adds_more opened inside new definition closing
      (subst (λ (it_is : Option PlainName). Adds opened inside (definition_pieces first it_is 1 true it)) is four)
      (adds_more inside line_begun new (line 0 ∷ []) (sign (codes "}") ∷ []) five six))))

  -- a namespace stands before the others
  pub namespaces_more : (begun behind : Bool) (namespace : Option Name) (it : NamespaceDefinition RawName)
      (left rest : List (Option Name × NamespaceDefinition RawName)) → left ≡ (namespace, it) ∷ rest
      → behind ≡ begun_after begun (option_map plain_name namespace) it
      → namespaces_pieces first begun left
      ≡ namespace_pieces first begun (option_map plain_name namespace) it ++ namespaces_pieces first behind rest
  namespaces_more begun behind namespace it left rest is after =
      ap (namespaces_pieces first begun) is
      ∙ ap (λ (b : Bool). namespace_pieces first begun (option_map plain_name namespace) it ++ namespaces_pieces first b rest) (sym after)
