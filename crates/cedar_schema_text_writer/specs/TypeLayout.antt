-- The pieces of types, on lines of a level (Cedar reference, schema format).
use Rattle.std.specs.Prelude.{ℕ, suc, List, [], ◌∷◌, ◌++◌, Bool, true, false, Option, cond, codes}
use Rattle.cedar_ast.specs.Words.{PlainName, Text}
use Rattle.cedar_schema_ast.specs.Words.{Expr, Members, Reference, extension_expr, long_expr, member, named, no_member, record_expr, set_expr, text_expr, truth_expr}
use Rattle.cedar_schema_text_writer.specs.Names.{First, built_in_written, is_bare, last_name}
use Rattle.cedar_schema_text_writer.specs.Pieces.{Piece, blank, line, path_pieces, quoted, sign, word}

-- the id of an action or the name of an attribute: an identifier where it can be one that policies
-- don't reserve, else a quoted text
abbrev pub name_piece : Text → Piece
name_piece text = cond (is_bare text) (word text) (quoted text)

-- a reference: the name that was written
abbrev pub reference_pieces : Reference → List Piece
reference_pieces reference = path_pieces (last_name reference.possibilities)

-- the mark of an attribute that may be absent
abbrev pub presence_pieces : Bool → List Piece
presence_pieces true = []
presence_pieces false = sign (codes "?") ∷ []

-- the bracket that closes a record: on a line of its own where there are attributes
abbrev pub close_pieces : ℕ → Members → List Piece
close_pieces level no_member = sign (codes "}") ∷ []
close_pieces level (member name required ty rest) = line level ∷ sign (codes "}") ∷ []

-- types that are written in a namespace, where it is known what names would name
module _ (first : First) (namespace : Option PlainName) where
  -- a built-in type
  abbrev pub built_in_pieces : Text → List Piece
  built_in_pieces text = path_pieces (built_in_written first namespace text)

  abbrev mutual
    -- a type: a name, `Set<..>`, or a record with its attributes one level further in
    pub type_pieces : ℕ → Expr → List Piece
    type_pieces level text_expr = built_in_pieces (codes "String")
    type_pieces level long_expr = built_in_pieces (codes "Long")
    type_pieces level truth_expr = built_in_pieces (codes "Bool")
    type_pieces level (extension_expr name) = built_in_pieces name
    type_pieces level (named reference) = reference_pieces reference
    type_pieces level (set_expr element) =
        word (codes "Set") ∷ sign (codes "<") ∷ (type_pieces level element ++ sign (codes ">") ∷ [])
    type_pieces level (record_expr all additional) =
        sign (codes "{") ∷ (members_pieces (suc level) all ++ close_pieces level all)

    -- attributes, a line each, with a comma behind each
    pub members_pieces : ℕ → Members → List Piece
    members_pieces level no_member = []
    members_pieces level (member name required ty rest) =
        line level ∷ name_piece name ∷ (presence_pieces required
        ++ (sign (codes ":") ∷ blank ∷ (type_pieces level ty
        ++ (sign (codes ",") ∷ members_pieces level rest))))

  -- an attribute, behind its name
  abbrev pub attribute_pieces : ℕ → Bool × Expr → List Piece
  attribute_pieces level it =
      presence_pieces it.0 ++ (sign (codes ":") ∷ blank ∷ (type_pieces level it.1
      ++ sign (codes ",") ∷ []))

-- the type is a record without attributes
abbrev pub is_empty_record : Expr → Bool
is_empty_record (record_expr no_member additional) = true
is_empty_record (record_expr (member name required ty rest) additional) = false
is_empty_record text_expr = false
is_empty_record long_expr = false
is_empty_record truth_expr = false
is_empty_record (set_expr element) = false
is_empty_record (named reference) = false
is_empty_record (extension_expr name) = false
