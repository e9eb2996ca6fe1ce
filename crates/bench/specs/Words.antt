use Rattle.std.specs.Borrow.{Bor}
use Rattle.std.specs.Prelude.{◌≡◌, ◌⊎◌, ℕ, List, [], ◌∷◌, codes, IsTrue}
use Rattle.cedar_ast.specs.Text.{Text}
pub use Rattle.cedar_json.specs.Fields.{is_among}
use Rattle.bench.specs.declared.piece.Piece.{Piece}

-- the names of the pieces of work, in the order in which they are measured
abbrev pub piece_names : List Text
piece_names =
    codes "subtype-closed-strict" ∷ codes "subtype-closed-permissive"
    ∷ codes "subtype-open-strict" ∷ codes "subtype-open-permissive" ∷ codes "look-up"
    ∷ codes "membership" ∷ codes "print" ∷ codes "equality" ∷ codes "copy"
    ∷ codes "union-inclusion" ∷ codes "union-disjointness" ∷ codes "union-joins"
    ∷ codes "join-strict" ∷ codes "join-permissive" ∷ codes "separation" ∷ codes "build-whole"
    ∷ codes "build-split" ∷ codes "build-common-chain" ∷ codes "close-chain" ∷ codes "close-ring"
    ∷ codes "close-star" ∷ codes "close-trees" ∷ codes "schema-look-up" ∷ codes "look-up-lacking"
    ∷ codes "look-up-hashed" ∷ codes "look-up-flood" ∷ codes "look-up-apart"
    ∷ codes "environments" ∷ codes "known-attributes" ∷ codes "validate" ∷ codes "write-back"
    ∷ codes "build-environments" ∷ codes "build-flood" ∷ codes "build-table-flood"
    ∷ codes "build-apart" ∷ codes "copy-schema" ∷ codes "compare-same" ∷ codes "compare-changed"
    ∷ codes "scale" ∷ codes "parse-json" ∷ codes "read-json" ∷ codes "read-text"
    ∷ codes "write-json" ∷ []

-- the name of a row of the table of pieces
abbrev pub piece_name : Bor (List ℕ) × Piece × Bor (List (ℕ × ℕ)) → Text
piece_name row = row.0.now

-- the text is the name of a piece of work
abbrev pub IsPieceName : Text → Type 0
IsPieceName text = IsTrue (is_among text piece_names)

-- the words ask for a piece of work to be timed
pub record IsTimeOfPiece (words : List Text) : Type 0 where
  pub piece : Text
  pub is_piece : IsPieceName piece
  pub asked : words ≡ codes "time" ∷ piece ∷ []

-- the words ask for all pieces of work to be timed beside earlier figures
pub record IsComparison (words : List Text) : Type 0 where
  pub file : Text
  pub asked : words ≡ codes "time" ∷ codes "beside" ∷ file ∷ []

-- the words ask for a piece of work to be timed beside earlier figures
pub record IsComparisonOfPiece (words : List Text) : Type 0 where
  pub piece : Text
  pub is_piece : IsPieceName piece
  pub file : Text
  pub asked : words ≡ codes "time" ∷ piece ∷ codes "beside" ∷ file ∷ []

-- the words give a command: none at all, or `time`, which may be followed by the name of a piece,
-- and then by `beside` and the name of a file
abbrev pub IsCommand : List Text → Type 0
IsCommand words =
    (words ≡ []) ⊎ ((words ≡ codes "time" ∷ [])
    ⊎ (IsTimeOfPiece words ⊎ (IsComparison words ⊎ IsComparisonOfPiece words)))
