-- What pieces spell.
use Rattle.std.proofs.Common.{◌≡◌, ℕ, zero, suc, List, [], ◌∷◌, ◌++◌, codes, refl, ap, sym, ◌∙◌, append_assoc, append-nil}
use Rattle.std.proofs.lemmas.Grind.{flat_map-append}
use Rattle.std.specs.List.{flat_map}
use Rattle.cedar_ast.specs.Words.{PlainName, Text, name_text}
use Rattle.cedar_schema_text_writer.specs.Pieces.{Piece, indent, path_pieces, sign, spelled, text_of, word}

-- two blanks behind others
pub indent_more : (level : ℕ) → indent level ++ 32 ∷ 32 ∷ [] ≡ indent (suc level)
indent_more zero = refl
indent_more (suc level) = ap (λ (t : Text). 32 ∷ 32 ∷ t) (indent_more level)

-- an identifier of a path, with `::` behind it
abbrev part_pieces : Text → List Piece
part_pieces part = word part ∷ sign (codes "::") ∷ []

parts_text : (parts : List Text) → text_of (flat_map part_pieces parts) ≡ flat_map (λ part. part ++ codes "::") parts
parts_text [] = refl
parts_text (part ∷ rest) =
    sym (append_assoc part (codes "::") (text_of (flat_map part_pieces rest)))
    ∙ ap (λ (t : Text). (part ++ codes "::") ++ t) (parts_text rest)

-- a name's pieces spell the name as it is printed
pub path_text : (name : PlainName) → text_of (path_pieces name) ≡ name_text name
path_text name =
    flat_map-append spelled (flat_map part_pieces name.path) (word name.base ∷ [])
    ∙ ap (λ (t : Text). t ++ (name.base ++ [])) (parts_text name.path)
    ∙ ap (λ (t : Text). flat_map (λ part. part ++ codes "::") name.path ++ t) (append-nil name.base)

-- a level more of blanks behind a line end
pub indent_turn : (old out new : Text) (n m : ℕ) → m ≡ suc n → out ≡ old ++ 10 ∷ indent n → new ≡ out ++ 32 ∷ 32 ∷ [] → new ≡ old ++ 10 ∷ indent m
indent_turn old out new n m next so_far added =
    added ∙ ap (λ (t : Text). t ++ 32 ∷ 32 ∷ []) so_far ∙ append_assoc old (10 ∷ indent n) (32 ∷ 32 ∷ [])
    ∙ ap (λ (t : Text). old ++ 10 ∷ t) (indent_more n ∙ ap indent (sym next))
