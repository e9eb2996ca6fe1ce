-- Places of single tokens and of paths before a text.
use Rattle.std.proofs.Common.{◌≡◌, ℕ, ◌-◌, List, [], ◌∷◌, ◌++◌, length, drop, refl, sym, ap, ap₂, ◌∙◌, arith, length-append}
use Rattle.cedar_ast.specs.declared.loc.Loc.{Loc}
use Rattle.cedar_schema_tokens.specs.Token.{ident, symbol, Token}
use Rattle.cedar_schema_tokens.specs.declared.token.Symbol.TheVariants as sign
use Rattle.cedar_schema_grammar.specs.Tree.{Path}
use Rattle.cedar_schema_grammar.specs.Grammar.{separated, word, IsPath, first_loc, span, between}

-- the last token before the rest
abbrev pub last_loc : List Token → List Token → Loc
last_loc ts rest = first_loc (drop ((length ts - length rest) - 1) ts)

pub past : (pre ys : List Token) → drop (length pre) (pre ++ ys) ≡ ys
past [] ys = refl
past (t ∷ pre) ys = past pre ys

pub last_is : (pre : List Token) (t : Token) (ts rest : List Token) → ts ≡ pre ++ t ∷ rest → t.loc ≡ last_loc ts rest
last_is pre t ts rest e =
    let all : List Token = pre ++ t ∷ rest in
    let many : (length all - length rest) - 1 ≡ length pre = omega (arith, length-append pre (t ∷ rest)) in
    sym (ap (λ us. last_loc us rest) e ∙ ap (λ n. first_loc (drop n all)) many ∙ ap first_loc (past pre (t ∷ rest)))

-- a single token stands at its place
pub alone : (t : Token) (ts rest : List Token) → ts ≡ t ∷ rest → t.loc ≡ between ts rest
alone t ts rest e = ap₂ span (sym (ap first_loc e)) (last_is [] t ts rest e)

-- from a first token to a last one
pub from_to : (first last : Loc) (ts rest : List Token) → first ≡ first_loc ts → last ≡ last_loc ts rest → span first last ≡ between ts rest
from_to first last ts rest e f = ap₂ span e f

-- a path goes before what stands behind it
ids_before : (ids : List (List ℕ)) (ts rest : List Token) → separated sign.PathSeparator word ids ts rest → (pre : List Token) × (ts ≡ pre ++ rest)
ids_before [] ts rest h = absurd h
ids_before (x ∷ []) ts rest h = (record { lexeme = ident x; loc = h.0 } ∷ [], h.1)
ids_before (x ∷ y ∷ ys) ts rest h =
    let more = ids_before (y ∷ ys) h.2.0 rest h.2.2 in
    let id : Token = record { lexeme = ident x; loc = h.1.0 } in
    let colons : Token = record { lexeme = symbol sign.PathSeparator; loc = h.2.1.0 } in
    (id ∷ colons ∷ more.0, h.1.1 ∙ ap (λ us. id ∷ us) (h.2.1.1 ∙ ap (λ us. colons ∷ us) more.1))

pub begun_path : (p : Path) (ts rest : List Token) → IsPath p ts rest → (pre : List Token) × (ts ≡ pre ++ rest)
begun_path p ts rest h = ids_before p.ids ts rest h.0
