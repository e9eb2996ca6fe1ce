-- What a refusal says of the tokens.
use Rattle.std.specs.Prelude.{◌≡◌, ℕ, ◌-◌, ◌<◌, List, [], ◌∷◌, ◌++◌, length, drop, ⊤, codes}
use Rattle.cedar_ast.specs.declared.loc.Loc.{Loc}
use Rattle.cedar_schema_tokens.specs.Token.{Token}
use Rattle.cedar_schema_tokens.specs.declared.token.Symbol.TheVariants as sign
use Rattle.cedar_schema_grammar.specs.declared.fault.GrammarFault.{GrammarFault}
use Rattle.cedar_schema_grammar.specs.declared.fault.GrammarFault.TheVariants.{Memory, Unexpected, TooDeep}
use Rattle.cedar_schema_grammar.specs.declared.fault.Stop.{Stop}
use Rattle.cedar_schema_grammar.specs.declared.fault.Stop.TheVariants as stop
use Rattle.cedar_schema_grammar.specs.Tree.{Member, highest, level_of_member}
use Rattle.cedar_schema_grammar.specs.Grammar.{IsSchema, mark, word, ◌then◌, ◌or◌}

-- the place of the first token, or this one where there is none
abbrev pub first_or : Loc → List Token → Loc
first_or end [] = end
first_or end (t ∷ ts) = t.loc

-- the place of the token with which so many are left
abbrev pub loc_at : Loc → ℕ → List Token → Loc
loc_at end left ts = first_or end (drop (length ts - left) ts)

-- both begin with the same token, or both are none
abbrev pub Peek : List Token → List Token → Type 0
Peek [] [] = ⊤
Peek [] (u ∷ us) = ⊥
Peek (t ∷ ts) [] = ⊥
Peek (t ∷ ts) (u ∷ us) = t ≡ u

-- The tokens before the place and the one there begin no schema, whatever its levels; at the end of
-- the text they are none.
abbrev pub BeginsNoSchema : Loc → List Token → Loc → Type 0
BeginsNoSchema end ts loc =
    (before : List Token) × (rest : List Token) × (ts ≡ before ++ rest) × (loc ≡ first_or end rest)
    × ((others : List Token) → Peek rest others → (members : List Member)
    → IsSchema members (before ++ others) → ⊥)

-- a set or a record begins
abbrev pub BeginsLevel : List Token → Type 0
BeginsLevel ts = (rest : List Token)
    × (mark sign.OpenBrace or word (codes "Set") then mark sign.Less) ts rest

-- A set or a record begins at the place, and each schema that begins with the tokens before it and
-- one there has types beyond the limit.
abbrev pub BeginsDeeper : ℕ → Loc → List Token → Loc → Type 0
BeginsDeeper limit end ts loc =
    (before : List Token) × (rest : List Token) × (ts ≡ before ++ rest) × (loc ≡ first_or end rest)
    × BeginsLevel rest × ((others : List Token) → Peek rest others → BeginsLevel others
    → (members : List Member) → IsSchema members (before ++ others)
    → limit < highest level_of_member members)

-- no schema goes on so, or none does within the limit
abbrev pub Refuses : ℕ → Loc → List Token → GrammarFault → Type 0
Refuses limit end ts Memory = ⊤
Refuses limit end ts (Unexpected loc) = BeginsNoSchema end ts loc
Refuses limit end ts (TooDeep loc) = BeginsDeeper limit end ts loc

-- why reading stopped, with its place
abbrev pub located : Loc → List Token → Stop → GrammarFault
located end ts stop.Memory = Memory
located end ts (stop.Unexpected left) = Unexpected (loc_at end left ts)
located end ts (stop.TooDeep left) = TooDeep (loc_at end left ts)
