-- Texts, with what they stand for and how they are refused.
use Rattle.std.proofs.Common.{◌≡◌, ◌≢◌, ◌<◌, ◌≤◌, ◌^◌, ℕ, List, [], ◌∷◌, ◌++◌, length, Contains, refl, ap, sym, subst, ◌∙◌, arith}
use Rattle.cedar_ast.specs.Words.{Text}
use Rattle.cedar_schema_grammar.proofs.Exact as schema
use Rattle.cedar_schema_grammar.specs.Exact.{Peek, Refuses}
use Rattle.cedar_schema_grammar.specs.Grammar.{IsSchema}
use Rattle.cedar_schema_grammar.specs.Tree.{Member, highest, level_of_member}
use Rattle.cedar_schema_grammar.specs.declared.fault.GrammarFault.{GrammarFault}
use Rattle.cedar_schema_grammar.specs.declared.fault.GrammarFault.TheVariants as grammar
use Rattle.cedar_schema_text.specs.Faults.{Fault, IsAmong, faults_in}
use Rattle.cedar_schema_text.specs.Meaning.{fragment_meant}
use Rattle.cedar_schema_text.specs.Placed.{FragmentAt}
use Rattle.cedar_schema_text.specs.TextFormat.{HasMembers, IsFaultOf, StandsFor, StandsForNone, end_of, highest_level}
use Rattle.cedar_schema_text.specs.Told.{of_grammar, of_meaning, of_tokens}
use Rattle.cedar_schema_text.specs.declared.fault.MeaningFault.{MeaningFault}
use Rattle.cedar_schema_text.specs.declared.fault.MeaningFault.TheVariants as meaning
use Rattle.cedar_schema_tokens.proofs.Exact as text
use Rattle.cedar_schema_tokens.specs.Refused.{HasNoTokens, IsRefused}
use Rattle.cedar_schema_tokens.specs.Token.{Token}
use Rattle.cedar_schema_tokens.specs.Written.{AreTokens}
use Rattle.cedar_schema_tokens.specs.declared.fault.TokenFault.{TokenFault}
use Rattle.cedar_schema_tokens.specs.declared.fault.TokenFault.TheVariants as token

-- a text is one schema at most
pub one_schema : (source : ℕ) (all : Text) (ms ns : List Member) → HasMembers source all ms → HasMembers source all ns → ms ≡ ns
one_schema source all ms ns h k =
    let same = text.one_reading source all h.tokens k.tokens h.are_tokens k.are_tokens in
    schema.one_reading ms ns k.tokens (subst (IsSchema ms) same h.is_schema) k.is_schema

-- and stands for one fragment at most
pub one_meaning : (source : ℕ) (all : Text) (it other : FragmentAt) → StandsFor source all it → StandsFor source all other → it ≡ other
one_meaning source all it other h k =
    h.is_meant ∙ ap fragment_meant (one_schema source all h.members k.members h.has_members k.has_members) ∙ sym k.is_meant

-- ---- a text that has no tokens

pub tokens_fault : (source : ℕ) (all : Text) (f : TokenFault) → IsRefused source all f → IsFaultOf source all (of_tokens f)
tokens_fault source all (token.BadCharacter loc) h = h
tokens_fault source all (token.OpenQuote loc) h = h
tokens_fault source all (token.BadEscape loc) h = h
tokens_fault source all token.TooLong h = h
tokens_fault source all token.Memory h = tt

pub tokens_exact : (source : ℕ) (all : Text) (f : TokenFault) → IsRefused source all f → HasNoTokens source all f
    → StandsForNone source all (of_tokens f)
tokens_exact source all (token.BadCharacter loc) h none other fragment it = none it.has_members.tokens it.has_members.are_tokens
tokens_exact source all (token.OpenQuote loc) h none other fragment it = none it.has_members.tokens it.has_members.are_tokens
tokens_exact source all (token.BadEscape loc) h none other fragment it = none it.has_members.tokens it.has_members.are_tokens
tokens_exact source all token.TooLong h none other fragment it = absurd (omega (arith, h, it.is_short))
tokens_exact source all token.Memory h none other fragment it = other refl

-- ---- a text whose tokens are no schema

same_peek : (ts : List Token) → Peek ts ts
same_peek [] = tt
same_peek (t ∷ ts) = refl

pub schema_fault : (source : ℕ) (all : Text) (ts : List Token) (f : GrammarFault) → AreTokens source all ts
    → Refuses highest_level (end_of source all) ts f → IsFaultOf source all (of_grammar f)
schema_fault source all ts (grammar.Unexpected loc) are h = (ts, are, h)
schema_fault source all ts (grammar.TooDeep loc) are h = (ts, are, h)
schema_fault source all ts grammar.Memory are h = tt

as_schema : (source : ℕ) (all : Text) (ts : List Token) (ms : List Member) → AreTokens source all ts → HasMembers source all ms → IsSchema ms ts
as_schema source all ts ms are h =
    subst (IsSchema ms) (text.one_reading source all h.tokens ts h.are_tokens are) h.is_schema

pub schema_exact : (source : ℕ) (all : Text) (ts : List Token) (f : GrammarFault) → AreTokens source all ts
    → Refuses highest_level (end_of source all) ts f → StandsForNone source all (of_grammar f)
schema_exact source all ts (grammar.Unexpected loc) are (before, rest, split, is, none) other fragment it =
    none rest (same_peek rest) it.members (subst (IsSchema it.members) split (as_schema source all ts it.members are it.has_members))
schema_exact source all ts (grammar.TooDeep loc) are (before, rest, split, is, begins, deeper) other fragment it =
    absurd (omega (arith, deeper rest (same_peek rest) begins it.members (subst (IsSchema it.members) split (as_schema source all ts it.members are it.has_members)), it.is_flat))
schema_exact source all ts grammar.Memory are h other fragment it = other refl

-- ---- a text in whose members something is at fault

pub meaning_fault : (source : ℕ) (all : Text) (ms : List Member) (f : MeaningFault) → HasMembers source all ms → IsAmong (faults_in ms) f
    → IsFaultOf source all (of_meaning f)
meaning_fault source all ms (meaning.Twice it) has h = (ms, has, h)
meaning_fault source all ms (meaning.Missing which loc) has h = (ms, has, h)
meaning_fault source all ms (meaning.Reserved loc) has h = (ms, has, h)
meaning_fault source all ms meaning.Memory has h = tt

none_there : (faults : List Fault) (it : Fault) → faults ≡ [] → Contains faults it → ⊥
none_there [] it e there = absurd (omega (arith, there.1))
none_there (x ∷ faults) it e there = absurd cc

faultless : (source : ℕ) (all : Text) (ms : List Member) (fragment : FragmentAt) → HasMembers source all ms → StandsFor source all fragment → faults_in ms ≡ []
faultless source all ms fragment has it =
    ap faults_in (one_schema source all ms it.members has it.has_members) ∙ it.is_faultless

pub meaning_exact : (source : ℕ) (all : Text) (ms : List Member) (f : MeaningFault) → HasMembers source all ms → IsAmong (faults_in ms) f
    → StandsForNone source all (of_meaning f)
meaning_exact source all ms (meaning.Twice it) has h other fragment for = none_there (faults_in ms) _ (faultless source all ms fragment has for) h
meaning_exact source all ms (meaning.Missing which loc) has h other fragment for = none_there (faults_in ms) _ (faultless source all ms fragment has for) h
meaning_exact source all ms (meaning.Reserved loc) has h other fragment for = none_there (faults_in ms) _ (faultless source all ms fragment has for) h
meaning_exact source all ms meaning.Memory has h other fragment for = other refl
