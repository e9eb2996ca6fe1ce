-- Which fragments texts stand for, and what a refusal says of a text.
use Rattle.std.specs.Prelude.{◌≡◌, ◌≢◌, ◌<◌, ◌≤◌, ◌^◌, ℕ, List, [], length, Contains, string_bytes, ⊤}
use Rattle.std.specs.Str.{IsUtf8}
use Rattle.std.specs.Str.Lossy.{utf8_valid_len}
use Rattle.cedar_ast.specs.Words.{Text}
use Rattle.cedar_ast.specs.declared.loc.Loc.{Loc}
use Rattle.cedar_schema_grammar.specs.Exact.{BeginsDeeper, BeginsNoSchema}
use Rattle.cedar_schema_grammar.specs.Grammar.{IsSchema}
use Rattle.cedar_schema_grammar.specs.Tree.{Member, highest, level_of_member}
use Rattle.cedar_schema_text.specs.Faults.{Fault, faults_in, lacking, reserved, twice}
use Rattle.cedar_schema_text.specs.Meaning.{fragment_meant}
use Rattle.cedar_schema_text.specs.Placed.{FragmentAt}
use Rattle.cedar_schema_text.specs.declared.text_reading.TextFault.{TextFault}
use Rattle.cedar_schema_text.specs.declared.text_reading.TextFault.TheVariants as fault
use Rattle.cedar_schema_tokens.specs.Refused.{IsRefused}
use Rattle.cedar_schema_tokens.specs.Token.{Token}
use Rattle.cedar_schema_tokens.specs.Written.{AreTokens}
use Rattle.cedar_schema_tokens.specs.declared.fault.TokenFault.TheVariants as token

-- the highest level of types that is read
abbrev pub highest_level : ℕ
highest_level = 128

-- the place behind a text
abbrev pub end_of : ℕ → Text → Loc
end_of source text = record { source = source; start = length text; stop = length text }

-- the text has tokens, and these are a schema
pub record HasMembers (source : ℕ) (text : Text) (members : List Member) : Type 0 where
  pub tokens : List Token
  pub are_tokens : AreTokens source text tokens
  pub is_schema : IsSchema members tokens

-- the text is short enough, is UTF-8 and is a schema whose types aren't too deep; nothing is at
-- fault in its members, and these stand for the fragment
pub record StandsFor (source : ℕ) (text : Text) (fragment : FragmentAt) : Type 0 where
  pub members : List Member
  pub is_short : length text < 2 ^ 32
  pub is_utf8 : IsUtf8 text
  pub has_members : HasMembers source text members
  pub is_flat : highest level_of_member members ≤ highest_level
  pub is_faultless : faults_in members ≡ []
  pub is_meant : fragment ≡ fragment_meant members

-- the tokens of the text are refused
abbrev pub HasTokens : ℕ → Text → (List Token → Type 0) → Type 0
HasTokens source text is = (tokens : List Token) × AreTokens source text tokens × is tokens

-- the text is a schema in whose members this is at fault
abbrev pub HasFault : ℕ → Text → Fault → Type 0
HasFault source text it =
    (members : List Member) × HasMembers source text members × Contains (faults_in members) it

-- what a refusal says of a text: it is too long; it has no tokens; its tokens are no schema, or one
-- whose types are too deep; or something is at fault in its members
abbrev pub IsFaultOf : ℕ → Text → TextFault → Type 0
IsFaultOf source text fault.TooLong = 2 ^ 32 ≤ length text
IsFaultOf source text (fault.NotUtf8 valid_up_to) =
    (¬ IsUtf8 text) × (valid_up_to ≡ utf8_valid_len text)
IsFaultOf source text (fault.BadCharacter loc) = IsRefused source text (token.BadCharacter loc)
IsFaultOf source text (fault.OpenQuote loc) = IsRefused source text (token.OpenQuote loc)
IsFaultOf source text (fault.BadEscape loc) = IsRefused source text (token.BadEscape loc)
IsFaultOf source text (fault.Unexpected loc) =
    HasTokens source text (λ ts. BeginsNoSchema (end_of source text) ts loc)
IsFaultOf source text (fault.TooDeep loc) =
    HasTokens source text (λ ts. BeginsDeeper highest_level (end_of source text) ts loc)
IsFaultOf source text (fault.Twice it) =
    HasFault source text (twice it.what (string_bytes it.name) it.first it.second)
IsFaultOf source text (fault.Missing which loc) = HasFault source text (lacking which loc)
IsFaultOf source text (fault.Reserved loc) = HasFault source text (reserved loc)
IsFaultOf source text fault.Memory = ⊤

-- the text stands for no fragment, or memory ran out
abbrev pub StandsForNone : ℕ → Text → TextFault → Type 0
StandsForNone source text it =
    it ≢ fault.Memory → (fragment : FragmentAt) → StandsFor source text fragment → ⊥
