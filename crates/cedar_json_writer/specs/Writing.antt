-- What the parts of a writer do, over the tokens that are written.
use Rattle.std.specs.Prelude.{◌≡◌, List, [], ◌++◌, Option, Result, MatchResult, Contains, ⊤}
use Rattle.cedar_ast.specs.Text.{Text}
use Rattle.cedar_json_writer.specs.Flaws.{Flaw, arguments, lone_key, nesting, type_word}
use Rattle.cedar_json_writer.specs.WrittenFields.{optional_member}
use Rattle.cedar_json_writer.specs.declared.fault.Unwritable.{Unwritable}
use Rattle.cedar_json_writer.specs.declared.fault.Unwritable.TheVariants.{TypeWord, Arguments, LoneKey, TooDeep}
use Rattle.cedar_json_writer.specs.declared.fault.WriteFault.{WriteFault}
use Rattle.cedar_json_writer.specs.declared.fault.WriteFault.TheVariants as fault
use Rattle.json.specs.Json.{Json, Members}
use Rattle.json.specs.Token.{Token}
use Rattle.json.specs.Tree.{json_tokens, members_tokens}

-- what a refusal says that can't be written
abbrev pub flaw_of : Unwritable → Flaw
flaw_of (TypeWord word) = type_word word.now
flaw_of (Arguments number) = arguments number
flaw_of (LoneKey key) = lone_key key.now
flaw_of TooDeep = nesting

-- a refusal names one of some flaws, or is want of memory
abbrev pub IsFlawOf : List Flaw → WriteFault → Type 0
IsFlawOf flaws (fault.Unwritable what) = Contains flaws (flaw_of what)
IsFlawOf flaws fault.Memory = ⊤

-- a value's tokens are added
abbrev pub AddsValue : List Token → List Token → Json → Type 0
AddsValue old new j = new ≡ old ++ json_tokens j

-- the tokens of some members are added, with the bracket that closes them
abbrev pub AddsMembers : List Token → List Token → Members → Type 0
AddsMembers old new ms = new ≡ old ++ members_tokens ms

-- the tokens of fields are added that stand before any others
abbrev pub AddsFields : List Token → List Token → (Members → Members) → Type 0
AddsFields old new fields =
    (rest : Members) → new ++ members_tokens rest ≡ old ++ members_tokens (fields rest)

-- the tokens of a field are added, or none where there is nothing to write
abbrev pub AddsField : List Token → List Token → Text → Option Json → Type 0
AddsField old new name held = AddsFields old new (optional_member name held)

-- of what was written nothing is a flaw, and it is sound
pub record IsFree (flaws : List Flaw) (Sound : Type 0) : Type 0 where
  pub flawless : flaws ≡ []
  pub sound : Sound

-- what was written is free of flaws, or the refusal names one of them or is want of memory
abbrev pub IsChecked : {A : Type 0} → Result A WriteFault → List Flaw → Type 0 → Type 0
IsChecked result flaws Sound = MatchResult result (λ _. IsFree flaws Sound) (IsFlawOf flaws)
