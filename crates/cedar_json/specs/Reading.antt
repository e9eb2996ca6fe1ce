-- What a reader of JSON values gives.
use Rattle.std.specs.BTreeMap.{insert_entry}
use Rattle.std.specs.Prelude.{◌≡◌, ◌≢◌, List, string_bytes, string_cmp, Option, Some, None, Result, MatchResult}
use Rattle.std.specs.declared.alloc.Global.{Global}
use Rattle.std.specs.declared.string.String.{String}
use Rattle.cedar_ast.specs.Words.{Text}
use Rattle.cedar_json.specs.Place.{IsTrueOf}
use Rattle.cedar_json.specs.declared.fault.Fault.{Fault}
use Rattle.cedar_json.specs.declared.fault.Fault.TheVariants.{Memory}
use Rattle.json.specs.Json.{Json}

-- what was read shows what is described; a refusal is true of each value that is so, and where
-- something is described it is for want of memory
abbrev pub IsReadWhere : {T A : Type 0} → (Json → Type 0) → Option A → (T → A) → Result T Fault
    → Type 0
IsReadWhere IsSo described shown result = MatchResult result (λ it. described ≡ Some (shown it))
    (λ fault. (fault ≢ Memory → described ≡ None) × ((j : Json) → IsSo j → IsTrueOf fault j))

-- the same of one value
abbrev pub IsReadFrom : {T A : Type 0} → Json → Option A → (T → A) → Result T Fault → Type 0
IsReadFrom j described shown result = MatchResult result (λ it. described ≡ Some (shown it))
    (λ fault. (fault ≢ Memory → described ≡ None) × IsTrueOf fault j)

-- a fault is one of what a value holds, seen from the value; memory may have run out on the way
abbrev pub IsSeenFrom : (Json → Json → Type 0) → Fault → Fault → Type 0
IsSeenFrom Holds inner fault = (fault ≢ Memory → inner ≢ Memory)
    × ((j k : Json) → Holds j k → IsTrueOf inner k → IsTrueOf fault j)

-- entries with one more, under a text
abbrev pub IsPutUnder : {T : Type 0} → Text → List (String Global × T) → List (String Global × T)
    → T → Type 0
IsPutUnder key before after it = (name : String Global) × (string_bytes name ≡ key)
    × (after ≡ insert_entry string_cmp before name it)
