-- How deep the arrays and objects among some tokens nest.
use Rattle.std.specs.Prelude.{ℕ, ◌+◌, ◌-◌, List, [], ◌∷◌, Bool, true, false, ◌&&◌, ◌||◌, nat_le}
use Rattle.json.specs.Json.{max_depth}
use Rattle.json.specs.Token.{Token, begin_object, end_object, begin_array, end_array, key, string, number, boolean, null, bad}

-- an array or an object begins with the token
abbrev pub begins_part : Token → Bool
begins_part begin_object = true
begins_part end_object = false
begins_part begin_array = true
begins_part end_array = false
begins_part (key s) = false
begins_part (string s) = false
begins_part (number s) = false
begins_part (boolean b) = false
begins_part null = false
begins_part bad = false

-- how many arrays and objects are open behind the token, where some are open before it
abbrev pub open_after : Token → ℕ → ℕ
open_after begin_object open_before = open_before + 1
open_after end_object open_before = open_before - 1
open_after begin_array open_before = open_before + 1
open_after end_array open_before = open_before - 1
open_after (key s) open_before = open_before
open_after (string s) open_before = open_before
open_after (number s) open_before = open_before
open_after (boolean b) open_before = open_before
open_after null open_before = open_before
open_after bad open_before = open_before

-- an array or an object begins among the tokens inside as many as a reader reads, where some are
-- open before them
abbrev pub nests_too_deep : ℕ → List Token → Bool
nests_too_deep open_before [] = false
nests_too_deep open_before (token ∷ rest) =
    (begins_part token && nat_le max_depth open_before)
    || nests_too_deep (open_after token open_before) rest
