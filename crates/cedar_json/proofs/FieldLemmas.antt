-- Members and their keys, and that a field is smaller than its object.
use Rattle.std.proofs.Common.{◌≡◌, ℕ, zero, suc, ◌<◌, List, [], ◌∷◌, ◌++◌, length, get_or, drop, Bool, true, false, cond, ◌||◌, ◌&&◌, IsSomeAnd, Option, Some, None, option_and_then, Bor, refl, ap, sym, subst, ◌∙◌, arith}
use Rattle.std.proofs.lemmas.List.{length-append}
use Rattle.std.specs.Str.{bytes_eq}
use Rattle.std.specs.declared.alloc.Global.{Global}
use Rattle.cedar_json.specs.Words.{IsOther, Text, has_only, if_so, is_among, keys_among, member_at, nth_member}
use Rattle.json.specs.Find.{get, get_member, later_or, as_object}
use Rattle.json.specs.Json.{Json, object, Members, no_members, member}
use Rattle.json.specs.Tree.{json_tokens, members_tokens}
use Rattle.json.specs.Value.{value_view, members_view}
use Rattle.json.specs.declared.value.Value.{Value}

or_assoc : (a b c : Bool) → ((a || b) || c) ≡ (a || (b || c))
or_assoc true b c = refl
or_assoc false b c = refl

-- among two lists is among the one or the other
pub is_among_append : (key : Text) (xs ys : List Text) → is_among key (xs ++ ys) ≡ (is_among key xs || is_among key ys)
is_among_append key [] ys = refl
is_among_append key (x ∷ xs) ys =
    ap (λ b. bytes_eq key x || b) (is_among_append key xs ys) ∙ sym (or_assoc (bytes_eq key x) (is_among key xs) (is_among key ys))

-- the member at an index of some members
pub nth_member-view : (xs : List (Bor Text × Value Global)) (index : ℕ) (x : Bor Text × Value Global) → index < length xs
    → nth_member index (members_view xs) ≡ Some ((get_or xs index x).0.now, value_view (get_or xs index x).1)
nth_member-view [] index x within = absurd (omega (arith, within))
nth_member-view (first ∷ rest) zero x within = refl
nth_member-view (first ∷ rest) (suc index) x within = nth_member-view rest index x (omega (arith, within))

pub nth_member-is : (xs all : List (Bor Text × Value Global)) (index : ℕ) (x : Bor Text × Value Global) → xs ≡ all → index < length xs
    → x ≡ get_or xs index x → nth_member index (members_view all) ≡ Some (x.0.now, value_view x.1)
nth_member-is xs all index x same within is =
    ap (λ ys. nth_member index (members_view ys)) (sym same) ∙ nth_member-view xs index x within
    ∙ ap (λ (y : Bor Text × Value Global). Some (y.0.now, value_view y.1)) (sym is)

-- the member at an index is the first of those that are left from there on
pub nth_member-left : (all : List (Bor Text × Value Global)) (index : ℕ) (x : Bor Text × Value Global) (after : List (Bor Text × Value Global))
    → drop index all ≡ x ∷ after → nth_member index (members_view all) ≡ Some (x.0.now, value_view x.1)
nth_member-left [] zero x after e = absurd (cc)
nth_member-left [] (suc index) x after e = absurd (cc)
nth_member-left (first ∷ rest) zero x after e =
    let same : first ≡ x = cc in ap (λ (m : Bor Text × Value Global). Some (m.0.now, value_view m.1)) same
nth_member-left (first ∷ rest) (suc index) x after e = nth_member-left rest index x after e

and_false : (a : Bool) → (a && false) ≡ false
and_false true = refl
and_false false = refl

-- members of which one has another key have other keys
keys_among-other : (names : List Text) (ms : Members) (index : ℕ) → IsOther names ms index → keys_among names ms ≡ false
keys_among-other names no_members index other = absurd other
keys_among-other names (member key j rest) zero other = ap (λ test. test && keys_among names rest) other
keys_among-other names (member key j rest) (suc index) other =
    ap (λ test. is_among key names && test) (keys_among-other names rest index other) ∙ and_false (is_among key names)

-- and so has their object
pub has_only-other : (names : List Text) (j : Json) (ms : Members) (index : ℕ) → as_object j ≡ Some ms → IsOther names ms index
    → has_only names j ≡ false
has_only-other names (object os) ms index is other =
    let same : os ≡ ms = cc in ap (keys_among names) same ∙ keys_among-other names ms index other
has_only-other names _ ms index is other = absurd (cc)

pub member_at-other : (names : List Text) (j : Json) (ms : Members) (index : ℕ) → as_object j ≡ Some ms → IsOther names ms index
    → IsSomeAnd (member_at index j) (λ m. is_among m.0 names ≡ false)
member_at-other names j ms index is other =
    subst (λ o. IsSomeAnd (option_and_then (nth_member index) o) (λ m. is_among m.0 names ≡ false)) (sym is) other

-- what is found is one of the members
found : (P : Json → Type 0) (o : Option Json) (b : Bool) (j k : Json) → ((x : Json) → o ≡ Some x → P x) → P j
    → later_or o (cond b (Some j) None) ≡ Some k → P k
found P (Some x) b j k later here e = later k e
found P None true j k later here e = let same : j ≡ k = cc in subst P same here
found P None false j k later here e = absurd (cc)

get_member-smaller : (name : Text) (ms : Members) (k : Json) → get_member name ms ≡ Some k → length (json_tokens k) < length (members_tokens ms)
get_member-smaller name no_members k e = absurd (cc)
get_member-smaller name (member key j rest) k e =
    found (λ x. length (json_tokens x) < length (members_tokens (member key j rest))) (get_member name rest) (bytes_eq key name) j k
    (λ x h. omega (arith, length-append (json_tokens j) (members_tokens rest), get_member-smaller name rest x h))
    (omega (arith, length-append (json_tokens j) (members_tokens rest))) e

-- a field is smaller than its object
pub get-smaller : (name : Text) (j k : Json) → get name j ≡ Some k → length (json_tokens k) < length (json_tokens j)
get-smaller name (object ms) k e = omega (arith, get_member-smaller name ms k e)
get-smaller name _ k e = absurd (cc)

object_of : (j : Json) (ms : Members) → as_object j ≡ Some ms → length (members_tokens ms) < length (json_tokens j)
object_of (object os) ms e = let same : os ≡ ms = cc in omega (arith, ap (λ m. length (members_tokens m)) same)
object_of _ ms e = absurd (cc)

object_in : (n : ℕ) (o : Option Json) (ms : Members) → ((k : Json) → o ≡ Some k → length (json_tokens k) < n) → option_and_then as_object o ≡ Some ms
    → length (members_tokens ms) < n
object_in n None ms below e = absurd (cc)
object_in n (Some k) ms below e = omega (arith, below k refl, object_of k ms e)

-- and so are the members of an object that a field holds
pub object_field-smaller : (name : Text) (j : Json) (ms : Members) → option_and_then as_object (get name j) ≡ Some ms
    → length (members_tokens ms) < length (json_tokens j)
object_field-smaller name j ms e = object_in (length (json_tokens j)) (get name j) ms (get-smaller name j) e

-- a value whose members are these is their object
pub object_held : (o : Option Json) (ms : Members) → option_and_then as_object o ≡ Some ms → o ≡ Some (object ms)
object_held (Some (object os)) ms e = let same : os ≡ ms = cc in ap (λ m. Some (object m)) same
object_held _ ms e = absurd (cc)

-- what is described only where two tests hold
pub where_both : {A : Type 0} (one other : Bool) (o : Option A) → (one && other) ≡ true → if_so one (if_so other o) ≡ o
where_both true true o e = refl
where_both true false o e = absurd (cc)
where_both false other o e = absurd (cc)

pub nowhere : {A : Type 0} (one other : Bool) (o : Option A) → (one && other) ≡ false → if_so one (if_so other o) ≡ None
nowhere true true o e = absurd (cc)
nowhere true false o e = refl
nowhere false other o e = refl
