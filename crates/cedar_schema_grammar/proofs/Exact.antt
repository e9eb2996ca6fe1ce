-- Reading and the grammar, together.
use Rattle.std.proofs.Common.{◌≡◌, ℕ, zero, suc, ◌-◌, Bool, ◌||◌, ◌<◌, ◌≤◌, max, true, false, List, [], ◌∷◌, ◌++◌, length, drop, Result, Ok, Err, IfOk, IfErr, ◌⊎◌, inl, inr, refl, sym, ap, ◌∙◌, subst, arith, length-append}
use Rattle.cedar_ast.specs.declared.loc.Loc.{Loc}
use Rattle.cedar_schema_tokens.specs.Token.{Token}
use Rattle.cedar_schema_grammar.specs.declared.fault.Stop.{Stop}
use Rattle.cedar_schema_grammar.specs.declared.fault.Stop.TheVariants.{Memory, Unexpected, TooDeep}
use Rattle.cedar_schema_grammar.specs.Tree.{Member, highest, level_of_member}
use Rattle.cedar_schema_grammar.specs.Grammar.{IsSchema, IsMember, many}
use Rattle.cedar_schema_tokens.specs.declared.token.Symbol.TheVariants as sign
use Rattle.cedar_schema_grammar.specs.Reading.{Outcome, members, member, is_more, sees, begins_set}
use Rattle.cedar_schema_grammar.specs.Cursor.{Reads}
use Rattle.cedar_schema_grammar.specs.Exact.{Peek, BeginsLevel, BeginsNoSchema, BeginsDeeper, Refuses, first_or, loc_at, located}
use Rattle.cedar_schema_grammar.proofs.Again.{set_begins}
use Rattle.cedar_schema_grammar.proofs.Steps as steps
use Rattle.cedar_schema_grammar.proofs.Steps.{same_pair, sees_is, set_is}
use Rattle.cedar_schema_grammar.proofs.Lists.{while_done}
use Rattle.cedar_schema_grammar.proofs.Places.{past}
use Rattle.cedar_schema_grammar.proofs.Like.{Any, Match, begins_level, part}
use Rattle.cedar_schema_grammar.proofs.LikeGrammar.{like_members}
use Rattle.cedar_schema_grammar.proofs.TakesDeclarations.{member_takes, members_take}
use Rattle.cedar_schema_grammar.proofs.AgainDeclarations.{member_less, members_again}

-- tokens are read one way at most
pub one_reading : (ms ns : List Member) (ts : List Token) → IsSchema ms ts → IsSchema ns ts → ms ≡ ns
one_reading ms ns ts h k =
    let limit = max (highest level_of_member ms) (highest level_of_member ns) in
    (same_pair ms ns [] [] (sym (members_again limit ms ts [] h refl (omega arith)) ∙ members_again limit ns ts [] k refl (omega arith))).0

no_more : (ts : List Token) → is_more ts ≡ false → ts ≡ []
no_more [] e = refl
no_more (t ∷ ts) e = absurd (cc)

shorter : (limit : ℕ) (m : Member) (ts rest : List Token) → member limit ts ≡ Ok (m, rest) → length rest < length ts
shorter limit m ts rest e = member_less m ts rest (member_takes limit m ts rest e).0

-- all of the tokens are read
all_read : (limit : ℕ) (all : List Member) (ts rest : List Token) → members limit ts ≡ Ok (all, rest) → rest ≡ []
unfolding members
all_read limit all ts rest e = no_more rest (while_done (member limit) (shorter limit) is_more refl all ts rest e)

read : (limit : ℕ) (all : List Member) (ts rest : List Token) → members limit ts ≡ Ok (all, rest) → IsSchema all ts × (highest level_of_member all ≤ limit)
read limit all ts rest e =
    let p = members_take limit all ts rest e in
    let P : List Token → Type 0 = λ us. many IsMember all ts us in
    (subst P (all_read limit all ts rest e) p.0, p.1)

either_way : (a b : ℕ) → (a ≤ b) ⊎ (b < a)
either_way zero b = inl (omega arith)
either_way (suc a) zero = inr (omega arith)
either_way (suc a) (suc b) = elim (either_way a b) [ inl h ↦ inl (omega arith) | inr h ↦ inr (omega arith) ]

no_schema : (limit : ℕ) (ms : List Member) (ts : List Token) (left : ℕ) → members limit ts ≡ Err (TooDeep left) → IsSchema ms ts → limit < highest level_of_member ms
no_schema limit ms ts left e h =
    elim (either_way (highest level_of_member ms) limit) [ inl le ↦ absurd (let never = members_again limit ms ts [] h refl le in cc) | inr less ↦ less ]

one_of_two : (a b : Bool) → (a || b) ≡ true → (a ≡ true) ⊎ (b ≡ true)
one_of_two true b e = inl refl
one_of_two false b e = inr e

-- what begins a set or a record is the brace, or the word and `<`
opened : (ts : List Token) → begins_level ts ≡ true → BeginsLevel ts
opened ts op =
    elim (one_of_two (sees sign.OpenBrace ts) (begins_set ts) op) [
      | inl e ↦ (drop 1 ts, inl (sees_is sign.OpenBrace ts e))
      | inr e ↦ let h = set_is ts e in (drop 2 ts, inr (drop 1 ts, h.0, h.1))
    ]

opening : (ts : List Token) → BeginsLevel ts → begins_level ts ≡ true
opening ts (rest, inl h) = ap (λ b. b || begins_set ts) (steps.opens sign.OpenBrace ts rest h).0
opening ts (rest, inr h) = let it = set_begins ts h.0 rest h.1 h.2 in ap (λ b. b || begins_set ts) it.0 ∙ it.1

-- up to the token that isn't expected, reading tells the same of whatever comes behind, at each higher limit
seen : (limit m : ℕ) → limit ≤ m → (ts : List Token) (left : ℕ) → members limit ts ≡ Err (Unexpected left) → Match ⊥ Any (Err (Unexpected left)) ts (members m)
seen limit m le ts left e = let P : Outcome (List Member) → Type 0 = λ o. Match ⊥ Any o ts (members m) in subst P e (like_members ⊥ limit m le (λ never. absurd never) ts)

begins_none : (limit : ℕ) (ts : List Token) (left : ℕ) (before rest : List Token) → ts ≡ before ++ rest → left ≡ length rest → members limit ts ≡ Err (Unexpected left)
    → (us : List Token) → Peek rest us → (ms : List Member) → IsSchema ms (before ++ us) → ⊥
begins_none limit ts left before rest s l e us peek ms h =
    let m = max limit (highest level_of_member ms) in
    let it = seen limit m (omega arith) ts left e in
    let same = part it.0 before it.1 rest (sym it.2 ∙ s) (sym it.3 ∙ l) in
    let P : List Token → Type 0 = λ vs. Peek vs us in
    let Q : List Token → Type 0 = λ vs. IsSchema ms (vs ++ us) in
    let never = it.4 us (subst P (sym same.1) peek) tt in
    let read = members_again m ms (it.0 ++ us) [] (subst Q (sym same.0) h) refl (omega arith) in
    absurd (cc)

stops_at : (limit : ℕ) (end : Loc) (ts : List Token) (left : ℕ) → members limit ts ≡ Err (Unexpected left) → BeginsNoSchema end ts (loc_at end left ts)
stops_at limit end ts left e =
    let one = seen limit limit (omega arith) ts left e in
    let many : length (one.0 ++ one.1) - left ≡ length one.0 = omega (arith, length-append one.0 one.1, one.3) in
    let there : drop (length ts - left) ts ≡ one.1 = ap (λ us. drop (length us - left) us) one.2 ∙ ap (λ n. drop n (one.0 ++ one.1)) many ∙ past one.0 one.1 in
    (one.0, one.1, one.2, ap (first_or end) there, begins_none limit ts left one.0 one.1 one.2 one.3 e)

-- up to a type that is too deep, reading tells the same of whatever comes behind what begins it
seen_deep : (limit : ℕ) (ts : List Token) (left : ℕ) → members limit ts ≡ Err (TooDeep left) → Match (Unit {0}) Any (Err (TooDeep left)) ts (members limit)
seen_deep limit ts left e = let P : Outcome (List Member) → Type 0 = λ o. Match (Unit {0}) Any o ts (members limit) in subst P e (like_members (Unit {0}) limit limit (omega arith) (λ _. refl) ts)

deeper_at : (limit : ℕ) (end : Loc) (ts : List Token) (left : ℕ) → members limit ts ≡ Err (TooDeep left) → BeginsDeeper limit end ts (loc_at end left ts)
deeper_at limit end ts left e =
    let one = seen_deep limit ts left e tt in
    let many : length (one.0 ++ one.1) - left ≡ length one.0 = omega (arith, length-append one.0 one.1, one.3) in
    let there : drop (length ts - left) ts ≡ one.1 = ap (λ us. drop (length us - left) us) one.2 ∙ ap (λ n. drop n (one.0 ++ one.1)) many ∙ past one.0 one.1 in
    (one.0, one.1, one.2, ap (first_or end) there, opened one.1 one.4, λ others peek op ms h. no_schema limit ms (one.0 ++ others) (length others) (one.5 others peek (opening others op) tt) h)

-- what reading says of a result
pub record Tells {A : Type 0} (view : A → List Member) (limit : ℕ) (end : Loc) (ts : List Token) (r : Result A Stop) : Type 0 where
  pub found : IfOk r (λ all. IsSchema (view all) ts)
  pub nests : IfOk r (λ all. highest level_of_member (view all) ≤ limit)
  pub refused : IfErr r (λ stop. Refuses limit end ts (located end ts stop))

pub tells : {A : Type 0} (view : A → List Member) (limit : ℕ) (end : Loc) (ts new : List Token) (r : Result A Stop) → Reads view (members limit ts) r new → Tells view limit end ts r
tells view limit end ts new (Ok all) e = let p = read limit (view all) ts new e in record { found = p.0; nests = p.1; refused = tt }
tells view limit end ts new (Err Memory) e = record { found = tt; nests = tt; refused = tt }
tells view limit end ts new (Err (Unexpected left)) e =
    record { found = tt; nests = tt; refused = stops_at limit end ts left (e (λ same. cc)) }
tells view limit end ts new (Err (TooDeep left)) e =
    record { found = tt; nests = tt; refused = deeper_at limit end ts left (e (λ same. cc)) }
