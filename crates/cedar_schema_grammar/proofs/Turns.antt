-- Loops of the code and of reading, a turn at a time.
use Rattle.std.proofs.Common.{◌≡◌, ℕ, suc, ◌+◌, ◌-◌, ◌<◌, ◌≤◌, Bool, true, false, List, [], ◌∷◌, ◌++◌, length, map, Ok, Err, refl, sym, ap, ◌∙◌, arith, rules, Vec, Global}
use Rattle.std.specs.Prelude.{if◌then◌else◌}
use Rattle.std.proofs.lemmas.List.{map-append}
use Rattle.cedar_ast.specs.declared.loc.Loc.{Loc}
use Rattle.cedar_schema_tokens.specs.Token.{Token}
use Rattle.cedar_schema_tokens.specs.declared.token.Symbol.{Symbol}
use Rattle.cedar_schema_tokens.specs.declared.token.Symbol.TheVariants as sign
use Rattle.cedar_schema_grammar.specs.declared.fault.Stop.{Stop}
use Rattle.cedar_schema_grammar.specs.declared.tree.Attribute.{Attribute}
use Rattle.cedar_schema_grammar.specs.declared.tree.Type as code
use Rattle.cedar_schema_grammar.specs.declared.tree.Type.{the_lemmas}
use Rattle.cedar_schema_grammar.specs.declared.tree.Type.TheVariants.{Record}
use Rattle.cedar_schema_grammar.specs.Tree.{Ty, record_of, attributes_from}
use Rattle.cedar_schema_grammar.specs.Reading.{Outcome, Reader, and_then, pure, sees, after, eat, expect, is_more, separated_from, until_from, while_from, unexpected}
use Rattle.cedar_schema_grammar.specs.Plain.{type_of, attribute_of, attribute_step}

pub one_more : {X : Type 0} {x : X} (f : ℕ → X) (n at : ℕ) → at < n → x ≡ f (n - at) → x ≡ f (suc (n - (at + 1)))
one_more f n at below e = let turn : n - at ≡ suc (n - (at + 1)) = omega arith in e ∙ ap f turn

pub no_more : {X : Type 0} {x : X} (f : ℕ → X) (n at : ℕ) → n ≤ at → x ≡ f (n - at) → x ≡ f 0
no_more f n at done e = let none : n - at ≡ 0 = omega arith in e ∙ ap f none

pub pushed : {A B : Type 0} (f : A → B) (xs ys : List A) (x : A) → ys ≡ xs ++ x ∷ [] → map f ys ≡ map f xs ++ f x ∷ []
pushed f xs ys x e = ap (map f) e ∙ map-append f xs (x ∷ [])

pub deeper : {X : Type 0} (f : ℕ → X) (n : ℕ) → (n ≡ 0 → ⊥) → f n ≡ f (suc (n - 1))
deeper f n some = let e : n ≡ suc (n - 1) = omega arith in ap f e

pub is_more_some : (ts : List Token) → (length ts ≡ 0 → ⊥) → is_more ts ≡ true
is_more_some [] some = absurd (some refl)
is_more_some (t ∷ ts) some = refl

pub is_more_none : (ts : List Token) → length ts ≡ 0 → is_more ts ≡ false
is_more_none [] none = refl
is_more_none (t ∷ ts) none = absurd (omega arith)

-- ---- steps

abbrev pub given : {A : Type 0} → A → List Token → Outcome A
given x ts = Ok (x, ts)

pub bind_on : {A B : Type 0} (o : Outcome A) (f : A → Reader B) (x : A) (mid : List Token) → o ≡ Ok (x, mid) → and_then o f ≡ f x mid
bind_on o f x mid e = ap (λ r. and_then r f) e

pub bind_err : {A B : Type 0} (o : Outcome A) (f : A → Reader B) (d : Stop) → o ≡ Err d → and_then o f ≡ Err d
bind_err o f d e = ap (λ r. and_then r f) e

pub either : {B : Type 0} (b c : Bool) (p q : Reader B) (ts : List Token) → b ≡ c → (if b then p else q) ts ≡ (if c then p else q) ts
either b c p q ts e = ap (λ d. (if d then p else q) ts) e

module _ {A : Type 0} (item : Reader A) where
  pub separated_stops : (m : Symbol) (n : ℕ) (found : List A) (ts : List Token) (d : Stop) → item ts ≡ Err d → separated_from item m (suc n) found ts ≡ Err d
  unfolding separated_from
  separated_stops m n found ts d e = bind_err (item ts) _ d e

  pub separated_ends : (m : Symbol) (n : ℕ) (found : List A) (ts mid : List Token) (x : A) → item ts ≡ Ok (x, mid) → sees m mid ≡ false
      → separated_from item m (suc n) found ts ≡ Ok (found ++ x ∷ [], after (sees m) mid)
  unfolding separated_from
  separated_ends m n found ts mid x e last =
      bind_on (item ts) _ x mid e ∙ either (sees m mid) false (separated_from item m n (found ++ x ∷ [])) (pure (found ++ x ∷ [])) (after (sees m) mid) last

  pub separated_goes : (m : Symbol) (n : ℕ) (found : List A) (ts mid : List Token) (x : A) → item ts ≡ Ok (x, mid) → sees m mid ≡ true
      → separated_from item m (suc n) found ts ≡ separated_from item m n (found ++ x ∷ []) (after (sees m) mid)
  unfolding separated_from
  separated_goes m n found ts mid x e more =
      bind_on (item ts) _ x mid e ∙ either (sees m mid) true (separated_from item m n (found ++ x ∷ [])) (pure (found ++ x ∷ [])) (after (sees m) mid) more

  pub separated_none : (m : Symbol) (found : List A) (ts : List Token) → separated_from item m 0 found ts ≡ unexpected ts
  unfolding separated_from
  separated_none m found ts = refl

  -- what comes behind an item
  abbrev pub behind : Symbol → ℕ → List A → Reader (List A)
  behind close n found = λ us. and_then (eat sign.Comma us) (λ more. if more then until_from item close n found else (λ vs. and_then (expect close vs) (λ _. pure found)))

  abbrev turn : Symbol → ℕ → List A → Reader (List A)
  turn close n found = λ us. and_then (item us) (λ x. behind close n (found ++ x ∷ []))

  pub until_closes : (close : Symbol) (n : ℕ) (found : List A) (ts : List Token) → sees close ts ≡ true → until_from item close (suc n) found ts ≡ Ok (found, after (sees close) ts)
  unfolding until_from
  until_closes close n found ts e = either (sees close ts) true (pure found) (turn close n found) (after (sees close) ts) e

  until_turn : (close : Symbol) (n : ℕ) (found : List A) (ts : List Token) → sees close ts ≡ false → until_from item close (suc n) found ts ≡ turn close n found (after (sees close) ts)
  unfolding until_from
  until_turn close n found ts e = either (sees close ts) false (pure found) (turn close n found) (after (sees close) ts) e

  pub until_stops : (close : Symbol) (n : ℕ) (found : List A) (ts us : List Token) (d : Stop) → sees close ts ≡ false → us ≡ after (sees close) ts → item us ≡ Err d
      → until_from item close (suc n) found ts ≡ Err d
  until_stops close n found ts us d unclosed same e =
      until_turn close n found ts unclosed ∙ ap (turn close n found) (sym same) ∙ bind_err (item us) (λ x. behind close n (found ++ x ∷ [])) d e

  until_item : (close : Symbol) (n : ℕ) (found : List A) (ts us mid : List Token) (x : A) → sees close ts ≡ false → us ≡ after (sees close) ts → item us ≡ Ok (x, mid)
      → until_from item close (suc n) found ts ≡ behind close n (found ++ x ∷ []) mid
  until_item close n found ts us mid x unclosed same e =
      until_turn close n found ts unclosed ∙ ap (turn close n found) (sym same) ∙ bind_on (item us) (λ x. behind close n (found ++ x ∷ [])) x mid e

  pub until_goes : (close : Symbol) (n : ℕ) (found : List A) (ts us mid : List Token) (x : A) → sees close ts ≡ false → us ≡ after (sees close) ts → item us ≡ Ok (x, mid)
      → sees sign.Comma mid ≡ true → until_from item close (suc n) found ts ≡ until_from item close n (found ++ x ∷ []) (after (sees sign.Comma) mid)
  until_goes close n found ts us mid x unclosed same e more =
      until_item close n found ts us mid x unclosed same e
      ∙ either (sees sign.Comma mid) true (until_from item close n (found ++ x ∷ [])) (λ vs. and_then (expect close vs) (λ _. pure (found ++ x ∷ []))) (after (sees sign.Comma) mid) more

  pub until_ends : (close : Symbol) (n : ℕ) (found : List A) (ts us mid : List Token) (x : A) → sees close ts ≡ false → us ≡ after (sees close) ts → item us ≡ Ok (x, mid)
      → sees sign.Comma mid ≡ false → until_from item close (suc n) found ts ≡ and_then (expect close (after (sees sign.Comma) mid)) (λ _. pure (found ++ x ∷ []))
  until_ends close n found ts us mid x unclosed same e last =
      until_item close n found ts us mid x unclosed same e
      ∙ either (sees sign.Comma mid) false (until_from item close n (found ++ x ∷ [])) (λ vs. and_then (expect close vs) (λ _. pure (found ++ x ∷ []))) (after (sees sign.Comma) mid) last

  pub until_none : (close : Symbol) (found : List A) (ts : List Token) → until_from item close 0 found ts ≡ unexpected ts
  unfolding until_from
  until_none close found ts = refl

  pub while_goes : (go : List Token → Bool) (n : ℕ) (found : List A) (ts mid : List Token) (x : A) → go ts ≡ true → item ts ≡ Ok (x, mid)
      → while_from item go (suc n) found ts ≡ while_from item go n (found ++ x ∷ []) mid
  unfolding while_from
  while_goes go n found ts mid x more e =
      ap (λ b. if b then and_then (item ts) (λ y. while_from item go n (found ++ y ∷ [])) else Ok (found, ts)) more
      ∙ bind_on (item ts) (λ y. while_from item go n (found ++ y ∷ [])) x mid e

  pub while_stops : (go : List Token → Bool) (n : ℕ) (found : List A) (ts : List Token) (d : Stop) → go ts ≡ true → item ts ≡ Err d → while_from item go (suc n) found ts ≡ Err d
  unfolding while_from
  while_stops go n found ts d more e =
      ap (λ b. if b then and_then (item ts) (λ y. while_from item go n (found ++ y ∷ [])) else Ok (found, ts)) more
      ∙ bind_err (item ts) (λ y. while_from item go n (found ++ y ∷ [])) d e

  pub while_ends : (go : List Token → Bool) (n : ℕ) (found : List A) (ts : List Token) → go ts ≡ false → while_from item go (suc n) found ts ≡ Ok (found, ts)
  unfolding while_from
  while_ends go n found ts last = ap (λ b. if b then and_then (item ts) (λ y. while_from item go n (found ++ y ∷ [])) else Ok (found, ts)) last

  pub while_none : (go : List Token → Bool) (found : List A) (ts : List Token) → while_from item go 0 found ts ≡ Ok (found, ts)
  unfolding while_from
  while_none go found ts = refl

-- ---- types

abbrev with_plain : Attribute code.Type → Attribute Ty
with_plain a = record { annotations = a.annotations; name = a.name; is_required = a.is_required; of = type_of a.of }

fused : (all : List (Attribute code.Type)) → map attribute_step (map with_plain all) ≡ map attribute_of all
fused [] = refl
fused (a ∷ all) = ap (λ more. attribute_of a ∷ more) (fused all)

opened : (all : Vec (Attribute code.Type) Global) (loc : Loc) → type_of (Record all loc) ≡ record_of (attributes_from (map attribute_step (map with_plain all.items))) loc
opened all loc = search (rules, the_lemmas)

pub view-Record : (all : Vec (Attribute code.Type) Global) (loc : Loc) → type_of (Record all loc) ≡ record_of (attributes_from (map attribute_of all.items)) loc
view-Record all loc = opened all loc ∙ ap (λ x. record_of (attributes_from x) loc) (fused all.items)
