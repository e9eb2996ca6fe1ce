-- Built-in types and aliases: none stands twice, and none has an open record.
use Rattle.std.proofs.Common.{◌⊎◌, not, zero, suc, Bool, true, false, List, [], ◌∷◌, ◌++◌, map, ap, sym, subst, ◌∙◌, inl, inr, arith, Contains, cond}
use Rattle.std.proofs.lemmas.List.{map-append}
use Rattle.std.proofs.lemmas.List.Elements.{Contains-append_cases}
use Rattle.std.specs.List.{filter}
use Rattle.cedar_ast.proofs.Basics.{Contains-image}
use Rattle.cedar_ast.proofs.Lists.{Contains-preimage}
use Rattle.cedar_elaboration.specs.Words.{Bag, Expr, Extensions, HasOpenRecord, PlainName, Text, Twice, TypeNamesFit, alias_name, aliases, built_in_name, built_in_types, built_ins, declared_common, definitions, extension_expr, extension_types, is_declared_here}
use Rattle.cedar_schema_semantics.proofs.BuiltInLemmas.{alias_apart, alias_of, built_in_once, common_cases}
use Rattle.cedar_schema_semantics.proofs.OccurrenceLemmas.{Twice-append, Contains-filter}

-- a built-in type under its alias
abbrev alias_item : Text × Expr → PlainName × Expr
alias_item it = (alias_name it.0, it.1)

-- the base name of an alias is that of what gives it
word_of_alias : (p : Text × Expr → Bool) (types : List (Text × Expr)) (name : PlainName)
    → Contains (map (λ (it : PlainName × Expr). it.0) (map alias_item (filter p types))) name
    → Contains (map (λ (it : Text × Expr). it.0) types) name.base
word_of_alias p types name among =
    let entry = Contains-preimage (λ (it : PlainName × Expr). it.0) (map alias_item (filter p types)) name among in
    let found = Contains-preimage alias_item (filter p types) entry.0 entry.1 in
    rw (ap (λ (it : PlainName × Expr). it.0.base) found.2, ap (λ (it : PlainName). it.base) entry.2) at
    (Contains-image (λ (it : Text × Expr). it.0) types found.0 (Contains-filter p types found.0 found.1).0)

-- an alias that stands twice is that of a base name that does
alias_twice : (p : Text × Expr → Bool) (types : List (Text × Expr)) (name : PlainName)
    → Twice (map (λ (it : PlainName × Expr). it.0) (map alias_item (filter p types))) name
    → Twice (map (λ (it : Text × Expr). it.0) types) name.base
alias_twice p [] name twice = twice
alias_twice p (first ∷ rest) name twice = by (λ later. alias_twice p rest name later) (p first) twice where
  by : (Twice (map (λ (it : PlainName × Expr). it.0) (map alias_item (filter p rest))) name
      → Twice (map (λ (it : Text × Expr). it.0) rest) name.base) → (answer : Bool)
      → Twice (map (λ (it : PlainName × Expr). it.0) (map alias_item (cond answer (first ∷ filter p rest) (filter p rest)))) name
      → Twice (map (λ (it : Text × Expr). it.0) (first ∷ rest)) name.base
  by onwards true twice = elim twice [
    | inl here ↦ inl (ap (λ (it : PlainName). it.base) here.0, word_of_alias p rest name here.1)
    | inr later ↦ inr (onwards later)
  ]
  by onwards false twice = inr (onwards twice)

-- a common type that stands twice among what is defined does so among what is declared or built in
pub defined_twice : (bag : Bag) (extensions : Extensions) → TypeNamesFit (extension_types extensions) → (name : PlainName)
    → Twice (map (λ it. it.0) (definitions bag extensions).common) name
    → Twice (map (λ it. it.0) (declared_common bag ++ built_ins extensions)) name
defined_twice bag extensions fit name twice =
    let key = λ (it : PlainName × Expr). it.0 in
    let front = declared_common bag ++ built_ins extensions in
    elim (Twice-append (map key front) (map key (aliases bag extensions)) name
    (rw (map-append key front (aliases bag extensions)) at twice)) [
      | inl here ↦ here
      | inr (inl twice_alias) ↦ absurd (built_in_once extensions fit name.base
          (alias_twice (λ it. not (is_declared_here bag it.0)) (built_in_types extensions) name twice_alias))
      | inr (inr both) ↦
          let here = Contains-preimage key front name both.0 in
          let there = Contains-preimage key (aliases bag extensions) name both.1 in
          let IsInFront : PlainName → Type 0 = λ each. Contains front (each, here.0.1) in
          absurd (alias_apart bag extensions there.0.0 there.0.1 here.0.1 there.1 (subst IsInFront (here.2 ∙ sym there.2) here.1))
    ]

-- what a built-in base name stands for has no open record
pub built_in_closed : (extensions : Extensions) (word : Text) (body : Expr)
    → Contains (built_in_types extensions) (word, body) → ¬ HasOpenRecord body
built_in_closed extensions word body (zero, below, is) is_open =
    let IsOpen : Text × Expr → Type 0 = λ each. HasOpenRecord each.1 in absurd (subst IsOpen (sym is) is_open)
built_in_closed extensions word body (suc zero, below, is) is_open =
    let IsOpen : Text × Expr → Type 0 = λ each. HasOpenRecord each.1 in absurd (subst IsOpen (sym is) is_open)
built_in_closed extensions word body (suc (suc zero), below, is) is_open =
    let IsOpen : Text × Expr → Type 0 = λ each. HasOpenRecord each.1 in absurd (subst IsOpen (sym is) is_open)
built_in_closed extensions word body (suc (suc (suc k)), below, is) is_open =
    let IsOpen : Text × Expr → Type 0 = λ each. HasOpenRecord each.1 in
    let found = Contains-preimage (λ name. (name.base, extension_expr name.base)) (extension_types extensions)
    (word, body) (k, omega (arith, below), is) in
    subst IsOpen (sym found.2) is_open

-- a common type is declared, or stands for what a built-in base name does
pub declared_or_built_in : (bag : Bag) (extensions : Extensions) (it : PlainName × Expr)
    → Contains (definitions bag extensions).common it
    → Contains (declared_common bag) it ⊎ ((word : Text) × Contains (built_in_types extensions) (word, it.1))
declared_or_built_in bag extensions it among = elim (common_cases bag extensions it among) [
  | inl here ↦ elim (Contains-append_cases (declared_common bag) (built_ins extensions) it here) [
    | inl declared ↦ inl declared
    | inr built_in ↦
        let found = Contains-preimage (λ it. (built_in_name it.0, it.1)) (built_in_types extensions) it built_in in
        let IsBuiltIn : Expr → Type 0 = λ body. Contains (built_in_types extensions) (found.0.0, body) in
        inr (found.0.0, subst IsBuiltIn (ap (λ each. each.1) found.2) found.1)
  ]
  | inr alias ↦ inr (it.0.base, (alias_of bag extensions it.0 it.1 alias).0)
]
