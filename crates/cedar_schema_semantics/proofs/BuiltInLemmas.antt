-- Built-in types and aliases: their names are their own, and what they stand for refers to nothing.
use Rattle.std.proofs.Common.{◌≡◌, ◌≢◌, ◌⊎◌, zero, suc, Bool, true, false, List, [], ◌∷◌, ◌++◌, map, ap, sym, subst, ◌∙◌, refl, inl, inr, arith, Contains, All, AllPairs, codes, not}
use Rattle.std.proofs.lemmas.Bool.{false≢true}
use Rattle.std.proofs.lemmas.List.Elements.{All-contains, All-tail, Contains-append_left, Contains-append_cases}
use Rattle.std.specs.List.{filter}
use Rattle.std.specs.Ordering.{is_eq}
use Rattle.cedar_ast.proofs.Basics.{Contains-image}
use Rattle.cedar_ast.proofs.Lists.{Contains-preimage}
use Rattle.cedar_schema_semantics.proofs.OccurrenceLemmas.{Twice-distinct, Twice-append, value_once, Contains-filter, any_of, name_test}
use Rattle.cedar_schema_semantics.proofs.ResolutionLemmas.{HasOneDefinition}
use Rattle.cedar_schema_semantics.specs.Words.{Bag, Expr, Extensions, IsUnqualified, PlainName, Reference, Refers, Text, Twice, TypeNamesFit, alias_name, aliases, built_in_name, built_in_types, built_ins, declared_common, declared_entities, declared_types, definitions, extension_expr, extension_types, is_declared_here, name_cmp, primitive_words, reserved_word}
use Rattle.cedar_type_rules.proofs.ApartLemmas.{texts_differ}

-- the words of the primitive types are distinct
words_once : (word : Text) → ¬ Twice primitive_words word
words_once word (inl (same, (zero, below, is))) = texts_differ (codes "Bool") (codes "Long") refl (same ∙ sym is)
words_once word (inl (same, (suc zero, below, is))) = texts_differ (codes "Bool") (codes "String") refl (same ∙ sym is)
words_once word (inl (same, (suc (suc k), below, is))) = omega (arith, below)
words_once word (inr (inl (same, (zero, below, is)))) = texts_differ (codes "Long") (codes "String") refl (same ∙ sym is)
words_once word (inr (inl (same, (suc k, below, is)))) = omega (arith, below)
words_once word (inr (inr (inl (same, (k, below, is))))) = omega (arith, below)
words_once word (inr (inr (inr none))) = none

-- the built-in base names of some extension types, with what they stand for
abbrev pub extension_entries : List PlainName → List (Text × Expr)
extension_entries names = map (λ name. (name.base, extension_expr name.base)) names

-- unqualified names of one base name are the same
same_unqualified : (name other : PlainName) → IsUnqualified name → IsUnqualified other → name.base ≡ other.base → name ≡ other
same_unqualified name other plain plain' same i = record { base = same i; path = (plain ∙ sym plain') i }

-- the name that gives an entry
entry_name : (names : List PlainName) (word : Text) → Contains (map (λ entry. entry.0) (extension_entries names)) word
    → (name : PlainName) × Contains names name × (name.base ≡ word)
entry_name names word among =
    let entry = Contains-preimage (λ entry. entry.0) (extension_entries names) word among in
    let found = Contains-preimage (λ name. (name.base, extension_expr name.base)) names entry.0 entry.1 in
    (found.0, found.1, ap (λ each. each.0) found.2 ∙ entry.2)

-- distinct unqualified names have distinct base names
extensions_once : (names : List PlainName) → All IsUnqualified names → AllPairs (λ a b. a ≢ b) names → (word : Text)
    → ¬ Twice (map (λ entry. entry.0) (extension_entries names)) word
extensions_once [] plain distinct word twice = twice
extensions_once (first ∷ rest) plain distinct word twice =
    elim twice [
      | inl here ↦
          let found = entry_name rest word here.1 in
          let first_plain : IsUnqualified first = plain zero first (omega arith) in
          let found_plain : IsUnqualified found.0 = All-contains IsUnqualified rest found.0 (All-tail IsUnqualified first rest plain) found.1 in
          let same : first ≡ found.0 = same_unqualified first found.0 first_plain found_plain (here.0 ∙ sym found.2) in
          Twice-distinct (first ∷ rest) found.0 distinct (inl (same, found.1))
      | inr later ↦
          extensions_once rest (All-tail IsUnqualified first rest plain)
          (λ i j d below within. distinct (suc i) (suc j) d (omega (arith, below)) (omega (arith, within))) word later
    ]

-- no built-in base name stands for two types
pub built_in_once : (extensions : Extensions) → TypeNamesFit (extension_types extensions) → (word : Text)
    → ¬ Twice (map (λ entry. entry.0) (built_in_types extensions)) word
built_in_once extensions fit word twice =
    let names = extension_types extensions in
    elim (Twice-append primitive_words (map (λ entry. entry.0) (extension_entries names)) word twice) [
      | inl left ↦ words_once word left
      | inr others ↦
          elim others [
            | inl left ↦ extensions_once names fit.unqualified fit.distinct word left
            | inr both ↦
                let found = entry_name names word both.1 in
                All-contains (λ name. ¬ Contains primitive_words name.base) names found.0 fit.free found.1 (rw found.2 both.0)
          ]
    ]

-- what stands twice among images stands twice among the items, where the images tell them apart
Twice-image : {X Y : Type 0} (f : X → Y) → ((x y : X) → f x ≡ f y → x ≡ y) → (xs : List X) (y : Y) → Twice (map f xs) y
    → (x : X) × Twice xs x
Twice-image f apart [] y twice = absurd twice
Twice-image f apart (first ∷ rest) y twice =
    elim twice [
      | inl here ↦
          let found = Contains-preimage f rest y here.1 in (found.0, inl (apart first found.0 (here.0 ∙ sym found.2), found.1))
      | inr later ↦ let found = Twice-image f apart rest y later in (found.0, inr found.1)
    ]

-- the names of the built-in types are the base names in the reserved namespace
built_in_names : (types : List (Text × Expr)) → map (λ (it : PlainName × Expr). it.0)
    (map (λ (it : Text × Expr). (built_in_name it.0, it.1)) types) ≡ map built_in_name (map (λ (it : Text × Expr). it.0) types)
built_in_names [] = refl
built_in_names (first ∷ rest) = ap (λ others. built_in_name first.0 ∷ others) (built_in_names rest)

-- no built-in type has two definitions
pub built_ins_once : (extensions : Extensions) → TypeNamesFit (extension_types extensions) → (name : PlainName)
    → ¬ Twice (map (λ it. it.0) (built_ins extensions)) name
built_ins_once extensions fit name twice =
    let found = Twice-image built_in_name (λ a b same. ap (λ each. each.base) same)
    (map (λ it. it.0) (built_in_types extensions)) name (subst (λ names. Twice names name) (built_in_names (built_in_types extensions)) twice) in
    built_in_once extensions fit found.0 found.1

-- a name without a path is that of an alias
plain_alias : (name : PlainName) → IsUnqualified name → alias_name name.base ≡ name
plain_alias name plain i = record { base = name.base; path = sym plain i }

-- a type without a path is declared in the empty namespace
declared_plainly : (bag : Bag) (name : PlainName) (body : Expr) → IsUnqualified name
    → Contains (declared_common bag) (name, body) → is_declared_here bag name.base ≡ true
declared_plainly bag name body plain among =
    any_of (λ each. is_eq (name_cmp (alias_name name.base) each)) (declared_types bag) name
    (Contains-append_left (map (λ it. it.0) (declared_common bag)) (map (λ it. it.0) (declared_entities bag)) name
    (Contains-image (λ (it : PlainName × Expr). it.0) (declared_common bag) (name, body) among))
    ((name_test (alias_name name.base) name).1 (plain_alias name plain))

-- an alias stands for what a built-in type does whose base name no type in the empty namespace has
pub alias_of : (bag : Bag) (extensions : Extensions) (name : PlainName) (body : Expr)
    → Contains (aliases bag extensions) (name, body) → Contains (built_in_types extensions) (name.base, body)
    × IsUnqualified name × (is_declared_here bag name.base ≡ false)
alias_of bag extensions name body among =
    let kept = filter (λ it. not (is_declared_here bag it.0)) (built_in_types extensions) in
    let found = Contains-preimage (λ it. (alias_name it.0, it.1)) kept (name, body) among in
    let passed = Contains-filter (λ it. not (is_declared_here bag it.0)) (built_in_types extensions) found.0 found.1 in
    let word : found.0.0 ≡ name.base = ap (λ each. each.0.base) found.2 in (
      subst (Contains (built_in_types extensions)) (λ i. (word i, (found.2 i).1)) passed.0,
      ap (λ each. each.0.path) (sym found.2),
      rw word at (not_true (is_declared_here bag found.0.0) passed.1),
    )
  where
    not_true : (b : Bool) → not b ≡ true → b ≡ false
    not_true true is = absurd (false≢true is)
    not_true false is = refl

-- a built-in type has the reserved word before its base name
pub built_in_path : (extensions : Extensions) (name : PlainName) (body : Expr)
    → Contains (built_ins extensions) (name, body) → ¬ IsUnqualified name
built_in_path extensions name body among plain =
    let found = Contains-preimage (λ it. (built_in_name it.0, it.1)) (built_in_types extensions) (name, body) among in
    qualified (ap (λ each. each.0.path) found.2 ∙ plain)
  where
    qualified : ¬ (reserved_word ∷ [] ≡ [])
    qualified wrong = cc

-- an alias and what is declared or built in have different names
pub alias_apart : (bag : Bag) (extensions : Extensions) (name : PlainName) (body other : Expr)
    → Contains (aliases bag extensions) (name, body) → ¬ Contains (declared_common bag ++ built_ins extensions) (name, other)
alias_apart bag extensions name body other alias among =
    let found = alias_of bag extensions name body alias in
    elim (Contains-append_cases (declared_common bag) (built_ins extensions) (name, other) among) [
      | inl declared ↦ false≢true (sym found.2 ∙ declared_plainly bag name other found.1 declared)
      | inr built_in ↦ built_in_path extensions name other built_in found.1
    ]

-- a common type is declared or built in, or an alias
pub common_cases : (bag : Bag) (extensions : Extensions) (it : PlainName × Expr)
    → Contains (definitions bag extensions).common it → Contains (declared_common bag ++ built_ins extensions) it
    ⊎ Contains (aliases bag extensions) it
common_cases bag extensions it among = Contains-append_cases (declared_common bag ++ built_ins extensions) (aliases bag extensions) it among

-- where no common type is declared twice, each common name has one definition
pub one_definition : (bag : Bag) (extensions : Extensions) → TypeNamesFit (extension_types extensions)
    → ((name : PlainName) → ¬ Twice (map (λ it. it.0) (declared_common bag ++ built_ins extensions)) name)
    → HasOneDefinition (definitions bag extensions)
one_definition bag extensions fit once name body other among among' =
    elim (common_cases bag extensions (name, body) among) [
      | inl here ↦
          elim (common_cases bag extensions (name, other) among') [
            | inl here' ↦ value_once (declared_common bag ++ built_ins extensions) once name body other here here'
            | inr alias' ↦ absurd (alias_apart bag extensions name other body alias' here)
          ]
      | inr alias ↦
          elim (common_cases bag extensions (name, other) among') [
            | inl here' ↦ absurd (alias_apart bag extensions name body other alias here')
            | inr alias' ↦
                value_once (built_in_types extensions) (built_in_once extensions fit) name.base body other
                (alias_of bag extensions name body alias).0 (alias_of bag extensions name other alias').0
          ]
    ]

-- what a built-in base name stands for refers to nothing
built_in_refers : (extensions : Extensions) (word : Text) (body : Expr) (reference : Reference)
    → Contains (built_in_types extensions) (word, body) → ¬ Refers body reference
built_in_refers extensions word body reference (zero, below, is) refers =
    subst (λ each. Refers each.1 reference) (sym is) refers
built_in_refers extensions word body reference (suc zero, below, is) refers =
    subst (λ each. Refers each.1 reference) (sym is) refers
built_in_refers extensions word body reference (suc (suc zero), below, is) refers =
    subst (λ each. Refers each.1 reference) (sym is) refers
built_in_refers extensions word body reference (suc (suc (suc k)), below, is) refers =
    let found = Contains-preimage (λ name. (name.base, extension_expr name.base)) (extension_types extensions)
    (word, body) (k, omega (arith, below), is) in
    subst (λ each. Refers each.1 reference) (sym found.2) refers

-- a common type that refers to something is declared
pub refers_declared : (bag : Bag) (extensions : Extensions) (name : PlainName) (body : Expr) (reference : Reference)
    → Contains (definitions bag extensions).common (name, body) → Refers body reference → Contains (declared_common bag) (name, body)
refers_declared bag extensions name body reference among refers =
    elim (common_cases bag extensions (name, body) among) [
      | inl here ↦
          elim (Contains-append_cases (declared_common bag) (built_ins extensions) (name, body) here) [
            | inl declared ↦ declared
            | inr built_in ↦
                let found = Contains-preimage (λ it. (built_in_name it.0, it.1)) (built_in_types extensions) (name, body) built_in in
                absurd (built_in_refers extensions found.0.0 found.0.1 reference found.1 (rw (ap (λ each. each.1) (sym found.2)) at refers))
          ]
      | inr alias ↦
          absurd (built_in_refers extensions name.base body reference (alias_of bag extensions name body alias).0 refers)
    ]
