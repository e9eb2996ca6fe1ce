-- What a bag defines whose declarations stand in namespaces that aren't reserved.
use Rattle.std.proofs.Common.{◌≡◌, ◌⊎◌, Bool, true, false, not, List, [], ◌∷◌, ◌++◌, Option, None, Some, map, ap, sym, subst, ◌∙◌, refl, inl, inr, arith, Contains}
use Rattle.std.proofs.lemmas.List.Elements.{Contains-append_cases, Contains-append_left, Contains-append_right}
use Rattle.std.specs.List.{filter}
use Rattle.std.specs.Ordering.{is_eq}
use Rattle.std.specs.Prelude.{cond}
use Rattle.cedar_ast.proofs.Basics.{Contains-image, Contains-single}
use Rattle.cedar_ast.proofs.Lists.{Contains-cons, Contains-cons_cases, Contains-preimage}
use Rattle.cedar_ast.specs.Words.{IsUnqualified, PlainName, PlainUid, Text, TypeNamesFit, extension_types, name_cmp, reserved_word}
use Rattle.cedar_ast.specs.declared.extension.Extensions.{Extensions}
use Rattle.cedar_schema_ast.specs.Words.{Declaration, Expr, path_within}
use Rattle.cedar_schema_semantics.proofs.BuiltInLemmas.{alias_apart, alias_of, built_in_once, built_ins_once, common_cases}
use Rattle.cedar_schema_semantics.proofs.DeclarationLemmas.{action_declaration, common_declaration, entity_declaration}
use Rattle.cedar_schema_semantics.proofs.OccurrenceLemmas.{Contains-entry, name_test, some_of, value_once}
use Rattle.cedar_schema_semantics.specs.Words.{Bag, action_uids, alias_name, aliases, built_in_name, built_in_types, built_ins, declared_actions, declared_common, declared_entities, declared_types, defined_names, definitions, is_declared_here}
use Rattle.cedar_schema_text_meaning.specs.WritableBag.{IsUnreserved}

-- an item of a list that passes a test is kept
Contains-kept : {A : Type 0} (p : A → Bool) (items : List A) (item : A) → Contains items item → p item ≡ true
    → Contains (filter p items) item
Contains-kept p [] item among passes = absurd (omega (arith, among.1))
Contains-kept {A} p (first ∷ rest) item among passes = elim (Contains-cons_cases first rest item among) [
  | inl same ↦
      let here : p first ≡ true = ap p same ∙ passes in
      rw here (Contains-cons first (filter p rest) item (inl same))
  | inr later ↦
      let kept = Contains-kept p rest item later passes in
      elim (p first) as (λ b. Contains (cond b (first ∷ filter p rest) (filter p rest)) item)
      [ true ↦ Contains-cons first (filter p rest) item (inr kept) | false ↦ kept ]
]

-- the path of what is declared in a namespace that isn't reserved holds no reserved word
pub unreserved_path : (namespace : Option PlainName) → IsUnreserved namespace → ¬ Contains (path_within namespace) reserved_word
unreserved_path None free among = omega (arith, among.1)
unreserved_path (Some namespace) free among =
    free (elim (Contains-append_cases namespace.path (namespace.base ∷ []) reserved_word among) [
      | inl here ↦ inr here
      | inr last ↦ inl (Contains-single namespace.base reserved_word last)
    ])

-- in a namespace the path isn't empty
pub some_path : (namespace : PlainName) → ¬ (path_within (Some namespace) ≡ [])
some_path namespace none = by namespace.path none where
  by : (path : List Text) → ¬ (path ++ namespace.base ∷ [] ≡ [])
  by [] same = cc
  by (part ∷ path) same = cc

module _ (bag : Bag) (free : (it : Declaration) → Contains bag it → IsUnreserved it.namespace) where
  -- the path of what is declared holds no reserved word
  path_of : (it : Declaration) → Contains bag it → (path : List Text) → path_within it.namespace ≡ path → ¬ Contains path reserved_word
  path_of it among path same reserved =
      unreserved_path it.namespace (free it among) (subst (λ each. Contains each reserved_word) (sym same) reserved)

  -- so it is with common types, entity types, and the types of actions
  pub common_path : (name : PlainName) → Contains (map (λ it. it.0) (declared_common bag)) name → ¬ Contains name.path reserved_word
  common_path name among =
      let entry = Contains-entry (declared_common bag) name among in
      let by = common_declaration bag name entry.0 entry.1 in
      path_of by.0 by.1 name.path (ap (λ each. each.path) by.3)

  pub entity_path : (name : PlainName) → Contains (map (λ it. it.0) (declared_entities bag)) name → ¬ Contains name.path reserved_word
  entity_path name among =
      let entry = Contains-entry (declared_entities bag) name among in
      let by = entity_declaration bag name entry.0 entry.1 in
      path_of by.0 by.1 name.path (ap (λ each. each.path) by.3)

  pub action_path : (name : PlainName) → Contains (map (λ uid. uid.ty) (action_uids bag)) name → ¬ Contains name.path reserved_word
  action_path name among =
      let uid = Contains-preimage (λ (uid : PlainUid). uid.ty) (action_uids bag) name among in
      let entry = Contains-entry (declared_actions bag) uid.0 uid.1 in
      let by = action_declaration bag uid.0 entry.0 entry.1 in
      path_of by.0 by.1 name.path (ap (λ each. each.ty.path) by.3 ∙ ap (λ each. each.path) uid.2)

module _ (bag : Bag) (extensions : Extensions) where
  -- the name of a built-in type in full
  abbrev pub IsBuiltInName : PlainName → Type 0
  IsBuiltInName name = (word : Text) × (body : Expr) × Contains (built_in_types extensions) (word, body) × (built_in_name word ≡ name)

  -- the name of an alias
  abbrev pub IsAlias : PlainName → Type 0
  IsAlias name = (body : Expr) × Contains (built_in_types extensions) (name.base, body) × IsUnqualified name
      × (is_declared_here bag name.base ≡ false)

  -- the name of a common type is declared, or that of a built-in type, in full or as an alias
  pub common_name : (name : PlainName) → Contains (defined_names bag extensions).common name
      → Contains (map (λ it. it.0) (declared_common bag)) name ⊎ (IsBuiltInName name ⊎ IsAlias name)
  common_name name among =
      let entry = Contains-entry (definitions bag extensions).common name among in
      elim (common_cases bag extensions (name, entry.0) entry.1) [
        | inl here ↦ elim (Contains-append_cases (declared_common bag) (built_ins extensions) (name, entry.0) here) [
          | inl declared ↦ inl (Contains-image (λ (it : PlainName × Expr). it.0) (declared_common bag) (name, entry.0) declared)
          | inr built_in ↦
              let found = Contains-preimage (λ (it : Text × Expr). (built_in_name it.0, it.1)) (built_in_types extensions) (name, entry.0) built_in in
              inr (inl (found.0.0, found.0.1, found.1, ap (λ (each : PlainName × Expr). each.0) found.2))
        ]
        | inr alias ↦ let found = alias_of bag extensions name entry.0 alias in inr (inr (entry.0, found.0, found.1, found.2))
      ]

  -- a qualified name without the reserved word in its path is that of a common type only where it is
  -- declared
  pub qualified_apart : (name : PlainName) → ¬ Contains name.path reserved_word → ¬ IsUnqualified name
      → ¬ Contains (map (λ it. it.0) (declared_common bag)) name → ¬ Contains (defined_names bag extensions).common name
  qualified_apart name free qualified undeclared among =
      elim (common_name name among) [
        | inl declared ↦ undeclared declared
        | inr other ↦ elim other [
          | inl built_in ↦ free (subst (λ (each : PlainName). Contains each.path reserved_word) built_in.3 (0, omega arith, refl))
          | inr alias ↦ qualified alias.2
        ]
      ]

  -- a built-in type is defined under its name in full
  pub built_in_there : (word : Text) (body : Expr) → Contains (built_in_types extensions) (word, body)
      → Contains (definitions bag extensions).common (built_in_name word, body)
  built_in_there word body among =
      Contains-append_left (declared_common bag ++ built_ins extensions) (aliases bag extensions) (built_in_name word, body)
      (Contains-append_right (declared_common bag) (built_ins extensions) (built_in_name word, body)
      (Contains-image (λ (it : Text × Expr). (built_in_name it.0, it.1)) (built_in_types extensions) (word, body) among))

  -- and under its base name, where no type of that name is declared
  pub alias_there : (word : Text) (body : Expr) → Contains (built_in_types extensions) (word, body) → is_declared_here bag word ≡ false
      → Contains (definitions bag extensions).common (alias_name word, body)
  alias_there word body among undeclared =
      Contains-append_right (declared_common bag ++ built_ins extensions) (aliases bag extensions) (alias_name word, body)
      (Contains-image (λ (it : Text × Expr). (alias_name it.0, it.1)) (filter (λ (it : Text × Expr). not (is_declared_here bag it.0)) (built_in_types extensions))
      (word, body) (Contains-kept (λ (it : Text × Expr). not (is_declared_here bag it.0)) (built_in_types extensions) (word, body) among (ap not undeclared)))

  -- a type of a base name that isn't declared isn't declared in the empty namespace
  pub not_here : (word : Text) → ¬ Contains (declared_types bag) (alias_name word) → is_declared_here bag word ≡ false
  not_here word undeclared = by (is_declared_here bag word) refl where
    by : (answer : Bool) → is_declared_here bag word ≡ answer → is_declared_here bag word ≡ false
    by true is =
        let found = some_of (λ name. is_eq (name_cmp (alias_name word) name)) (declared_types bag) is in
        absurd (undeclared (subst (Contains (declared_types bag)) (sym ((name_test (alias_name word) found.0).0 found.2)) found.1))
    by false is = is

  -- a name that isn't declared as a common type has one definition at most
  pub one_definition : TypeNamesFit (extension_types extensions) → (name : PlainName)
      → ¬ Contains (map (λ it. it.0) (declared_common bag)) name → (body other : Expr) → Contains (definitions bag extensions).common (name, body)
      → Contains (definitions bag extensions).common (name, other) → body ≡ other
  one_definition fit name undeclared body other among among' =
      elim (common_cases bag extensions (name, body) among) [
        | inl here ↦ elim (common_cases bag extensions (name, other) among') [
          | inl here' ↦
              value_once (built_ins extensions) (built_ins_once extensions fit) name body other (built_in body here) (built_in other here')
          | inr alias' ↦ absurd (alias_apart bag extensions name other body alias' here)
        ]
        | inr alias ↦ elim (common_cases bag extensions (name, other) among') [
          | inl here' ↦ absurd (alias_apart bag extensions name body other alias here')
          | inr alias' ↦
              value_once (built_in_types extensions) (built_in_once extensions fit) name.base body other
              (alias_of bag extensions name body alias).0 (alias_of bag extensions name other alias').0
        ]
      ]
    where
      built_in : (each : Expr) → Contains (declared_common bag ++ built_ins extensions) (name, each) → Contains (built_ins extensions) (name, each)
      built_in each there = elim (Contains-append_cases (declared_common bag) (built_ins extensions) (name, each) there) [
        | inl declared ↦ absurd (undeclared (Contains-image (λ (it : PlainName × Expr). it.0) (declared_common bag) (name, each) declared))
        | inr built ↦ built
      ]
