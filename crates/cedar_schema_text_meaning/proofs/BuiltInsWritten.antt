-- What is written of a built-in type stands for it; of an extension type that isn't known it names
-- nothing.
use Rattle.std.proofs.Common.{◌≡◌, List, [], ◌∷◌, Option, None, Some, map, ap, subst, refl, inl, inr, arith, Contains}
use Rattle.std.proofs.lemmas.List.Elements.{Contains-append_cases, Contains-append_left}
use Rattle.cedar_ast.proofs.Basics.{Contains-image, Contains-single}
use Rattle.cedar_ast.specs.Words.{PlainName, Text, TypeNamesFit, extension_types}
use Rattle.cedar_ast.specs.declared.extension.Extensions.{Extensions}
use Rattle.cedar_schema_ast.specs.Words.{Declaration, Expr, name_within, possible_names, reference_to}
use Rattle.cedar_schema_semantics.specs.Words.{Bag, Defined, IsDefined, IsFirst, IsUnresolved, action_uids, alias_name, built_in_name, built_in_types, declared_common, declared_entities, declared_types, definitions, names_of}
use Rattle.cedar_schema_text_meaning.proofs.DefinedNames.{action_path, alias_there, built_in_there, common_name, common_path, entity_path, not_here, one_definition}
use Rattle.cedar_schema_text_meaning.proofs.FirstDeclared.{AreUndefined, undeclared_pair, undeclared_written, within_apart}
use Rattle.cedar_schema_text_meaning.proofs.TextLikeness.{StandsFor}
use Rattle.cedar_schema_text_meaning.specs.TextForm.{first_by}
use Rattle.cedar_schema_text_meaning.specs.TextMeaning.{HasKnownExtensions}
use Rattle.cedar_schema_text_meaning.specs.WritableBag.{IsUnreserved}
use Rattle.cedar_schema_text_writer.specs.Names.{built_in_by, built_in_written}
use Rattle.cedar_schema_text_writer.specs.declared.scope.Standing.{Standing}
use Rattle.cedar_schema_ast.specs.declared.json_schema.reference_type.ReferenceType.TheVariants as refers
use Rattle.cedar_schema_text_writer.specs.declared.scope.Standing.TheVariants as standing

module _ (bag : Bag) (extensions : Extensions) (free : (it : Declaration) → Contains bag it → IsUnreserved it.namespace)
    (known : HasKnownExtensions extensions) where
  -- what the bag defines
  abbrev defines : Defined
  defines = definitions bag extensions

  -- the name of a built-in type in full isn't declared
  full_free : (word : Text) → ¬ Contains (map (λ it. it.0) (declared_common bag)) (built_in_name word)
  full_free word among = common_path bag free (built_in_name word) among (0, omega arith, refl)

  -- it stands for itself alone in each namespace
  alone_within : (namespace : Option PlainName) (word : Text) → built_in_name word ∷ [] ≡ possible_names namespace (built_in_name word)
  alone_within None word = refl
  alone_within (Some namespace) word = refl

  module _ (fit : TypeNamesFit (extension_types extensions)) (word : Text) (body : Expr)
      (among : Contains (built_in_types extensions) (word, body)) where
    -- the name of a built-in type in full stands for it
    full_stands : (namespace : Option PlainName) → StandsFor defines (reference_to namespace refers.CommonOrEntity (built_in_name word)) body
    full_stands namespace =
        let there = built_in_there bag extensions word body among in
        record {
          name = built_in_name word;
          resolves = subst (λ xs. IsFirst (IsDefined (names_of defines) refers.CommonOrEntity) xs (built_in_name word)) (alone_within namespace word)
              (inl (refl, inl (tt, Contains-image (λ (it : PlainName × Expr). it.0) defines.common (built_in_name word, body) there)));
          is_common = (tt, there);
          only = λ other among'. one_definition bag extensions fit (built_in_name word) (full_free word) other body among' there;
        }

    -- the base name resolves to itself, where nothing is declared that it would name
    alias_resolves : (namespace : Option PlainName) → IsUnreserved namespace → first_by bag (possible_names namespace (alias_name word)) ≡ standing.Undeclared
        → Contains (names_of defines).common (alias_name word)
        → IsFirst (IsDefined (names_of defines) refers.CommonOrEntity) (possible_names namespace (alias_name word)) (alias_name word)
    alias_resolves None unreserved is there = inl (refl, inl (tt, there))
    alias_resolves (Some namespace) unreserved is there =
        let x = name_within (Some namespace) word in
        let nothing = undeclared_pair bag extensions free known x (alias_name word) is in
        inr (
          elim [
            | inl common ↦ within_apart bag extensions free known namespace unreserved word nothing.0.1 common.1
            | inr entity ↦ nothing.0.2 entity.1
          ],
          inl (refl, inl (tt, there)),
        )

    -- so it stands for the type
    alias_stands : (namespace : Option PlainName) → IsUnreserved namespace → first_by bag (possible_names namespace (alias_name word)) ≡ standing.Undeclared
        → StandsFor defines (reference_to namespace refers.CommonOrEntity (alias_name word)) body
    alias_stands namespace unreserved is =
        let types = map (λ it. it.0) (declared_entities bag) in
        let nothing = undeclared_written bag extensions free known namespace unreserved (alias_name word) is in
        let undeclared : ¬ Contains (declared_types bag) (alias_name word) =
        λ ty. elim (Contains-append_cases (map (λ it. it.0) (declared_common bag)) types (alias_name word) ty) [
          | inl common ↦ nothing.0.1 common
          | inr entity ↦ nothing.0.2 (Contains-append_left types (map (λ uid. uid.ty) (action_uids bag)) (alias_name word) entity)
        ] in
        let there = alias_there bag extensions word body among (not_here bag extensions word undeclared) in
        record {
          name = alias_name word;
          resolves = alias_resolves namespace unreserved is (Contains-image (λ (it : PlainName × Expr). it.0) defines.common (alias_name word, body) there);
          is_common = (tt, there);
          only = λ other among'. one_definition bag extensions fit (alias_name word) nothing.0.1 other body among' there;
        }

    -- the reference that is written of a built-in type stands for it
    pub stands_for : (namespace : Option PlainName) → IsUnreserved namespace
        → StandsFor defines (reference_to namespace refers.CommonOrEntity (built_in_written (first_by bag) namespace word)) body
    stands_for namespace unreserved = by (first_by bag (possible_names namespace (alias_name word))) refl where
      by : (s : Standing) → first_by bag (possible_names namespace (alias_name word)) ≡ s
          → StandsFor defines (reference_to namespace refers.CommonOrEntity (built_in_by s word)) body
      by standing.Common is = full_stands namespace
      by standing.Entity is = full_stands namespace
      by standing.Undeclared is = alias_stands namespace unreserved is

  module _ (word : Text) (none : (body : Expr) → ¬ Contains (built_in_types extensions) (word, body)) where
    -- a word that isn't that of a built-in type isn't defined in full
    full_undefined : AreUndefined bag extensions free known (built_in_name word ∷ [])
    full_undefined name among =
        subst (λ each. (¬ Contains (names_of defines).common each) × (¬ Contains (names_of defines).entities each))
        (Contains-single (built_in_name word) name among) (no_common, no_entity)
      where
        no_common : ¬ Contains (names_of defines).common (built_in_name word)
        no_common there = elim (common_name bag extensions (built_in_name word) there) [
          | inl common ↦ full_free word common
          | inr others ↦ elim others [
            | inl built_in ↦
                none built_in.1 (subst (λ each. Contains (built_in_types extensions) (each, built_in.1)) (ap (λ (each : PlainName). each.base) built_in.3) built_in.2)
            | inr alias ↦ let wrong = alias.2 in absurd (cc)
          ]
        ]

        no_entity : ¬ Contains (names_of defines).entities (built_in_name word)
        no_entity there =
            elim (Contains-append_cases (map (λ it. it.0) (declared_entities bag)) (map (λ uid. uid.ty) (action_uids bag)) (built_in_name word) there) [
              | inl entity ↦ entity_path bag free (built_in_name word) entity (0, omega arith, refl)
              | inr of_action ↦ action_path bag free (built_in_name word) of_action (0, omega arith, refl)
            ]

    -- nor is its base name a common type, where it isn't declared
    alias_undefined : ¬ Contains (map (λ it. it.0) (declared_common bag)) (alias_name word) → ¬ Contains (names_of defines).common (alias_name word)
    alias_undefined undeclared there = elim (common_name bag extensions (alias_name word) there) [
      | inl common ↦ undeclared common
      | inr others ↦ elim others [
        | inl built_in ↦ let wrong = ap (λ (each : PlainName). each.path) built_in.3 in absurd (cc)
        | inr alias ↦ none alias.0 alias.1
      ]
    ]

    -- so what is written of it names nothing
    pub names_nothing : (namespace : Option PlainName) → IsUnreserved namespace
        → IsUnresolved (names_of defines) (reference_to namespace refers.CommonOrEntity (built_in_written (first_by bag) namespace word))
    names_nothing namespace unreserved = by (first_by bag (possible_names namespace (alias_name word))) refl where
      Unresolved : List PlainName → Type 0
      Unresolved xs = (name : PlainName) → Contains xs name → ¬ IsDefined (names_of defines) refers.CommonOrEntity name

      undefined : (xs : List PlainName) → AreUndefined bag extensions free known xs → Unresolved xs
      undefined xs are name among it = elim it [ inl common ↦ (are name among).0 common.1 | inr entity ↦ (are name among).1 entity.1 ]

      full : IsUnresolved (names_of defines) (reference_to namespace refers.CommonOrEntity (built_in_name word))
      full = subst Unresolved (alone_within namespace word) (undefined (built_in_name word ∷ []) full_undefined)

      by : (s : Standing) → first_by bag (possible_names namespace (alias_name word)) ≡ s
          → IsUnresolved (names_of defines) (reference_to namespace refers.CommonOrEntity (built_in_by s word))
      by standing.Common is = full
      by standing.Entity is = full
      by standing.Undeclared is =
          let nothing = undeclared_written bag extensions free known namespace unreserved (alias_name word) is in
          undefined (possible_names namespace (alias_name word)) (nothing.1 (alias_undefined nothing.0.1))
