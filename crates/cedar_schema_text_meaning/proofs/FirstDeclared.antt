-- What the first declared of a reference's possibilities tells of what the reference resolves to.
use Rattle.std.proofs.Common.{◌≡◌, ◌↔◌, ◌⊎◌, true, false, List, [], ◌∷◌, Option, None, Some, map, ap, sym, subst, ◌∙◌, refl, inl, inr, arith, Contains}
use Rattle.std.proofs.lemmas.Bool.{false≢true}
use Rattle.std.proofs.lemmas.List.Elements.{Contains-append_cases, Contains-append_left, Contains-append_right}
use Rattle.std.specs.Ordering.{is_eq}
use Rattle.cedar_ast.proofs.Basics.{Contains-image, Contains-single}
use Rattle.cedar_ast.proofs.Lists.{Contains-cons_cases, Contains-preimage}
use Rattle.cedar_ast.specs.Words.{IsReserved, IsUnqualified, PlainName, PlainUid, Text, action_word, extension_types, name_cmp, reserved_word}
use Rattle.cedar_ast.specs.declared.extension.Extensions.{Extensions}
use Rattle.cedar_schema_ast.specs.Words.{Declaration, Expr, extension_expr, name_within, names_within, possible_names}
use Rattle.cedar_schema_ast.specs.declared.json_schema.reference_type.ReferenceType.{ReferenceType}
use Rattle.cedar_schema_semantics.proofs.BuiltInLemmas.{extension_entries}
use Rattle.cedar_schema_semantics.proofs.DeclarationLemmas.{action_declaration}
use Rattle.cedar_schema_semantics.proofs.OccurrenceLemmas.{Contains-entry, any_of, name_test}
use Rattle.cedar_schema_semantics.specs.Words.{Bag, IsDefined, IsFirst, MayNameCommon, MayNameEntity, Names, action_uids, alias_name, built_in_types, declared_actions, declared_common, declared_entities, declared_types, defined_names, definitions, is_declared_here}
use Rattle.cedar_schema_text_meaning.proofs.DefinedNames.{action_path, common_name, entity_path, qualified_apart, some_path, unreserved_path}
use Rattle.cedar_schema_text_meaning.proofs.TextLikeness.{MeansAsMuch}
use Rattle.cedar_schema_text_meaning.specs.TextMeaning.{HasKnownExtensions, extension_words}
use Rattle.cedar_schema_text_meaning.specs.WritableBag.{IsUnreserved}
use Rattle.cedar_schema_text_writer.proofs.Held.{common_stands, entity_stands, undeclared_stands}
use Rattle.cedar_schema_text_writer.proofs.Reserved.{among, base_may, reserved_may}
use Rattle.cedar_schema_text_writer.specs.Names.{built_in_words, first_standing, is_among, may_be_built_in, names_of_bag, primitive_words, standing_of, standing_or}
use Rattle.cedar_schema_text_writer.specs.declared.scope.Standing.TheVariants.{Common, Entity, Undeclared}
use Rattle.cedar_type_rules.proofs.AnsweredLemmas.{decide_names}
use Rattle.cedar_type_rules.proofs.Decisions.{decide_among}

-- what an item is first of holds of it
first_holds : {A : Type 0} (P : A → Type 0) (xs : List A) (x : A) → IsFirst P xs x → P x
first_holds P [] x first = absurd first
first_holds P (y ∷ rest) x first = elim first [ inl here ↦ subst P here.0 here.1 | inr later ↦ first_holds P rest x later.1 ]

module _ (declared : Names) (name : PlainName) where
  -- a name is declared as a common type, as an entity type alone, or not at all
  abbrev pub StandsAsCommon : Type 0
  StandsAsCommon = (standing_of declared name ≡ Common) × Contains declared.common name

  abbrev pub StandsAsEntity : Type 0
  StandsAsEntity = (standing_of declared name ≡ Entity) × (¬ Contains declared.common name) × Contains declared.entities name

  abbrev pub StandsForNothing : Type 0
  StandsForNothing = (standing_of declared name ≡ Undeclared) × (¬ Contains declared.common name) × (¬ Contains declared.entities name)

  stands : StandsAsCommon ⊎ (StandsAsEntity ⊎ StandsForNothing)
  stands = elim (decide_among decide_names declared.common name) [
    | inl common ↦ inl (sym (common_stands declared name common), common)
    | inr without ↦ elim (decide_among decide_names declared.entities name) [
      | inl entity ↦ inr (inl (sym (entity_stands declared name without entity), without, entity))
      | inr neither ↦ inr (inr (sym (undeclared_stands declared name without neither), without, neither))
    ]
  ]

module _ (extensions : Extensions) (known : HasKnownExtensions extensions) where
  -- a built-in base name is that of a primitive type, or of an extension type that was handed in
  base_cases : (word : Text) (body : Expr) → Contains (built_in_types extensions) (word, body)
      → Contains primitive_words word ⊎ Contains (extension_types extensions) (alias_name word)
  base_cases word body among =
      let others = extension_entries (extension_types extensions) in
      elim (Contains-append_cases primitive_words (map (λ (it : Text × Expr). it.0) others) word
      (Contains-image (λ (it : Text × Expr). it.0) (built_in_types extensions) (word, body) among)) [
        | inl primitive ↦ inl primitive
        | inr extension ↦
            let entry = Contains-preimage (λ (it : Text × Expr). it.0) others word extension in
            let found = Contains-preimage (λ (name : PlainName). (name.base, extension_expr name.base)) (extension_types extensions) entry.0 entry.1 in
            let same : found.0.base ≡ word = ap (λ (each : Text × Expr). each.0) found.2 ∙ entry.2 in
            let plain : IsUnqualified found.0 = (known found.0 found.1).0 in
            inr (subst (Contains (extension_types extensions)) (λ i. record { base = same i; path = plain i }) found.1)
      ]

  -- so it is one of those that writing knows
  built_in_word : (word : Text) (body : Expr) → Contains (built_in_types extensions) (word, body) → Contains built_in_words word
  built_in_word word body among = elim (base_cases word body among) [
    | inl primitive ↦ Contains-append_left primitive_words extension_words word primitive
    | inr extension ↦ Contains-append_right primitive_words extension_words word (known (alias_name word) extension).1
  ]

  -- another base name is none
  pub no_built_in : (word : Text) → ¬ Contains primitive_words word → ¬ Contains (extension_types extensions) (alias_name word)
      → (body : Expr) → ¬ Contains (built_in_types extensions) (word, body)
  no_built_in word other unknown body among = elim (base_cases word body among) [ inl primitive ↦ other primitive | inr extension ↦ unknown extension ]

module _ (bag : Bag) (extensions : Extensions) (free : (it : Declaration) → Contains bag it → IsUnreserved it.namespace)
    (known : HasKnownExtensions extensions) where
  -- the names that are declared, and those that are defined
  abbrev pub declared : Names
  declared = names_of_bag bag

  abbrev pub names : Names
  names = defined_names bag extensions

  -- a declared common type is defined
  common_there : (name : PlainName) → Contains declared.common name → Contains names.common name
  common_there name among =
      let entry = Contains-entry (declared_common bag) name among in
      Contains-image (λ (it : PlainName × Expr). it.0) (definitions bag extensions).common (name, entry.0)
      (Contains-append_left _ _ (name, entry.0) (Contains-append_left (declared_common bag) _ (name, entry.0) entry.1))

  module _ (kind : ReferenceType) (may : MayNameCommon kind) where
    -- where the first isn't an entity type alone, a reference that may name common types resolves to
    -- the first common type
    common_first : (xs : List PlainName) → ¬ (first_standing declared xs ≡ Entity) → (name : PlainName)
        → IsFirst (IsDefined names kind) xs name ↔ IsFirst (λ each. Contains names.common each) xs name
    common_first [] other name = (λ found. found, λ found. found)
    common_first (x ∷ rest) isn't name = elim (stands declared x) [
      | inl common ↦
          let there = common_there x common.1 in (
            λ first. elim first [ inl here ↦ inl (here.0, there) | inr later ↦ absurd (later.0 (inl (may, there))) ],
            λ first. elim first [ inl here ↦ inl (here.0, inl (may, there)) | inr later ↦ absurd (later.0 there) ],
          )
      | inr other ↦ elim other [
        | inl entity ↦ absurd (isn't (ap (λ s. standing_or s (first_standing declared rest)) entity.0))
        | inr nothing ↦
            let later = common_first rest (λ is. isn't (ap (λ s. standing_or s (first_standing declared rest)) nothing.0 ∙ is)) name in
            let common : IsDefined names kind x → Contains names.common x = elim [ inl it ↦ it.1 | inr entity ↦ absurd (nothing.2 entity.1) ] in (
              λ first. elim first [
                | inl here ↦ inl (here.0, common here.1)
                | inr others ↦ inr (λ there. others.0 (inl (may, there)), later.0 others.1)
              ],
              λ first. elim first [
                | inl here ↦ inl (here.0, inl (may, here.1))
                | inr others ↦ inr (λ is_defined. others.0 (common is_defined), later.1 others.1)
              ],
            )
      ]
    ]

  -- so references that may name common types mean as much as each other
  pub common_means : (possibilities : List PlainName) (kind other : ReferenceType) → MayNameCommon kind → MayNameCommon other
      → ¬ (first_standing declared possibilities ≡ Entity)
      → MeansAsMuch names names (record { possibilities = possibilities; kind = kind }) (record { possibilities = possibilities; kind = other })
  common_means possibilities kind other may may' isn't = record {
    resolves = λ name.
        let one = common_first kind may possibilities isn't name in
        let two = common_first other may' possibilities isn't name in
        (λ first. two.1 (one.0 first), λ first. one.1 (two.0 first));
    kinds = λ name first. inr (inl (
      may,
      may',
      first_holds (λ each. Contains names.common each) possibilities name
          ((common_first kind may possibilities isn't name).0 first),
    ));
  }

  -- what is declared as an entity type alone is no common type
  entity_alone : (name : PlainName) → ¬ Contains declared.common name → Contains declared.entities name → ¬ Contains names.common name
  entity_alone name undeclared entity common = elim (common_name bag extensions name common) [
    | inl there ↦ undeclared there
    | inr other ↦ elim other [
      | inl built_in ↦
          let reserved : Contains name.path reserved_word =
          subst (λ (each : PlainName). Contains each.path reserved_word) built_in.3 (0, omega arith, refl) in
          elim (Contains-append_cases (map (λ it. it.0) (declared_entities bag)) (map (λ uid. uid.ty) (action_uids bag)) name entity) [
            | inl ty ↦ entity_path bag free name ty reserved
            | inr of_action ↦ action_path bag free name of_action reserved
          ]
      | inr alias ↦
          elim (Contains-append_cases (map (λ it. it.0) (declared_entities bag)) (map (λ uid. uid.ty) (action_uids bag)) name entity) [
            | inl ty ↦
                let here : is_declared_here bag name.base ≡ true = any_of (λ each. is_eq (name_cmp (alias_name name.base) each)) (declared_types bag) name
                (Contains-append_right (map (λ it. it.0) (declared_common bag)) (map (λ it. it.0) (declared_entities bag)) name ty)
                ((name_test (alias_name name.base) name).1 (λ i. record { base = name.base; path = sym alias.2 i })) in
                false≢true (sym alias.3 ∙ here)
            | inr of_action ↦
                let uid = Contains-preimage (λ (uid : PlainUid). uid.ty) (action_uids bag) name of_action in
                let entry = Contains-entry (declared_actions bag) uid.0 uid.1 in
                let by = action_declaration bag uid.0 entry.0 entry.1 in
                let same : action_word ≡ name.base = ap (λ each. each.ty.base) by.3 ∙ ap (λ each. each.base) uid.2 in
                let word : Contains built_in_words action_word =
                subst (Contains built_in_words) (sym same) (built_in_word extensions known name.base alias.0 alias.1) in
                no_word ((among action_word built_in_words).1 word)
          ]
    ]
  ]
    where
      no_word : ¬ (is_among action_word built_in_words ≡ true)
      no_word is = false≢true is

  -- a reference that may name entity types resolves to the one name alone, which is no common type
  abbrev pub IsEntityFirst : List PlainName → Type 0
  IsEntityFirst xs = (entity : PlainName) × (¬ Contains names.common entity) × ((kind : ReferenceType) → MayNameEntity kind
      → (name : PlainName) → IsFirst (IsDefined names kind) xs name ↔ (entity ≡ name))

  -- so it is where the first name is that of an entity type alone
  entity_here : (x : PlainName) (rest : List PlainName) → StandsAsEntity declared x → IsEntityFirst (x ∷ rest)
  entity_here x rest entity = (
    x,
    entity_alone x entity.1 entity.2,
    λ kind may name. (
      λ first. elim first [ inl here ↦ here.0 | inr later ↦ absurd (later.0 (inr (may, entity.2))) ],
      λ same. inl (same, inr (may, entity.2)),
    ),
  )

  -- a name that isn't defined is passed over
  entity_later : (x : PlainName) (rest : List PlainName) → ¬ Contains names.common x → ¬ Contains names.entities x → IsEntityFirst rest
      → IsEntityFirst (x ∷ rest)
  entity_later x rest no_common no_entity later = (
    later.0,
    later.1,
    λ kind may name. (
      λ first. elim first [
        | inl here ↦ absurd (elim here.1 [ inl common ↦ no_common common.1 | inr entity ↦ no_entity entity.1 ])
        | inr others ↦ (later.2 kind may name).0 others.1
      ],
      λ same. inr (elim [ inl common ↦ no_common common.1 | inr entity ↦ no_entity entity.1 ], (later.2 kind may name).1 same),
    ),
  )

  -- a standing that is known is no other
  no_common_entity : ¬ (Common ≡ Entity)
  no_common_entity is = cc

  no_undeclared_entity : ¬ (Undeclared ≡ Entity)
  no_undeclared_entity is = cc

  entity_single : (x : PlainName) → first_standing declared (x ∷ []) ≡ Entity → IsEntityFirst (x ∷ [])
  entity_single x is = elim (stands declared x) [
    | inl common ↦ absurd (no_common_entity (sym (ap (λ s. standing_or s Undeclared) common.0) ∙ is))
    | inr other ↦ elim other [
      | inl entity ↦ entity_here x [] entity
      | inr nothing ↦ absurd (no_undeclared_entity (sym (ap (λ s. standing_or s Undeclared) nothing.0) ∙ is))
    ]
  ]

  -- a name in a namespace that isn't reserved is no common type where it isn't declared
  pub within_apart : (namespace : PlainName) → IsUnreserved (Some namespace) → (base : Text)
      → ¬ Contains declared.common (name_within (Some namespace) base) → ¬ Contains names.common (name_within (Some namespace) base)
  within_apart namespace unreserved base undeclared =
      qualified_apart bag extensions (name_within (Some namespace) base) (unreserved_path (Some namespace) unreserved) (some_path namespace) undeclared

  entity_pair : (namespace : PlainName) → IsUnreserved (Some namespace) → (base : Text) (y : PlainName)
      → first_standing declared (name_within (Some namespace) base ∷ y ∷ []) ≡ Entity
      → IsEntityFirst (name_within (Some namespace) base ∷ y ∷ [])
  entity_pair namespace unreserved base y is =
      let x = name_within (Some namespace) base in
      elim (stands declared x) [
        | inl common ↦ absurd (no_common_entity (sym (ap (λ s. standing_or s (first_standing declared (y ∷ []))) common.0) ∙ is))
        | inr other ↦ elim other [
          | inl entity ↦ entity_here x (y ∷ []) entity
          | inr nothing ↦
              entity_later x (y ∷ []) (within_apart namespace unreserved base nothing.1) nothing.2
              (entity_single y (sym (ap (λ s. standing_or s (first_standing declared (y ∷ []))) nothing.0) ∙ is))
        ]
      ]

  -- where the first that is declared of a written name is an entity type alone, it resolves to that
  pub entity_first : (namespace : Option PlainName) → IsUnreserved namespace → (name : PlainName)
      → first_standing declared (possible_names namespace name) ≡ Entity → IsEntityFirst (possible_names namespace name)
  entity_first None unreserved name is = entity_single name is
  entity_first (Some namespace) unreserved name is = by name.path is where
    by : (path : List Text) → first_standing declared (names_within namespace name.base path) ≡ Entity
        → IsEntityFirst (names_within namespace name.base path)
    by [] is = entity_pair namespace unreserved name.base (record { base = name.base; path = [] }) is
    by (part ∷ path) is = entity_single (record { base = name.base; path = part ∷ path }) is

  -- none of some names is defined
  abbrev pub AreUndefined : List PlainName → Type 0
  AreUndefined xs = (name : PlainName) → Contains xs name → (¬ Contains names.common name) × (¬ Contains names.entities name)

  -- a name that isn't declared, nor may name a built-in type, isn't defined
  pub written_undefined : (name : PlainName) → may_be_built_in name ≡ false → ¬ Contains declared.common name → ¬ Contains names.common name
  written_undefined name may_not undeclared common = elim (common_name bag extensions name common) [
    | inl there ↦ undeclared there
    | inr other ↦ elim other [
      | inl built_in ↦
          let is_reserved : IsReserved name =
          inr (subst (λ (each : PlainName). Contains each.path reserved_word) built_in.3 (0, omega arith, refl)) in
          false≢true (sym may_not ∙ sym (reserved_may name true refl is_reserved))
      | inr alias ↦
          let not_reserved : ¬ IsReserved name = λ is_reserved. false≢true (sym may_not ∙ sym (reserved_may name true refl is_reserved)) in
          let word : true ≡ is_among name.base built_in_words =
          sym ((among name.base built_in_words).1 (built_in_word extensions known name.base alias.0 alias.1)) in
          false≢true (sym may_not ∙ sym (base_may name true not_reserved alias.2 word))
    ]
  ]

  -- where the first of some names isn't declared, none is
  undeclared_single : (x : PlainName) → first_standing declared (x ∷ []) ≡ Undeclared → StandsForNothing declared x
  undeclared_single x is = elim (stands declared x) [
    | inl common ↦ absurd (let wrong = sym (ap (λ s. standing_or s Undeclared) common.0) ∙ is in cc)
    | inr other ↦ elim other [
      | inl entity ↦ absurd (let wrong = sym (ap (λ s. standing_or s Undeclared) entity.0) ∙ is in cc)
      | inr nothing ↦ nothing
    ]
  ]

  pub undeclared_pair : (x y : PlainName) → first_standing declared (x ∷ y ∷ []) ≡ Undeclared → StandsForNothing declared x × StandsForNothing declared y
  undeclared_pair x y is = elim (stands declared x) [
    | inl common ↦ absurd (let wrong = sym (ap (λ s. standing_or s (first_standing declared (y ∷ []))) common.0) ∙ is in cc)
    | inr other ↦ elim other [
      | inl entity ↦ absurd (let wrong = sym (ap (λ s. standing_or s (first_standing declared (y ∷ []))) entity.0) ∙ is in cc)
      | inr nothing ↦ (nothing, undeclared_single y (sym (ap (λ s. standing_or s (first_standing declared (y ∷ []))) nothing.0) ∙ is))
    ]
  ]

  -- of a written name that isn't declared no possibility is, and those with the namespace before them
  -- aren't defined
  pub undeclared_written : (namespace : Option PlainName) → IsUnreserved namespace → (name : PlainName)
      → first_standing declared (possible_names namespace name) ≡ Undeclared
      → StandsForNothing declared name × ((¬ Contains names.common name) → AreUndefined (possible_names namespace name))
  undeclared_written None unreserved name is =
      let nothing = undeclared_single name is in
      (nothing, λ no_common each among. subst (λ n. (¬ Contains names.common n) × (¬ Contains names.entities n)) (Contains-single name each among) (no_common, nothing.2))
  undeclared_written (Some namespace) unreserved name is = by name.path refl is where
    Undefined : PlainName → Type 0
    Undefined n = (¬ Contains names.common n) × (¬ Contains names.entities n)

    by : (path : List Text) → path ≡ name.path → first_standing declared (names_within namespace name.base path) ≡ Undeclared
        → StandsForNothing declared name × ((¬ Contains names.common name) → AreUndefined (names_within namespace name.base path))
    by [] same is =
        let alone : PlainName = record { base = name.base; path = [] } in
        let itself : alone ≡ name = λ i. record { base = name.base; path = same i } in
        let nothing = undeclared_pair (name_within (Some namespace) name.base) alone is in (
          subst (StandsForNothing declared) itself nothing.1,
          λ no_common each among. elim (Contains-cons_cases (name_within (Some namespace) name.base) (alone ∷ []) each among) [
            | inl within ↦ subst Undefined within (within_apart namespace unreserved name.base nothing.0.1, nothing.0.2)
            | inr later ↦
                subst Undefined (Contains-single alone each later) (subst Undefined (sym itself) (no_common, (subst (StandsForNothing declared) itself nothing.1).2))
          ],
        )
    by (part ∷ path) same is =
        let alone : PlainName = record { base = name.base; path = part ∷ path } in
        let itself : alone ≡ name = λ i. record { base = name.base; path = same i } in
        let nothing : StandsForNothing declared name = subst (StandsForNothing declared) itself (undeclared_single alone is) in (
          nothing,
          λ no_common each among. subst Undefined (sym itself ∙ Contains-single alone each among) (no_common, nothing.2),
        )
