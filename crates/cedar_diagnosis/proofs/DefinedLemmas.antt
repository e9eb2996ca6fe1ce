-- The names that are declared, and those that are defined.
use Rattle.std.proofs.Common.{◌≡◌, ◌⊎◌, ◌↔◌, true, false, Bool, cond, not, IfOk, OnOk, Result, Ok, Err, List, [], ◌∷◌, ◌++◌, map, ap, sym, ◌∙◌, subst, refl, inl, inr, Contains, None}
use Rattle.std.proofs.lemmas.Bool.{false≢true}
use Rattle.std.proofs.lemmas.List.{append-nil, map-append}
use Rattle.std.proofs.lemmas.List.Elements.{Contains-append_left, Contains-append_right, Contains-append_cases}
use Rattle.std.specs.List.{filter, flat_map}
use Rattle.std.specs.Ordering.{is_eq}
use Rattle.cedar_ast.proofs.Basics.{Contains-image, Contains-none, Contains-single}
use Rattle.cedar_ast.proofs.Lists.{Contains-cons, Contains-cons_cases, Contains-preimage}
use Rattle.cedar_ast.specs.Words.{PlainName, PlainUid, Text, name_cmp}
use Rattle.cedar_ast.specs.declared.extension.Extensions.{Extensions}
use Rattle.cedar_diagnosis.proofs.AddingLemmas.{adds_both, adds_like, adds_listed, members_of}
use Rattle.cedar_diagnosis.proofs.KindLemmas.{held_types}
use Rattle.cedar_diagnosis.specs.Adding.{Adds, SomeGives, optional}
use Rattle.cedar_diagnosis.specs.BuiltIn.{IsBuiltInName}
use Rattle.cedar_name_resolution.proofs.NamesDefined.{same_entities}
use Rattle.cedar_name_resolution.specs.Words.{HasAlso, HoldsAlso, HoldsJust, Names, SameItems, held_names, names_given, names_together, type_names}
use Rattle.cedar_name_resolution.specs.declared.defs.all_defs.AllDefs.{AllDefs}
use Rattle.cedar_schema_ast.specs.Words.{Declaration, Expr}
use Rattle.cedar_schema_semantics.proofs.OccurrenceLemmas.{Contains-filter, any_of, name_test, some_of}
use Rattle.cedar_schema_semantics.specs.Words.{Bag, action_in, alias_name, aliases, common_in, declared_name, declared_uid, entity_in, built_in_name, built_in_types, built_ins, declared_common, declared_types, defined_names, is_declared_here}

-- what passes a test is kept
kept : {A : Type 0} (p : A → Bool) (xs : List A) (x : A) → Contains xs x → p x ≡ true → Contains (filter p xs) x
kept p [] x among passes = absurd (Contains-none x among)
kept {A = A} p (first ∷ rest) x among passes = by_test (p first) refl (kept p rest x)
  where
    by_test : (test : Bool) → p first ≡ test → (Contains rest x → p x ≡ true → Contains (filter p rest) x)
        → Contains (cond test (first ∷ filter p rest) (filter p rest)) x
    by_test true is later = elim (Contains-cons_cases first rest x among) [
      | inl here ↦ Contains-cons first (filter p rest) x (inl here)
      | inr there ↦ Contains-cons first (filter p rest) x (inr (later there passes))
    ]
    by_test false is later = elim (Contains-cons_cases first rest x among) [
      | inl here ↦ absurd (false≢true (sym is ∙ (ap p here ∙ passes)))
      | inr there ↦ later there passes
    ]

-- nothing more, or one
pub also_optional_none : {X P : Type 0} (f : X → P) (items : List P) → HasAlso items items (optional f None)
also_optional_none f items item = (λ among. inl among, elim [ inl among ↦ among | inr none ↦ absurd (Contains-none item none) ])

-- what a list has also it has where the more are the same
pub also_like : {P E : Type 0} (result : Result Unit E) (after before more others : List P) → more ≡ others → OnOk result (HasAlso after before more)
    → OnOk result (HasAlso after before others)
also_like result after before more others same also =
    let Ends : List _ → Type 0 = λ each. OnOk result (HasAlso after before each) in subst Ends same also

-- one declaration gives what it declares
pub alone : {K B : Type 0} (read : List (K × B)) → map (λ (it : K × B). it.0) read ≡ map (λ (it : K × B). it.0) (read ++ [])
alone read = ap (map (λ it. it.0)) (sym (append-nil read))

-- a name that is added
pub adds_pushed : {X P : Type 0} (f : X → P) (before after : List X) (one : X) → after ≡ before ++ one ∷ []
    → Adds (λ item. f one ≡ item) (map f before) (map f after)
adds_pushed f before after one is =
    adds_listed (λ item. f one ≡ item) (map f before) (map f after) (f one ∷ []) (ap (map f) is ∙ map-append f before (one ∷ []))
    (λ item. (λ among. Contains-single (f one) item among, λ same. Contains-cons (f one) [] item (inl same)))

-- the full name of a built-in type is added, and the base name alone where it is free
pub adds_built_in : {E : Type 0} (result : Result Unit E) (types : List PlainName) (word : Text) (full alias : PlainName) (is_taken : Bool)
    (before middle after : List PlainName) → full ≡ built_in_name word → alias ≡ alias_name word
    → ((is_taken ≡ true) ↔ Contains types alias) → Adds (λ item. full ≡ item) before middle
    → OnOk result (Adds (λ item. (alias ≡ item) × (is_taken ≡ false)) middle after)
    → OnOk result (Adds (IsBuiltInName types word) before after)
adds_built_in (Ok x) types word full alias is_taken before middle after is_full is_alias taken first second =
    adds_like (λ item. (full ≡ item) ⊎ ((alias ≡ item) × (is_taken ≡ false))) (IsBuiltInName types word) before after
    (λ item. elim [
      | inl same ↦ inl (sym is_full ∙ same)
      | inr free ↦ inr (sym is_alias ∙ free.0, λ among. false≢true (sym free.1 ∙ taken.1 (subst (Contains types) (sym is_alias) among)))
    ])
    (λ item. elim [
      | inl same ↦ inl (is_full ∙ same)
      | inr free ↦ inr (is_alias ∙ free.0, not_taken is_taken (λ is. free.1 (subst (Contains types) is_alias (taken.0 is))))
    ])
    (adds_both (λ item. full ≡ item) (λ item. (alias ≡ item) × (is_taken ≡ false)) before middle after first second)
  where
    not_taken : (each : Bool) → ¬ (each ≡ true) → each ≡ false
    not_taken true never = absurd (never refl)
    not_taken false never = refl
adds_built_in (Err x) types word full alias is_taken before middle after is_full is_alias taken first second = tt

module _ (bag : Bag) (extensions : Extensions) (held : Names) (just : HoldsJust held (names_given bag)) where
  -- a type of a base name is declared in the empty namespace where its name is held
  declared_here : (word : Text) → (is_declared_here bag word ≡ true) ↔ Contains (type_names held) (alias_name word)
  declared_here word = (
    λ is.
        let found = some_of (λ name. is_eq (name_cmp (alias_name word) name)) (declared_types bag) is in
        let same : alias_name word ≡ found.0 = (name_test (alias_name word) found.0).0 found.2 in
        (held_types bag extensions held just (alias_name word)).1 (subst (Contains (declared_types bag)) (sym same) found.1),
    λ among.
        any_of (λ name. is_eq (name_cmp (alias_name word) name)) (declared_types bag) (alias_name word)
        ((held_types bag extensions held just (alias_name word)).0 among) ((name_test (alias_name word) (alias_name word)).1 refl),
  )

  -- the names of built-in types and of aliases are those of the built-in base names
  built_in_names_are : (name : PlainName)
      → SomeGives (IsBuiltInName (type_names held)) (map (λ (it : Text × Expr). it.0) (built_in_types extensions)) name
      ↔ (Contains (map (λ (it : PlainName × Expr). it.0) (built_ins extensions)) name
      ⊎ Contains (map (λ (it : PlainName × Expr). it.0) (aliases bag extensions)) name)
  built_in_names_are name = (
    λ some.
        let entry = Contains-preimage (λ (it : Text × Expr). it.0) (built_in_types extensions) some.0 some.1 in
        elim some.2 [
          | inl full ↦ inl (subst (Contains (map (λ (it : PlainName × Expr). it.0) (built_ins extensions))) (ap built_in_name entry.2 ∙ full)
              (Contains-image (λ (it : PlainName × Expr). it.0) (built_ins extensions) (built_in_name entry.0.0, entry.0.1)
              (Contains-image (λ (it : Text × Expr). (built_in_name it.0, it.1)) (built_in_types extensions) entry.0 entry.1)))
          | inr free ↦
              let Taken : Text → Type 0 = λ word. Contains (type_names held) (alias_name word) in
              let passes : not (is_declared_here bag entry.0.0) ≡ true = not_here (is_declared_here bag entry.0.0)
              (λ here. free.1 (subst Taken entry.2 ((declared_here entry.0.0).0 here))) in
              inr (subst (Contains (map (λ (it : PlainName × Expr). it.0) (aliases bag extensions))) (ap alias_name entry.2 ∙ free.0)
              (Contains-image (λ (it : PlainName × Expr). it.0) (aliases bag extensions) (alias_name entry.0.0, entry.0.1)
              (Contains-image (λ (it : Text × Expr). (alias_name it.0, it.1)) (filter (λ it. not (is_declared_here bag it.0)) (built_in_types extensions))
              entry.0 (kept (λ it. not (is_declared_here bag it.0)) (built_in_types extensions) entry.0 entry.1 passes))))
        ],
    elim [
      | inl full ↦
          let entry = Contains-preimage (λ (it : PlainName × Expr). it.0) (built_ins extensions) name full in
          let found = Contains-preimage (λ (it : Text × Expr). (built_in_name it.0, it.1)) (built_in_types extensions) entry.0 entry.1 in (
            found.0.0,
            Contains-image (λ (it : Text × Expr). it.0) (built_in_types extensions) found.0 found.1,
            inl (ap (λ (it : PlainName × Expr). it.0) found.2 ∙ entry.2),
          )
      | inr free ↦
          let entry = Contains-preimage (λ (it : PlainName × Expr). it.0) (aliases bag extensions) name free in
          let found = Contains-preimage (λ (it : Text × Expr). (alias_name it.0, it.1))
          (filter (λ it. not (is_declared_here bag it.0)) (built_in_types extensions)) entry.0 entry.1 in
          let passed = Contains-filter (λ (it : Text × Expr). not (is_declared_here bag it.0)) (built_in_types extensions) found.0 found.1 in (
            found.0.0,
            Contains-image (λ (it : Text × Expr). it.0) (built_in_types extensions) found.0 passed.0,
            inr (
              ap (λ (it : PlainName × Expr). it.0) found.2 ∙ entry.2,
              λ among. false≢true (sym (here_not (is_declared_here bag found.0.0) ((declared_here found.0.0).1 among)) ∙ passed.1),
            ),
          )
    ],
  )
    where
      not_here : (each : Bool) → ¬ (each ≡ true) → not each ≡ true
      not_here true never = absurd (never refl)
      not_here false never = refl

      here_not : (each : Bool) → each ≡ true → not each ≡ false
      here_not true is = refl
      here_not false is = absurd (false≢true is)

  -- with these the names that are held are those that are defined
  pub defined_common : (common names : List PlainName) → HasAlso common held.common names
      → Adds (SomeGives (IsBuiltInName (type_names held)) (map (λ (it : Text × Expr). it.0) (built_in_types extensions))) [] names
      → SameItems common (defined_names bag extensions).common
  defined_common common names also adds name =
      let declared = map (λ (it : PlainName × Expr). it.0) (declared_common bag) in
      let full = map (λ (it : PlainName × Expr). it.0) (built_ins extensions) in
      let free = map (λ (it : PlainName × Expr). it.0) (aliases bag extensions) in
      let all : (defined_names bag extensions).common ≡ (declared ++ full) ++ free =
      map-append (λ (it : PlainName × Expr). it.0) (declared_common bag ++ built_ins extensions) (aliases bag extensions)
      ∙ ap (λ front. front ++ free) (map-append (λ (it : PlainName × Expr). it.0) (declared_common bag) (built_ins extensions)) in
      let given = members_of (SomeGives (IsBuiltInName (type_names held)) (map (λ (it : Text × Expr). it.0) (built_in_types extensions))) names adds in
      let Has : List PlainName → Type 0 = λ each. Contains each name in (
        λ among. subst Has (sym all) (elim ((also name).0 among) [
          | inl old ↦ Contains-append_left (declared ++ full) free name (Contains-append_left declared full name ((just.common name).0 old))
          | inr new ↦ elim ((built_in_names_are name).0 ((given name).0 new)) [
            | inl here ↦ Contains-append_left (declared ++ full) free name (Contains-append_right declared full name here)
            | inr there ↦ Contains-append_right (declared ++ full) free name there
          ]
        ]),
        λ among. elim (Contains-append_cases (declared ++ full) free name (subst Has all among)) [
          | inl front ↦ elim (Contains-append_cases declared full name front) [
            | inl old ↦ (also name).1 (inl ((just.common name).1 old))
            | inr here ↦ (also name).1 (inr ((given name).1 ((built_in_names_are name).1 (inl here))))
          ]
          | inr there ↦ (also name).1 (inr ((given name).1 ((built_in_names_are name).1 (inr there))))
        ],
      )

-- what each of some declarations gives by itself all give together
keys_together : {L K B : Type 0} (read : Declaration → List (K × B)) (see : L → Declaration) (items : List L)
    → flat_map (λ it. map (λ (each : K × B). each.0) (flat_map read (see it ∷ []))) items
    ≡ map (λ (each : K × B). each.0) (flat_map read (map see items))
keys_together read see [] = refl
keys_together {K = K} {B = B} read see (it ∷ items) =
    (λ i. map (λ (each : K × B). each.0) (append-nil (read (see it)) i) ++ keys_together read see items i)
    ∙ sym (map-append (λ (each : K × B). each.0) (read (see it)) (flat_map read (map see items)))

-- the names of some declarations together are those of their bag
pub names_of_all : {L : Type 0} (see : L → Declaration) (items : List L)
    → names_together (λ it. names_given (see it ∷ [])) items ≡ names_given (map see items)
names_of_all see items =
    (λ i. record {
      common = keys_together (λ it. common_in (declared_name it) it.body) see items i;
      entities = keys_together (λ it. entity_in (declared_name it) it.body) see items i;
      actions = keys_together (λ it. action_in (declared_uid it) it.body) see items i;
    })

-- the names after each kind was added
pub lists_also : {E : Type 0} (result : Result Unit E) (after before more : Names) → HasAlso after.common before.common more.common
    → HasAlso after.entities before.entities more.entities → OnOk result (HasAlso after.actions before.actions more.actions)
    → OnOk result (HoldsAlso after before more)
lists_also (Ok x) after before more common entities actions = record { common = common; entities = entities; actions = actions }
lists_also (Err x) after before more common entities actions = tt

-- the names that are held once those of built-in types and of types of actions are added
pub all_held : {E : Type 0} (result : Result AllDefs E) (extensions : Extensions) (declared middle : Names) (names : List PlainName)
    → HasAlso middle.common declared.common names → middle.entities ≡ declared.entities → middle.actions ≡ declared.actions
    → Adds (SomeGives (IsBuiltInName (type_names declared)) (map (λ (it : Text × Expr). it.0) (built_in_types extensions))) [] names
    → IfOk result (λ defs. HasAlso (held_names defs).entities middle.entities (map (λ uid. uid.ty) middle.actions))
    → IfOk result (λ defs. (held_names defs).common ≡ middle.common) → IfOk result (λ defs. (held_names defs).actions ≡ middle.actions)
    → IfOk result (λ defs. (bag : Bag) → HoldsJust declared (names_given bag) → HoldsJust (held_names defs) (defined_names bag extensions))
all_held (Ok defs) extensions declared middle names also entities actions adds types common_stay actions_stay = λ bag just.
    let Common : List PlainName → Type 0 = λ each. SameItems each (defined_names bag extensions).common in
    let Actions : List PlainUid → Type 0 = λ each. SameItems each (defined_names bag extensions).actions in
    let Types : List PlainName → List PlainUid → Type 0 = λ each uids. HasAlso (held_names defs).entities each (map (λ uid. uid.ty) uids) in
    record {
      common = subst Common (sym common_stay) (defined_common bag extensions declared just middle.common names also adds);
      entities = same_entities bag extensions declared just (held_names defs).entities
          (subst (λ uids. Types declared.entities uids) actions (subst (λ each. Types each middle.actions) entities types));
      actions = subst Actions (sym (actions_stay ∙ actions)) just.actions;
    }
all_held (Err x) extensions declared middle names also entities actions adds types common_stay actions_stay = tt
