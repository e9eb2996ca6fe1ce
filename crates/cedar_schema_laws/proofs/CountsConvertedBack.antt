-- In the bag of a schema that is in order and converted back nothing is defined twice.
use Rattle.std.proofs.Common.{◌≡◌, ◌⊎◌, List, [], ◌∷◌, ◌++◌, map, ap, ◌∙◌, refl, inl, inr, arith, Contains}
use Rattle.std.proofs.lemmas.List.{map-append}
use Rattle.std.proofs.lemmas.List.Sorted.{IsPermutation-sym}
use Rattle.std.specs.List.{flat_map}
use Rattle.cedar_ast.proofs.Basics.{Contains-image, Contains-single}
use Rattle.cedar_ast.proofs.Lists.{Contains-cons, Contains-preimage}
use Rattle.cedar_ast.proofs.PlainNames.{name_cmp-total, uid_cmp-total}
use Rattle.cedar_schema_laws.proofs.EntriesConvertedBack.{no_common_type}
use Rattle.cedar_schema_laws.proofs.OrderLaws.{order_is_nothing}
use Rattle.cedar_schema_laws.specs.Words.{ActionBody, Bag, EntityBody, Expr, Extensions, HoldsPairwise, IsActionDeclaration, IsConvertedBack, IsInOrder, IsTypeDeclaration, PlainName, PlainSchema, PlainUid, Requests, SchemaAction, SchemaEntityType, Twice, TypeNamesFit, action_definition_in, action_in, built_ins, declared_actions, declared_common, declared_entities, declared_name, declared_uid, defined_actions, defined_entities, elsewhere, entity_in, extension_types, name_cmp, requests, uid_cmp}
use Rattle.cedar_schema_semantics.proofs.BuiltInLemmas.{built_ins_once}
use Rattle.cedar_schema_semantics.proofs.OccurrenceLemmas.{Contains-flat_map, Twice-append, Twice-sorted_by_name}
use Rattle.cedar_schema_semantics.proofs.TogetherLemmas.{twice_declared}

-- what stands twice stands in the list
twice_among : {A : Type 0} (xs : List A) (x : A) → Twice xs x → Contains xs x
twice_among [] x twice = absurd twice
twice_among (first ∷ rest) x twice =
    Contains-cons first rest x (elim twice [ inl here ↦ inl here.0 | inr later ↦ inr (twice_among rest x later) ])

-- where each entry gives one under its own key at most, a key that stands twice in what they give
-- stands twice in theirs
module _ {K V W : Type 0} (f : K × V → List (K × W))
    (each : (it : K × V) → (f it ≡ []) ⊎ ((value : W) × (f it ≡ (it.0, value) ∷ []))) where
  -- a key of what the entries give is one of theirs
  given_key : (entries : List (K × V)) (key : K) → Contains (map (λ it. it.0) (flat_map f entries)) key
      → Contains (map (λ it. it.0) entries) key
  given_key entries key among =
      let given = Contains-preimage (λ (it : K × W). it.0) (flat_map f entries) key among in
      let from = Contains-flat_map f entries given.0 given.1 in
      elim (each from.0) [
        | inl none ↦ absurd (omega (arith, (rw none at from.2).1))
        | inr one ↦
            let same : from.0.0 ≡ given.0.0 = ap (λ (it : K × W). it.0) (Contains-single (from.0.0, one.0) given.0 (rw one.1 at from.2)) in
            rw (same ∙ given.2) at (Contains-image (λ (it : K × V). it.0) entries from.0 from.1)
      ]

  -- so it stands twice
  pub twice_given : (entries : List (K × V)) (key : K) → Twice (map (λ it. it.0) (flat_map f entries)) key
      → Twice (map (λ it. it.0) entries) key
  twice_given [] key twice = twice
  twice_given (first ∷ rest) key twice =
      elim (each first) [
        | inl none ↦ inr (twice_given rest key (rw none at twice))
        | inr one ↦
            elim (rw one.1 at twice) [
              | inl here ↦ inl (here.0, given_key rest key here.1)
              | inr later ↦ inr (twice_given rest key later)
            ]
      ]

-- an action gives one definition at most
one_definition_in : (it : PlainUid × ActionBody) → (action_definition_in it.0 it.1.applies_to ≡ [])
    ⊎ ((value : Requests) × (action_definition_in it.0 it.1.applies_to ≡ (it.0, value) ∷ []))
one_definition_in it = by it.1.applies_to where
  by : (of : Requests) → (action_definition_in it.0 of ≡ []) ⊎ ((value : Requests) × (action_definition_in it.0 of ≡ (it.0, value) ∷ []))
  by (requests principals resources context) = inr (requests principals resources context, refl)
  by elsewhere = inl refl

module _ (schema : PlainSchema) where
  -- the declarations of actions declare no entity types
  actions_declare_no_type : (actions : List (PlainUid × SchemaAction)) (bag : Bag) → HoldsPairwise (IsActionDeclaration schema) actions bag
      → declared_entities bag ≡ []
  actions_declare_no_type [] [] turn = refl
  actions_declare_no_type (it ∷ others) (d ∷ rest) turn =
      ap (λ body. entity_in (declared_name d) body ++ declared_entities rest) turn.0.declares
      ∙ actions_declare_no_type others rest turn.1
  actions_declare_no_type _ _ turn = absurd turn

  -- the declarations of entity types declare their names
  types_declare_their_names : (types : List (PlainName × SchemaEntityType)) (bag after : Bag)
      → HoldsPairwise (IsTypeDeclaration schema) types bag → declared_entities after ≡ []
      → map (λ it. it.0) (declared_entities (bag ++ after)) ≡ map (λ it. it.0) types
  types_declare_their_names [] [] after turn none = ap (map (λ (it : PlainName × EntityBody). it.0)) none
  types_declare_their_names (it ∷ others) (d ∷ rest) after turn none =
      ap (λ body. map (λ (each : PlainName × EntityBody). each.0) (entity_in (declared_name d) body ++ declared_entities (rest ++ after)))
      turn.0.declares ∙ (λ i. turn.0.name i ∷ types_declare_their_names others rest after turn.1 none i)
  types_declare_their_names _ _ after turn none = absurd turn

  -- the declarations of entity types declare no actions
  types_declare_no_action : (types : List (PlainName × SchemaEntityType)) (bag after : Bag)
      → HoldsPairwise (IsTypeDeclaration schema) types bag → declared_actions (bag ++ after) ≡ declared_actions after
  types_declare_no_action [] [] after turn = refl
  types_declare_no_action (it ∷ others) (d ∷ rest) after turn =
      ap (λ body. action_in (declared_uid d) body ++ declared_actions (rest ++ after)) turn.0.declares
      ∙ types_declare_no_action others rest after turn.1
  types_declare_no_action _ _ after turn = absurd turn

  -- the declarations of actions declare their uids
  actions_declare_their_uids : (actions : List (PlainUid × SchemaAction)) (bag : Bag)
      → HoldsPairwise (IsActionDeclaration schema) actions bag → map (λ it. it.0) (declared_actions bag) ≡ map (λ it. it.0) actions
  actions_declare_their_uids [] [] turn = refl
  actions_declare_their_uids (it ∷ others) (d ∷ rest) turn =
      ap (λ body. map (λ (each : PlainUid × ActionBody). each.0) (action_in (declared_uid d) body ++ declared_actions rest))
      turn.0.declares ∙ (λ i. turn.0.uid i ∷ actions_declare_their_uids others rest turn.1 i)
  actions_declare_their_uids _ _ turn = absurd turn

module _ (schema : PlainSchema) (bag : Bag) (order : IsInOrder schema) (written : IsConvertedBack schema bag) where
  -- no entity type is defined twice
  pub types_once : (name : PlainName) → ¬ Twice (map (λ it. it.0) (defined_entities bag)) name
  types_once name twice =
      let ordered = written.entity_types ++ written.actions in
      let other = (order_is_nothing bag ordered (IsPermutation-sym ordered bag written.in_some_order)).0.entities_twice name twice in
      let keys = types_declare_their_names schema schema.entity_types written.entity_types written.actions written.each_entity_type
      (actions_declare_no_type schema schema.actions written.actions written.each_action) in
      Twice-sorted_by_name name_cmp name_cmp-total (map (λ it. it.0) schema.entity_types) name order.entity_types
      (rw keys at (twice_declared (declared_entities ordered) name other))

  -- no action is defined twice
  pub actions_once : (uid : PlainUid) → ¬ Twice (map (λ it. it.0) (defined_actions bag)) uid
  actions_once uid twice =
      let ordered = written.entity_types ++ written.actions in
      let other = (order_is_nothing bag ordered (IsPermutation-sym ordered bag written.in_some_order)).0.actions_twice uid twice in
      let keys = ap (map (λ (it : PlainUid × ActionBody). it.0))
      (types_declare_no_action schema schema.entity_types written.entity_types written.actions written.each_entity_type)
      ∙ actions_declare_their_uids schema schema.actions written.actions written.each_action in
      Twice-sorted_by_name uid_cmp uid_cmp-total (map (λ it. it.0) schema.actions) uid order.actions
      (rw keys at (twice_given (λ it. action_definition_in it.0 it.1.applies_to) one_definition_in (declared_actions ordered) uid other))

-- no common type is defined twice, since none is declared
pub common_types_once : (schema : PlainSchema) (bag : Bag) (extensions : Extensions) → TypeNamesFit (extension_types extensions)
    → IsConvertedBack schema bag → (name : PlainName) → ¬ Twice (map (λ it. it.0) (declared_common bag ++ built_ins extensions)) name
common_types_once schema bag extensions fit written name twice =
    let none : ¬ Contains (map (λ (it : PlainName × Expr). it.0) (declared_common bag)) name =
    λ among. no_common_type schema bag written _
    (Contains-preimage (λ (it : PlainName × Expr). it.0) (declared_common bag) name among).1 in
    let keys = map-append (λ (it : PlainName × Expr). it.0) (declared_common bag) (built_ins extensions) in
    elim (Twice-append (map (λ it. it.0) (declared_common bag)) (map (λ it. it.0) (built_ins extensions)) name (rw keys at twice)) [
      | inl declared ↦ none (twice_among _ name declared)
      | inr others ↦ elim others [ inl left ↦ built_ins_once extensions fit name left | inr both ↦ none both.0 ]
    ]
