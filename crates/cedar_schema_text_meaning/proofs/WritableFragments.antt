-- Fragments that can be written beside each other, and their bag.
use Rattle.std.proofs.Common.{◌≡◌, ◌⊎◌, Bool, true, false, List, [], ◌∷◌, ◌++◌, Option, None, Some, cond, map, sym, subst, ◌∙◌, refl, inl, inr, arith, Contains}
use Rattle.std.proofs.lemmas.List.{map-append}
use Rattle.std.proofs.lemmas.List.Elements.{Contains-append_cases, Contains-append_left, Contains-append_right}
use Rattle.std.specs.List.{flat_map}
use Rattle.std.specs.Option.{is_some, option_map}
use Rattle.cedar_ast.proofs.Basics.{Contains-image}
use Rattle.cedar_ast.proofs.Lists.{Contains-cons_cases, Contains-preimage}
use Rattle.cedar_ast.specs.Words.{HoldsPairwise, PlainName, PlainUid, SameItems, plain_name}
use Rattle.cedar_ast.specs.declared.name.Name.{Name}
use Rattle.cedar_name_resolution.specs.HeldNames.{HoldsJust}
use Rattle.cedar_schema_ast.specs.Words.{Declaration, Expr, action_body, action_declarations, common_declarations, entity_declarations, kind_body, raw_bag, raw_declarations, raw_expr, raw_fragment, raw_reference, requests_by}
use Rattle.cedar_schema_ast.specs.declared.json_schema.action_type.ActionType.{ActionType}
use Rattle.cedar_schema_ast.specs.declared.json_schema.action_type.ApplySpec.{ApplySpec}
use Rattle.cedar_schema_ast.specs.declared.json_schema.entity_type.EntityTypeKind.{EntityTypeKind}
use Rattle.cedar_schema_ast.specs.declared.json_schema.entity_type.EntityTypeKind.TheVariants as variant
use Rattle.cedar_schema_ast.specs.declared.json_schema.fragment.Fragment.{Fragment}
use Rattle.cedar_schema_ast.specs.declared.json_schema.fragment.NamespaceDefinition.{NamespaceDefinition}
use Rattle.cedar_schema_ast.specs.declared.json_schema.raw_name.RawName.{RawName}
use Rattle.cedar_schema_ast.specs.declared.json_schema.type_of.Type.{«Type»}
use Rattle.cedar_schema_semantics.proofs.OccurrenceLemmas.{Contains-flat_map, Contains-given}
use Rattle.cedar_schema_semantics.specs.Words.{Bag, CountsInEntity, CountsInRequests, action_in, action_uids, common_in, declared_entities, declared_name, declared_uid, entity_in}
use Rattle.cedar_schema_text_meaning.proofs.ReferencesMean.{neither_there}
use Rattle.cedar_schema_text_meaning.proofs.WrittenReferences.{type_is_written}
use Rattle.cedar_schema_text_meaning.specs.TextForm.{declaration_form, first_by}
use Rattle.cedar_schema_text_meaning.specs.TogetherWritten.{DeclaresForm, FormsOfFragmentsAreTheFormOfTheirBag, WritableFragmentsAreAWritableBag}
use Rattle.cedar_schema_text_meaning.specs.WritableBag.{AreWritableRequests, AreWritableTags, IsUnreserved, IsWritableContext, IsWritableDeclaration, IsWritableEntity, IsWritableShape, IsWritableType, IsWrittenIn}
use Rattle.cedar_schema_text_writer.proofs.NamesGiven.{first_same}
use Rattle.cedar_schema_text_writer.specs.Flaws.{Id, action_flaw, applies_to_flaw, common_types_flaw, context_flaw, declared_flaw, definition_flaw, entity_kind_flaw, entity_types_flaw, is_record, namespaces_flaw, shape_flaw, tags_flaw, type_flaw}
use Rattle.cedar_schema_text_writer.specs.Names.{First, first_beside, names_of_bag}
use Rattle.cedar_schema_text_writer.specs.declared.fault.Part.{Part}
use Rattle.cedar_schema_text_writer.specs.declared.fault.Part.TheVariants as part

-- what is chosen isn't there: the test tells which
not_chosen : {A : Type 0} (test : Bool) (it other : Option A) → cond test it other ≡ None → ((test ≡ true) × (it ≡ None)) ⊎ ((test ≡ false) × (other ≡ None))
not_chosen true it other none = inl (refl, none)
not_chosen false it other none = inr (refl, none)

-- where a thing would be found, the test failed, and the rest isn't there
past : {A : Type 0} (test : Bool) (it : A) (other : Option A) → cond test (Some it) other ≡ None → other ≡ None
past true it other none = absurd (cc)
past false it other none = none

-- where nothing would be found behind, the test held
held : {A : Type 0} (test : Bool) (it : Option A) (other : A) → cond test it (Some other) ≡ None → (test ≡ true) × (it ≡ None)
held true it other none = (refl, none)
held false it other none = absurd (cc)

-- what gives nothing isn't there
nothing_mapped : {A B : Type 0} (f : A → B) (it : Option A) → option_map f it ≡ None → it ≡ None
nothing_mapped f None none = refl
nothing_mapped f (Some it) none = absurd (cc)

-- where no declaration has a flaw, each has none
each_flawless : {K T : Type 0} (namespace : Option PlainName) (id : K → Id) (flaw : T → Option _) (entries : List (K × T))
    → declared_flaw namespace id flaw entries ≡ None → (entry : K × T) → Contains entries entry → flaw entry.1 ≡ None
each_flawless namespace id flaw [] none entry among = absurd (omega (arith, among.1))
each_flawless namespace id flaw (first ∷ rest) none entry among =
    let neither = neither_there _ (declared_flaw namespace id flaw rest) none in
    elim (Contains-cons_cases first rest entry among) [
      | inl same ↦ subst (λ each. flaw each.1 ≡ None) same (nothing_mapped _ (flaw first.1) neither.0)
      | inr later ↦ each_flawless namespace id flaw rest neither.1 entry later
    ]

module _ (first : First) (namespace : Option PlainName) where
  -- a type without a flaw can be written
  type_writable : (in_part : Part) (ty : «Type» RawName) → type_flaw first namespace in_part ty ≡ None
      → IsWritableType first in_part (raw_expr namespace ty)
  type_writable in_part ty flawless = past _ _ _ flawless

  shape_writable : (ty : «Type» RawName) → shape_flaw first namespace ty ≡ None → IsWritableShape first (raw_expr namespace ty)
  shape_writable ty flawless =
      let is = held (is_record (raw_expr namespace ty)) _ _ flawless in (is.0, type_writable part.Shape ty is.1)

  tags_writable : (tags : Option («Type» RawName)) → tags_flaw first namespace tags ≡ None
      → AreWritableTags first (option_map (raw_expr namespace) tags)
  tags_writable None flawless = tt
  tags_writable (Some ty) flawless = type_writable part.Tags ty flawless

  context_writable : (ty : «Type» RawName) → context_flaw first namespace ty ≡ None → IsWritableContext first (raw_expr namespace ty)
  context_writable ty flawless = elim (not_chosen (is_record (raw_expr namespace ty)) _ _ flawless) [
    | inl is ↦ inl (is.0, type_writable part.Context ty is.1)
    | inr isn't ↦ inr isn't.1
  ]

  kind_writable : (kind : EntityTypeKind RawName) (is_external : Bool) → entity_kind_flaw first namespace kind ≡ None
      → IsWritableEntity first (kind_body RawName (raw_reference namespace) kind is_external)
  kind_writable (variant.Standard it) false flawless =
      let neither = neither_there (shape_flaw first namespace it.shape.0) _ flawless in
      (shape_writable it.shape.0 neither.0, tags_writable it.tags neither.1)
  kind_writable (variant.Standard it) true flawless = tt
  kind_writable (variant.Enum choices) false flawless = tt
  kind_writable (variant.Enum choices) true flawless = tt

  requests_writable : (is_external : Bool) (it : Option (ApplySpec RawName)) → applies_to_flaw first namespace it ≡ None
      → AreWritableRequests first (requests_by RawName (raw_reference namespace) namespace is_external it)
  requests_writable true it flawless = tt
  requests_writable false None flawless = inl (refl, refl)
  requests_writable false (Some it) flawless = context_writable it.context.0 flawless

  action_writable : (it : ActionType RawName) → action_flaw first namespace it ≡ None
      → AreWritableRequests first (action_body RawName (raw_reference namespace) namespace it).applies_to
  action_writable it flawless = requests_writable it.external it.applies_to (past (is_some it.attributes) _ _ flawless)

-- what counts in an entity type was written
kind_written : (namespace : Option PlainName) (kind : EntityTypeKind RawName) (is_external : Bool) (ty : Expr)
    → CountsInEntity (kind_body RawName (raw_reference namespace) kind is_external) ty → IsWrittenIn namespace ty
kind_written namespace (variant.Standard it) false ty counts = elim counts [
  | inl is ↦ subst (IsWrittenIn namespace) is (type_is_written namespace it.shape.0)
  | inr is ↦ of_tags it.tags is
]
  where
    of_tags : (tags : Option («Type» RawName)) → option_map (raw_expr namespace) tags ≡ Some ty → IsWrittenIn namespace ty
    of_tags None is = absurd (cc)
    of_tags (Some tag) is = let same : raw_expr namespace tag ≡ ty = cc in subst (IsWrittenIn namespace) same (type_is_written namespace tag)
kind_written namespace (variant.Standard it) true ty counts = absurd counts
kind_written namespace (variant.Enum choices) false ty counts = absurd counts
kind_written namespace (variant.Enum choices) true ty counts = absurd counts

-- and so was a context
requests_written : (namespace : Option PlainName) (is_external : Bool) (it : Option (ApplySpec RawName)) (ty : Expr)
    → CountsInRequests (requests_by RawName (raw_reference namespace) namespace is_external it) ty → IsWrittenIn namespace ty
requests_written namespace true it ty counts = absurd counts
requests_written namespace false None ty counts = subst (IsWrittenIn namespace) counts (λ reference none. absurd none)
requests_written namespace false (Some it) ty counts = subst (IsWrittenIn namespace) counts (type_is_written namespace it.context.0)

-- a declaration of a definition without a flaw can be written
definition_writable : (first : First) (namespace : Option PlainName) → IsUnreserved namespace → (definition : NamespaceDefinition RawName)
    → definition_flaw first namespace definition ≡ None → (it : Declaration) → Contains (raw_declarations namespace definition) it
    → IsWritableDeclaration first it
definition_writable first namespace unreserved definition flawless it among =
    let common = common_declarations RawName (raw_reference namespace) namespace definition.common_types.entries in
    let entities = entity_declarations RawName (raw_reference namespace) namespace definition.entity_types.entries in
    let actions = action_declarations RawName (raw_reference namespace) namespace definition.actions.entries in
    let neither = neither_there (common_types_flaw first namespace definition) _ flawless in
    let none_later = neither_there (entity_types_flaw first namespace definition) _ neither.1 in
    elim (Contains-append_cases (common ++ entities) actions it among) [
      | inl types ↦ elim (Contains-append_cases common entities it types) [
        | inl here ↦
            let found = Contains-preimage _ definition.common_types.entries it here in
            subst (IsWritableDeclaration first) found.2 (record {
              namespace = unreserved;
              references = λ ty counts. subst (IsWrittenIn namespace) counts (type_is_written namespace found.0.1.ty);
              body = type_writable first namespace part.Definition found.0.1.ty
                  (each_flawless namespace _ _ definition.common_types.entries neither.0 found.0 found.1);
            })
        | inr here ↦
            let found = Contains-preimage _ definition.entity_types.entries it here in
            subst (IsWritableDeclaration first) found.2 (record {
              namespace = unreserved;
              references = kind_written namespace found.0.1.kind found.0.1.external;
              body = kind_writable first namespace found.0.1.kind found.0.1.external
                  (each_flawless namespace _ _ definition.entity_types.entries none_later.0 found.0 found.1);
            })
      ]
      | inr here ↦
          let found = Contains-preimage _ definition.actions.entries it here in
          subst (IsWritableDeclaration first) found.2 (record {
            namespace = unreserved;
            references = requests_written namespace found.0.1.external found.0.1.applies_to;
            body = action_writable first namespace found.0.1
                (each_flawless namespace _ _ definition.actions.entries none_later.1 found.0 found.1);
          })
    ]

-- the name of a namespace isn't reserved
name_unreserved : (name : Option Name) → IsUnreserved (option_map plain_name name)
name_unreserved None = tt
name_unreserved (Some name) = name.unreserved

-- a declaration of a fragment without a flaw can be written
fragment_writable : (first : First) (entries : List (Option Name × NamespaceDefinition RawName)) → namespaces_flaw first entries ≡ None
    → (entry : Option Name × NamespaceDefinition RawName) → Contains entries entry → (it : Declaration)
    → Contains (raw_declarations (option_map plain_name entry.0) entry.1) it → IsWritableDeclaration first it
fragment_writable first [] flawless entry among it there = absurd (omega (arith, among.1))
fragment_writable first (one ∷ rest) flawless entry among it there =
    let neither = neither_there (definition_flaw first (option_map plain_name one.0) one.1) _ flawless in
    elim (Contains-cons_cases one rest entry among) [
      | inl same ↦
          definition_writable first (option_map plain_name one.0) (name_unreserved one.0) one.1 neither.0 it
          (subst (λ (each : Option Name × NamespaceDefinition RawName). Contains (raw_declarations (option_map plain_name each.0) each.1) it) (sym same) there)
      | inr later ↦ fragment_writable first rest neither.1 entry later it there
    ]

-- where what the one bag holds the other does, what is read of the one is of the other
read_included : {K V : Type 0} (read : Declaration → List (K × V)) (bag other : Bag) → ((it : Declaration) → Contains bag it → Contains other it)
    → (name : K) → Contains (map (λ (it : K × V). it.0) (flat_map read bag)) name → Contains (map (λ (it : K × V). it.0) (flat_map read other)) name
read_included {K} {V} read bag other included name among =
    let entry = Contains-preimage (λ (it : K × V). it.0) (flat_map read bag) name among in
    let by = Contains-flat_map read bag entry.0 entry.1 in
    subst (Contains (map (λ (it : K × V). it.0) (flat_map read other))) entry.2
    (Contains-image (λ (it : K × V). it.0) (flat_map read other) entry.0 (Contains-given read other by.0 entry.0 (included by.0 by.1) by.2))

module _ (bag other : Bag) (included : (it : Declaration) → Contains bag it → Contains other it) where
  common_included : (name : PlainName) → Contains (names_of_bag bag).common name → Contains (names_of_bag other).common name
  common_included = read_included (λ it. common_in (declared_name it) it.body) bag other included

  entities_included : (name : PlainName) → Contains (names_of_bag bag).entities name → Contains (names_of_bag other).entities name
  entities_included name among =
      elim (Contains-append_cases (map (λ it. it.0) (declared_entities bag)) (map (λ uid. uid.ty) (action_uids bag)) name among) [
        | inl entity ↦
            Contains-append_left (map (λ it. it.0) (declared_entities other)) (map (λ uid. uid.ty) (action_uids other)) name
            (read_included (λ it. entity_in (declared_name it) it.body) bag other included name entity)
        | inr of_action ↦
            let uid = Contains-preimage (λ (uid : PlainUid). uid.ty) (action_uids bag) name of_action in
            Contains-append_right (map (λ it. it.0) (declared_entities other)) (map (λ uid. uid.ty) (action_uids other)) name
            (subst (Contains (map (λ uid. uid.ty) (action_uids other))) uid.2 (Contains-image (λ (uid : PlainUid). uid.ty) (action_uids other) uid.0
            (read_included (λ it. action_in (declared_uid it) it.body) bag other included uid.0 uid.1)))
      ]

-- bags that hold the same declare the same names
names_just : (bag other : Bag) → ((it : Declaration) → Contains bag it → Contains other it) → ((it : Declaration) → Contains other it → Contains bag it)
    → HoldsJust (names_of_bag bag) (names_of_bag other)
names_just bag other forth back = record {
  common = λ name. (common_included bag other forth name, common_included other bag back name);
  entities = λ name. (entities_included bag other forth name, entities_included other bag back name);
  actions = λ uid. (λ among. among, λ among. among);
}

-- of more fragments the bag holds more
bag_included : (fragments others : List (Fragment RawName)) → ((it : Fragment RawName) → Contains fragments it → Contains others it)
    → (it : Declaration) → Contains (raw_bag fragments) it → Contains (raw_bag others) it
bag_included fragments others included it among =
    let by = Contains-flat_map raw_fragment fragments it among in Contains-given raw_fragment others by.0 it (included by.0 by.1) by.2

-- names would name the same beside a fragment's others and in the bag of all
first_in_bag : (fragments : List (Fragment RawName)) (it : Fragment RawName) (beside : List (Fragment RawName)) → SameItems (it ∷ beside) fragments
    → first_beside it beside ≡ first_by (raw_bag fragments)
first_in_bag fragments it beside same =
    let all = raw_bag (it ∷ beside) in
    first_same (names_of_bag all) (names_of_bag (raw_bag fragments))
    (names_just all (raw_bag fragments) (bag_included (it ∷ beside) fragments (λ each. (same each).0))
    (bag_included fragments (it ∷ beside) (λ each. (same each).1)))

-- the bag of fragments that can be written beside each other can be written
pub writable_fragments : WritableFragmentsAreAWritableBag
writable_fragments fragments writable it among =
    let fragment = Contains-flat_map raw_fragment fragments it among in
    let entry = Contains-flat_map (λ (each : Option Name × NamespaceDefinition RawName). raw_declarations (option_map plain_name each.0) each.1)
    fragment.0.0.entries it fragment.2 in
    let beside = writable fragment.0 fragment.1 in
    subst (λ each. IsWritableDeclaration each it) (first_in_bag fragments fragment.0 beside.0 beside.1)
    (fragment_writable (first_beside fragment.0 beside.0) fragment.0.0.entries beside.2 entry.0 entry.1 it entry.2)

-- the bag of fragments that declare the text forms of others is the text form of their bag
pub forms_together : FormsOfFragmentsAreTheFormOfTheirBag
forms_together fragments = by fragments where
  by : (some others : List (Fragment RawName)) → HoldsPairwise (DeclaresForm fragments) some others
      → raw_bag others ≡ map (declaration_form (first_by (raw_bag fragments))) (raw_bag some)
  by [] [] turn = refl
  by (it ∷ rest) (other ∷ others) turn =
      let form = declaration_form (first_by (raw_bag fragments)) in
      let here : raw_fragment other ≡ map form (raw_fragment it) =
      turn.0.2 ∙ (λ i. map (declaration_form (first_in_bag fragments it turn.0.0 turn.0.1 i)) (raw_fragment it)) in
      (λ i. here i ++ by rest others turn.1 i) ∙ sym (map-append form (raw_fragment it) (raw_bag rest))
  by _ _ turn = absurd turn
