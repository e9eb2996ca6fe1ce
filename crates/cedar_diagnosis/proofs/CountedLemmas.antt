-- What stands in the expressions of a declaration that count, and at its positions.
use Rattle.std.proofs.Common.{◌≡◌, ◌⊎◌, ◌↔◌, OnOk, Result, Ok, Err, Bool, true, false, List, [], ◌++◌, map, ap, sym, ◌∙◌, subst, refl, inl, inr, Contains, Option, None, Some, append_assoc}
use Rattle.std.proofs.lemmas.Bool.{false≢true}
use Rattle.std.proofs.lemmas.List.Elements.{Contains-append_left, Contains-append_right, Contains-append_cases}
use Rattle.std.specs.Option.{option_map}
use Rattle.cedar_ast.proofs.Basics.{Contains-none}
use Rattle.cedar_ast.specs.Words.{PlainName, Text}
use Rattle.cedar_diagnosis.proofs.AddingLemmas.{adds_listed}
use Rattle.cedar_diagnosis.proofs.MentionLemmas.{adds_none, adds_same, adds_then}
use Rattle.cedar_diagnosis.specs.Adding.{Adds}
use Rattle.cedar_diagnosis.specs.Mentioned.{AddsCounted, AddsMentions, HasOpenIn, IsMentioned, MentionsIn, RefersIn, extensions_in, references_in}
use Rattle.cedar_diagnosis.specs.declared.mentions.Mentions.{Mentions}
use Rattle.cedar_schema_ast.specs.Words.{Body, Expr, Reference, action, action_body, entity_type, kind_body, no_member, raw_entity_body, raw_expr, raw_reference, record_expr}
use Rattle.cedar_schema_ast.specs.declared.json_schema.action_type.ActionType.{ActionType}
use Rattle.cedar_schema_ast.specs.declared.json_schema.action_type.ApplySpec.{ApplySpec}
use Rattle.cedar_schema_ast.specs.declared.json_schema.entity_type.EntityType.{EntityType}
use Rattle.cedar_schema_ast.specs.declared.json_schema.entity_type.EntityTypeKind.{EntityTypeKind}
use Rattle.cedar_schema_ast.specs.declared.json_schema.entity_type.EntityTypeKind.TheVariants as variant
use Rattle.cedar_schema_ast.specs.declared.json_schema.entity_type.StandardEntityType.{StandardEntityType}
use Rattle.cedar_schema_ast.specs.declared.json_schema.raw_name.RawName.{RawName}
use Rattle.cedar_schema_ast.specs.declared.json_schema.type_of.Type.{«Type»}
use Rattle.cedar_schema_ast.specs.ActionBody.{requests_by}
use Rattle.cedar_schema_semantics.specs.Words.{CountsIn, Entity, HasOpenRecord, IsEntityTypePosition, MentionsExtension, Refers}

-- where no expression counts, nothing is added
pub counted_none : (body : Body) (mentions : Mentions) → ((expr : Expr) → ¬ CountsIn body expr) → AddsCounted body mentions mentions
counted_none body mentions none =
    adds_none (RefersIn body) (MentionsIn body) (HasOpenIn body) mentions
    (λ reference some. none some.0 some.1) (λ word some. none some.0 some.1) (λ some. none some.0 some.1)

-- where those that count are one, what holds of it holds of one that counts
one_counts : (P : Expr → Type 0) (body : Body) (one : Expr) → ((expr : Expr) → CountsIn body expr ↔ (one ≡ expr))
    → P one ↔ ((expr : Expr) × CountsIn body expr × P expr)
one_counts P body one same = (λ holds. (one, (same one).1 refl, holds), λ some. subst P (sym ((same some.0).0 some.1)) some.2)

-- and where they are two
two_count : (P : Expr → Type 0) (body : Body) (one other : Expr)
    → ((expr : Expr) → CountsIn body expr ↔ ((one ≡ expr) ⊎ (other ≡ expr)))
    → (P one ⊎ P other) ↔ ((expr : Expr) × CountsIn body expr × P expr)
two_count P body one other same = (
  elim [ inl holds ↦ (one, (same one).1 (inl refl), holds) | inr holds ↦ (other, (same other).1 (inr refl), holds) ],
  λ some. elim ((same some.0).0 some.1) [
    | inl is ↦ inl (subst P (sym is) some.2)
    | inr is ↦ inr (subst P (sym is) some.2)
  ],
)

-- what the one expression that counts adds is added
pub counts_one : (body : Body) (one : Expr) (before after : Mentions)
    → ((expr : Expr) → CountsIn body expr ↔ (one ≡ expr)) → AddsMentions one before after → AddsCounted body before after
counts_one body one before after same adds =
    adds_same (Refers one) (RefersIn body) (MentionsExtension one) (MentionsIn body) (HasOpenRecord one) (HasOpenIn body) before after
    (λ reference. one_counts (λ expr. Refers expr reference) body one same)
    (λ word. one_counts (λ expr. MentionsExtension expr word) body one same)
    (one_counts HasOpenRecord body one same) adds

pub counted_one : {E : Type 0} (result : Result Unit E) (body : Body) (one : Expr) (before after : Mentions)
    → ((expr : Expr) → CountsIn body expr ↔ (one ≡ expr)) → OnOk result (AddsMentions one before after)
    → OnOk result (AddsCounted body before after)
counted_one (Ok x) body one before after same adds = counts_one body one before after same adds
counted_one (Err x) body one before after same adds = tt

-- what the two expressions that count add is added
pub counted_two : {E : Type 0} (result : Result Unit E) (body : Body) (one other : Expr) (before middle after : Mentions)
    → ((expr : Expr) → CountsIn body expr ↔ ((one ≡ expr) ⊎ (other ≡ expr))) → AddsMentions one before middle
    → OnOk result (AddsMentions other middle after) → OnOk result (AddsCounted body before after)
counted_two (Ok x) body one other before middle after same first second =
    adds_same (λ reference. Refers one reference ⊎ Refers other reference) (RefersIn body)
    (λ word. MentionsExtension one word ⊎ MentionsExtension other word) (MentionsIn body)
    (HasOpenRecord one ⊎ HasOpenRecord other) (HasOpenIn body) before after
    (λ reference. two_count (λ expr. Refers expr reference) body one other same)
    (λ word. two_count (λ expr. MentionsExtension expr word) body one other same)
    (two_count HasOpenRecord body one other same)
    (adds_then (Refers one) (Refers other) (MentionsExtension one) (MentionsExtension other) (HasOpenRecord one) (HasOpenRecord other)
    before middle after first second)
counted_two (Err x) body one other before middle after same first second = tt

-- what was added to nothing is what is mentioned
pub mentioned : (body : Body) (before after : Mentions) → references_in before ≡ [] → extensions_in before ≡ [] → before.has_open_record ≡ false
    → AddsCounted body before after → IsMentioned body after
mentioned body before after no_references no_extensions not_open adds =
    let Begins : List Reference → Type 0 = λ items. Adds (RefersIn body) items (references_in after) in
    let Mentions' : List Text → Type 0 = λ items. Adds (MentionsIn body) items (extensions_in after) in
    record {
      references = subst Begins no_references adds.references;
      extensions = subst Mentions' no_extensions adds.extensions;
      open_record = (
        λ is. elim (adds.open_record.0 is) [ inl old ↦ absurd (false≢true (sym not_open ∙ old)) | inr new ↦ new ],
        λ has. adds.open_record.1 (inr has),
      );
    }

module _ (namespace : Option PlainName) where
  -- what is declared of an entity type
  abbrev body_of : EntityTypeKind RawName → Bool → Body
  body_of kind external = entity_type (kind_body RawName (raw_reference namespace) kind external)

  -- of an external entity type no expression counts
  external_counts : (kind : EntityTypeKind RawName) (expr : Expr) → ¬ CountsIn (body_of kind true) expr
  external_counts (variant.Standard it) expr counts = counts
  external_counts (variant.Enum choices) expr counts = counts

  pub external_counts_none : (declared : EntityType RawName) → declared.external ≡ true
      → (expr : Expr) → ¬ CountsIn (entity_type (raw_entity_body namespace declared)) expr
  external_counts_none declared is expr counts =
      let Counts : Bool → Type 0 = λ external. CountsIn (body_of declared.kind external) expr in
      external_counts declared.kind expr (subst Counts is counts)

  -- nor of an enumerated one
  enumerated_counts : (kind : EntityTypeKind RawName) (external : Bool) → ((it : StandardEntityType RawName) → ¬ (kind ≡ variant.Standard it))
      → (expr : Expr) → ¬ CountsIn (body_of kind external) expr
  enumerated_counts (variant.Standard it) external other expr counts = other it refl
  enumerated_counts (variant.Enum choices) true other expr counts = counts
  enumerated_counts (variant.Enum choices) false other expr counts = counts

  pub enumerated_counts_none : (declared : EntityType RawName) → ((it : StandardEntityType RawName) → ¬ (declared.kind ≡ variant.Standard it))
      → (expr : Expr) → ¬ CountsIn (entity_type (raw_entity_body namespace declared)) expr
  enumerated_counts_none declared = enumerated_counts declared.kind declared.external

  module _ (declared : EntityType RawName) (it : StandardEntityType RawName) (is : declared.kind ≡ variant.Standard it) (here : declared.external ≡ false) where
    standard_is : entity_type (raw_entity_body namespace declared) ≡ body_of (variant.Standard it) false
    standard_is = (λ i. body_of (is i) (here i))

    -- of one without tags the shape counts
    pub shape_counts : it.tags ≡ None → (expr : Expr)
        → CountsIn (entity_type (raw_entity_body namespace declared)) expr ↔ (raw_expr namespace it.shape.0 ≡ expr)
    shape_counts none expr =
        let Counts : Body → Type 0 = λ body. CountsIn body expr in
        let no_tags : option_map (raw_expr namespace) it.tags ≡ None = ap (option_map (raw_expr namespace)) none in (
          λ counts. elim (subst Counts standard_is counts) [
            | inl shape ↦ shape
            | inr tags ↦ let wrong : None ≡ Some expr = sym no_tags ∙ tags in cc
          ],
          λ same. subst Counts (sym standard_is) (inl same),
        )

    -- of one with tags these too
    pub tags_count : (tags : «Type» RawName) → it.tags ≡ Some tags → (expr : Expr)
        → CountsIn (entity_type (raw_entity_body namespace declared)) expr
        ↔ ((raw_expr namespace it.shape.0 ≡ expr) ⊎ (raw_expr namespace tags ≡ expr))
    tags_count tags some expr =
        let Counts : Body → Type 0 = λ body. CountsIn body expr in
        let are : option_map (raw_expr namespace) it.tags ≡ Some (raw_expr namespace tags) = ap (option_map (raw_expr namespace)) some in (
          λ counts. elim (subst Counts standard_is counts) [
            | inl shape ↦ inl shape
            | inr last ↦ let both : Some (raw_expr namespace tags) ≡ Some expr = sym are ∙ last in inr cc
          ],
          elim [
            | inl shape ↦ subst Counts (sym standard_is) (inl shape)
            | inr last ↦ subst Counts (sym standard_is) (inr (are ∙ ap Some last))
          ],
        )

  -- the parents of an entity type stand at its positions
  standard_positions : (it : StandardEntityType RawName) (external : Bool) (reference : Reference)
      → Contains (map (raw_reference namespace Entity) it.member_of_types.items) reference
      ↔ IsEntityTypePosition (body_of (variant.Standard it) external) reference
  standard_positions it true reference = (λ among. among, λ among. among)
  standard_positions it false reference = (λ among. among, λ among. among)

  pub parents_are_positions : (declared : EntityType RawName) (it : StandardEntityType RawName) → declared.kind ≡ variant.Standard it
      → (reference : Reference) → Contains (map (raw_reference namespace Entity) it.member_of_types.items) reference
      ↔ IsEntityTypePosition (entity_type (raw_entity_body namespace declared)) reference
  parents_are_positions declared it is reference =
      let Positions : EntityTypeKind RawName → Type 0 = λ kind.
      Contains (map (raw_reference namespace Entity) it.member_of_types.items) reference
      ↔ IsEntityTypePosition (body_of kind declared.external) reference in
      subst Positions (sym is) (standard_positions it declared.external reference)

  -- an enumerated one has none
  enumerated_positions : (kind : EntityTypeKind RawName) (external : Bool) → ((it : StandardEntityType RawName) → ¬ (kind ≡ variant.Standard it))
      → (reference : Reference) → ¬ IsEntityTypePosition (body_of kind external) reference
  enumerated_positions (variant.Standard it) external other reference among = other it refl
  enumerated_positions (variant.Enum choices) true other reference among = Contains-none reference among
  enumerated_positions (variant.Enum choices) false other reference among = Contains-none reference among

  pub enumerated_has_no_positions : (declared : EntityType RawName)
      → ((it : StandardEntityType RawName) → ¬ (declared.kind ≡ variant.Standard it))
      → (reference : Reference) → ¬ IsEntityTypePosition (entity_type (raw_entity_body namespace declared)) reference
  enumerated_has_no_positions declared = enumerated_positions declared.kind declared.external

  -- what is declared of an action
  abbrev action_of : ActionType RawName → Body
  action_of declared = action (action_body RawName (raw_reference namespace) namespace declared)

  -- what is declared of an action by its requests
  abbrev action_by : ActionType RawName → Bool → Option (ApplySpec RawName) → Body
  action_by declared external applies_to = action (record {
    has_attributes = (action_body RawName (raw_reference namespace) namespace declared).has_attributes;
    parents = (action_body RawName (raw_reference namespace) namespace declared).parents;
    applies_to = requests_by RawName (raw_reference namespace) namespace external applies_to;
  })

  -- of an external action no expression counts, and it has no positions
  pub external_action_counts_none : (declared : ActionType RawName) → declared.external ≡ true → (expr : Expr) → ¬ CountsIn (action_of declared) expr
  external_action_counts_none declared is expr counts =
      let Counts : Bool → Type 0 = λ external. CountsIn (action_by declared external declared.applies_to) expr in
      subst Counts is counts

  pub external_action_has_no_positions : (declared : ActionType RawName) → declared.external ≡ true → (reference : Reference)
      → ¬ IsEntityTypePosition (action_of declared) reference
  external_action_has_no_positions declared is reference among =
      let Positions : Bool → Type 0 = λ external. IsEntityTypePosition (action_by declared external declared.applies_to) reference in
      subst Positions is among

  -- of one without requests nothing stands in the context
  pub no_requests_counted : (declared : ActionType RawName) (mentions : Mentions) → declared.external ≡ false → declared.applies_to ≡ None
      → AddsCounted (action_of declared) mentions mentions
  no_requests_counted declared mentions here none =
      let empty = record_expr no_member false in
      let same : action_of declared ≡ action_by declared false None = (λ i. action_by declared (here i) (none i)) in
      let Ends : Body → Type 0 = λ body. AddsCounted body mentions mentions in
      subst Ends (sym same)
      (adds_none (RefersIn (action_by declared false None)) (MentionsIn (action_by declared false None)) (HasOpenIn (action_by declared false None)) mentions
      (λ reference some. let Holds : Expr → Type 0 = λ expr. Refers expr reference in subst Holds (sym some.1) some.2)
      (λ word some. let Holds : Expr → Type 0 = λ expr. MentionsExtension expr word in subst Holds (sym some.1) some.2)
      (λ some. elim (subst HasOpenRecord (sym some.1) some.2) [ inl is ↦ false≢true is | inr never ↦ never ]))

  pub no_requests_no_positions : (declared : ActionType RawName) → declared.applies_to ≡ None → declared.external ≡ false → (reference : Reference)
      → ¬ IsEntityTypePosition (action_of declared) reference
  no_requests_no_positions declared none here reference among =
      let same : action_of declared ≡ action_by declared false None = (λ i. action_by declared (here i) (none i)) in
      let Positions : Body → Type 0 = λ body. IsEntityTypePosition body reference in
      elim (subst Positions same among) [ inl none' ↦ Contains-none reference none' | inr none' ↦ Contains-none reference none' ]

  module _ (declared : ActionType RawName) (it : ApplySpec RawName) (is : declared.applies_to ≡ Some it) (here : declared.external ≡ false) where
    requests_are : action_of declared ≡ action_by declared false (Some it)
    requests_are = (λ i. action_by declared (here i) (is i))

    -- of any other the context counts
    pub context_counts : (expr : Expr) → CountsIn (action_of declared) expr ↔ (raw_expr namespace it.context.0 ≡ expr)
    context_counts expr =
        let Counts : Body → Type 0 = λ body. CountsIn body expr in
        (λ counts. subst Counts requests_are counts, λ same. subst Counts (sym requests_are) same)

    -- and its principals and resources stand at its positions
    pub requested_are_positions : (reference : Reference)
        → Contains (map (raw_reference namespace Entity) it.principal_types.items ++ map (raw_reference namespace Entity) it.resource_types.items) reference
        ↔ IsEntityTypePosition (action_of declared) reference
    requested_are_positions reference =
        let principals = map (raw_reference namespace Entity) it.principal_types.items in
        let resources = map (raw_reference namespace Entity) it.resource_types.items in
        let Positions : Body → Type 0 = λ body. IsEntityTypePosition body reference in (
          λ among. subst Positions (sym requests_are) (Contains-append_cases principals resources reference among),
          λ stands. elim (subst Positions requests_are stands) [
            | inl principal ↦ Contains-append_left principals resources reference principal
            | inr resource ↦ Contains-append_right principals resources reference resource
          ],
        )

-- names that are listed at positions are added
pub positions_listed : {E : Type 0} (result : Result Unit E) (body : Body) (before after more : List Reference)
    → ((reference : Reference) → Contains more reference ↔ IsEntityTypePosition body reference) → OnOk result (after ≡ before ++ more)
    → OnOk result (Adds (IsEntityTypePosition body) before after)
positions_listed (Ok x) body before after more same is = adds_listed (IsEntityTypePosition body) before after more is same
positions_listed (Err x) body before after more same is = tt

-- what is declared adds what the body that it is does
pub alike_counted : {E : Type 0} (result : Result Unit E) (body other : Body) (before after : Mentions) → body ≡ other
    → OnOk result (AddsCounted other before after) → OnOk result (AddsCounted body before after)
alike_counted result body other before after same adds =
    let Ends : Body → Type 0 = λ each. OnOk result (AddsCounted each before after) in
    subst Ends (sym same) adds

-- and has its positions
pub alike_positions : {E : Type 0} (result : Result Unit E) (body other : Body) (before after : List Reference) → body ≡ other
    → OnOk result (Adds (IsEntityTypePosition other) before after) → OnOk result (Adds (IsEntityTypePosition body) before after)
alike_positions result body other before after same adds =
    let Ends : Body → Type 0 = λ each. OnOk result (Adds (IsEntityTypePosition each) before after) in
    subst Ends (sym same) adds

-- names that are listed after others
pub listed_twice : {E X : Type 0} (result : Result Unit E) (before middle after more others : List X) → middle ≡ before ++ more
    → OnOk result (after ≡ middle ++ others) → OnOk result (after ≡ before ++ (more ++ others))
listed_twice (Ok x) before middle after more others first second =
    second ∙ (ap (λ front. front ++ others) first ∙ append_assoc before more others)
listed_twice (Err x) before middle after more others first second = tt
