-- Where an extension type is mentioned that wasn't handed in, a bag is ill-formed, and so is its text
-- form.
use Rattle.std.proofs.Common.{◌≡◌, ◌⊎◌, List, [], ◌∷◌, Option, None, Some, sym, subst, ◌∙◌, refl, inl, inr, arith, Contains}
use Rattle.std.proofs.lemmas.Bool.{false≢true}
use Rattle.std.specs.Option.{option_map}
use Rattle.cedar_ast.proofs.Basics.{Contains-image, Contains-single}
use Rattle.cedar_ast.proofs.Lists.{Contains-cons, Contains-cons_cases}
use Rattle.cedar_ast.specs.Words.{PlainName, Text, extension_types}
use Rattle.cedar_ast.specs.declared.extension.Extensions.{Extensions}
use Rattle.cedar_schema_ast.specs.Words.{Body, Declaration, EntityBody, Expr, Members, Reference, Requests, action, common_type, elsewhere, entity_type, enumerated, extension_expr, external, long_expr, member, named, no_member, record_expr, reference_to, requests, set_expr, standard, text_expr, truth_expr}
use Rattle.cedar_schema_ast.specs.declared.json_schema.reference_type.ReferenceType.TheVariants as refers
use Rattle.cedar_schema_semantics.specs.Words.{Bag, CountsIn, CountsInEntity, CountsInRequests, HasToResolve, IsIllFormed, IsUnresolved, MembersMentionExtension, MembersRefer, MentionsExtension, Refers, alias_name, defined_names, type_not_defined, unknown_extension_type}
use Rattle.cedar_schema_text_meaning.proofs.BuiltInsWritten.{names_nothing}
use Rattle.cedar_schema_text_meaning.proofs.FirstDeclared.{no_built_in}
use Rattle.cedar_schema_text_meaning.proofs.FormsLike.{MembersMentionKnown, MentionsKnown}
use Rattle.cedar_schema_text_meaning.proofs.ReferencesMean.{neither_there, nothing_found}
use Rattle.cedar_schema_text_meaning.proofs.SameNames.{first_same, form_free}
use Rattle.cedar_schema_text_meaning.specs.TextForm.{built_in_form, bag_form, body_form, context_form, declaration_form, entity_form, expr_form, first_by, members_form, requests_form}
use Rattle.cedar_schema_text_meaning.specs.TextMeaning.{HasKnownExtensions}
use Rattle.cedar_schema_text_meaning.specs.WritableBag.{AreWritableRequests, AreWritableTags, IsWritableBag, IsWritableBody, IsWritableContext, IsWritableEntity}
use Rattle.cedar_schema_text_writer.proofs.Reserved.{among}
use Rattle.cedar_schema_text_writer.specs.Flaws.{extension_flaw, form_flaw, members_flaw, open_flaw}
use Rattle.cedar_schema_text_writer.specs.Names.{First, built_in_written, is_among, primitive_words}
use Rattle.cedar_schema_text_writer.specs.declared.fault.Part.{Part}
use Rattle.cedar_schema_text_writer.specs.declared.fault.Part.TheVariants as part
use Rattle.cedar_type_rules.proofs.AnsweredLemmas.{decide_names}
use Rattle.cedar_type_rules.proofs.Decisions.{decide_among}

-- one of two facts holds of each item, or the other of some
each_or_some : {A : Type 0} (P Q : A → Type 0) → ((x : A) → P x ⊎ Q x) → (xs : List A)
    → ((x : A) → Contains xs x → P x) ⊎ ((x : A) × Contains xs x × Q x)
each_or_some P Q either [] = inl (λ x none. absurd (omega (arith, none.1)))
each_or_some P Q either (y ∷ ys) = elim (either y) [
  | inr here ↦ inr (y, Contains-cons y ys y (inl refl), here)
  | inl holds ↦ elim (each_or_some P Q either ys) [
    | inr later ↦ inr (later.0, Contains-cons y ys later.0 (inr later.1), later.2)
    | inl each ↦ inl (λ x there. elim (Contains-cons_cases y ys x there) [ inl same ↦ subst P same holds | inr later ↦ each x later ])
  ]
]

module _ (extensions : Extensions) where
  -- an extension type is mentioned that wasn't handed in
  abbrev pub MentionsUnknown : Expr → Type 0
  MentionsUnknown it = (word : Text) × MentionsExtension it word × ¬ Contains (extension_types extensions) (alias_name word)

  -- the same of the attributes of a record
  abbrev MembersMentionUnknown : Members → Type 0
  MembersMentionUnknown members =
      (word : Text) × MembersMentionExtension members word × ¬ Contains (extension_types extensions) (alias_name word)

  mutual
    -- what an expression mentions was handed in, or some of it wasn't
    known_or_not : (it : Expr) → MentionsKnown extensions it ⊎ MentionsUnknown it
    known_or_not text_expr = inl (λ word none. absurd none)
    known_or_not long_expr = inl (λ word none. absurd none)
    known_or_not truth_expr = inl (λ word none. absurd none)
    known_or_not (named reference) = inl (λ word none. absurd none)
    known_or_not (extension_expr name) = elim (decide_among decide_names (extension_types extensions) (alias_name name)) [
      | inl there ↦ inl (λ word same. subst (λ each. Contains (extension_types extensions) (alias_name each)) same there)
      | inr unknown ↦ inr (name, refl, unknown)
    ]
    known_or_not (set_expr element) = known_or_not element
    known_or_not (record_expr all additional) = members_known_or_not all

    -- the same of the attributes of a record
    members_known_or_not : (all : Members) → MembersMentionKnown extensions all ⊎ MembersMentionUnknown all
    members_known_or_not no_member = inl (λ word none. absurd none)
    members_known_or_not (member name required ty rest) = elim (known_or_not ty) [
      | inr here ↦ inr (here.0, inl here.1, here.2)
      | inl known ↦ elim (members_known_or_not rest) [
        | inr later ↦ inr (later.0, inr later.1, later.2)
        | inl others ↦ inl (λ word mentions. elim mentions [ inl here ↦ known word here | inr later ↦ others word later ])
      ]
    ]

  -- so it is with all that counts
  abbrev AllKnown : (Expr → Type 0) → Type 0
  AllKnown Counts = (ty : Expr) → Counts ty → MentionsKnown extensions ty

  abbrev SomeUnknown : (Expr → Type 0) → Type 0
  SomeUnknown Counts = (ty : Expr) × Counts ty × MentionsUnknown ty

  one_known_or_not : (it : Expr) → AllKnown (λ ty. it ≡ ty) ⊎ SomeUnknown (λ ty. it ≡ ty)
  one_known_or_not it = elim (known_or_not it) [
    | inl known ↦ inl (λ ty same. subst (MentionsKnown extensions) same known)
    | inr unknown ↦ inr (it, refl, unknown)
  ]

  tags_known_or_not : (tags : Option Expr) → AllKnown (λ ty. tags ≡ Some ty) ⊎ SomeUnknown (λ ty. tags ≡ Some ty)
  tags_known_or_not None = inl (λ ty none. absurd (cc))
  tags_known_or_not (Some it) = elim (known_or_not it) [
    | inl known ↦ inl (λ ty same. subst (MentionsKnown extensions) (some_same it ty same) known)
    | inr unknown ↦ inr (it, refl, unknown)
  ]
    where
      some_same : (a b : Expr) → Some a ≡ Some b → a ≡ b
      some_same a b same = cc

  entity_known_or_not : (it : EntityBody) → AllKnown (CountsInEntity it) ⊎ SomeUnknown (CountsInEntity it)
  entity_known_or_not (standard parents shape tags) = elim (one_known_or_not shape) [
    | inr here ↦ inr (here.0, inl here.1, here.2)
    | inl known ↦ elim (tags_known_or_not tags) [
      | inr later ↦ inr (later.0, inr later.1, later.2)
      | inl others ↦ inl (λ ty counts. elim counts [ inl is ↦ known ty is | inr is ↦ others ty is ])
    ]
  ]
  entity_known_or_not (enumerated choices) = inl (λ ty none. absurd none)
  entity_known_or_not (external parents) = inl (λ ty none. absurd none)

  requests_known_or_not : (it : Requests) → AllKnown (CountsInRequests it) ⊎ SomeUnknown (CountsInRequests it)
  requests_known_or_not (requests principals resources context) = one_known_or_not context
  requests_known_or_not elsewhere = inl (λ ty none. absurd none)

  body_known_or_not : (it : Body) → AllKnown (CountsIn it) ⊎ SomeUnknown (CountsIn it)
  body_known_or_not (common_type definition) = one_known_or_not definition
  body_known_or_not (entity_type body) = entity_known_or_not body
  body_known_or_not (action body) = requests_known_or_not body.applies_to

  -- an extension type that counts in a declaration of the bag wasn't handed in
  abbrev pub HasUnknown : Bag → Type 0
  HasUnknown bag = (it : Declaration) × Contains bag it × SomeUnknown (CountsIn it.body)

  -- all that counts in a bag were, or some weren't
  pub bag_known_or_not : (bag : Bag) → ((it : Declaration) → Contains bag it → AllKnown (CountsIn it.body)) ⊎ HasUnknown bag
  bag_known_or_not =
      each_or_some (λ (it : Declaration). AllKnown (CountsIn it.body)) (λ it. SomeUnknown (CountsIn it.body)) (λ it. body_known_or_not it.body)

  -- then the bag is ill-formed
  pub unknown_ill : (bag : Bag) → HasUnknown bag → IsIllFormed bag extensions
  unknown_ill bag (it, among_them, (ty, counts, (word, mentions, unknown))) =
      (unknown_extension_type (alias_name word), (ty, (it, among_them, counts), mentions, refl, unknown))

-- a word of an extension type without a flaw isn't that of a primitive type
no_primitive : (in_part : Part) (word : Text) → extension_flaw in_part word ≡ None → ¬ Contains primitive_words word
no_primitive in_part word flawless there =
    false≢true (sym (nothing_found (is_among word primitive_words) _ flawless) ∙ (among word primitive_words).1 there)

module _ (first : First) (namespace : Option PlainName) where
  -- what is written of the word is referred to
  abbrev RefersByName : Text → (Reference → Type 0) → Type 0
  RefersByName word IsThere =
      (¬ Contains primitive_words word) × IsThere (reference_to namespace refers.CommonOrEntity (built_in_written first namespace word))

  mutual
    -- a form refers by its name to an extension type that is mentioned
    mention_written : (in_part : Part) (it : Expr) (word : Text) → MentionsExtension it word → form_flaw first in_part it ≡ None
        → RefersByName word (Refers (expr_form (built_in_form first namespace namespace) it))
    mention_written in_part text_expr word mentions flawless = absurd mentions
    mention_written in_part long_expr word mentions flawless = absurd mentions
    mention_written in_part truth_expr word mentions flawless = absurd mentions
    mention_written in_part (named reference) word mentions flawless = absurd mentions
    mention_written in_part (extension_expr name) word mentions flawless = (
      subst (λ each. ¬ Contains primitive_words each) mentions (no_primitive in_part name flawless),
      λ i. reference_to namespace refers.CommonOrEntity (built_in_written first namespace (mentions i)),
    )
    mention_written in_part (set_expr element) word mentions flawless = mention_written in_part element word mentions flawless
    mention_written in_part (record_expr all additional) word mentions flawless =
        members_mention_written in_part all word mentions (neither_there (open_flaw in_part additional) _ flawless).1

    -- the same of the attributes of a record
    members_mention_written : (in_part : Part) (all : Members) (word : Text) → MembersMentionExtension all word
        → members_flaw first in_part all ≡ None → RefersByName word (MembersRefer (members_form (built_in_form first namespace namespace) all))
    members_mention_written in_part no_member word mentions flawless = absurd mentions
    members_mention_written in_part (member name required ty rest) word mentions flawless =
        let neither = neither_there (form_flaw first in_part ty) _ flawless in
        elim mentions [
          | inl here ↦ let found = mention_written in_part ty word here neither.0 in (found.0, inl found.1)
          | inr later ↦ let found = members_mention_written in_part rest word later neither.1 in (found.0, inr found.1)
        ]

  -- so does the form of a context
  context_mention_written : (it : Expr) (word : Text) → MentionsExtension it word → IsWritableContext first it
      → RefersByName word (Refers (context_form (built_in_form first namespace namespace) it))
  context_mention_written (named reference) word mentions writable = absurd mentions
  context_mention_written text_expr word mentions writable = absurd mentions
  context_mention_written long_expr word mentions writable = absurd mentions
  context_mention_written truth_expr word mentions writable = absurd mentions
  context_mention_written (extension_expr name) word mentions writable = elim writable [
    | inl flawless ↦ mention_written part.Context (extension_expr name) word mentions flawless.1
    | inr flaw ↦ absurd (cc)
  ]
  context_mention_written (set_expr element) word mentions writable = elim writable [
    | inl flawless ↦ mention_written part.Context (set_expr element) word mentions flawless.1
    | inr flaw ↦ absurd (cc)
  ]
  context_mention_written (record_expr all additional) word mentions writable = elim writable [
    | inl flawless ↦ mention_written part.Context (record_expr all additional) word mentions flawless.1
    | inr flaw ↦ absurd (cc)
  ]

  -- something that counts refers by its name to the extension type
  abbrev CountsByName : Text → (Expr → Type 0) → Type 0
  CountsByName word Counts = (ty : Expr) × Counts ty × RefersByName word (Refers ty)

  -- so does what counts in the form of what is declared of an entity type
  entity_counts : (it : EntityBody) → IsWritableEntity first it → (ty : Expr) → CountsInEntity it ty → (word : Text) → MentionsExtension ty word
      → CountsByName word (CountsInEntity (entity_form (built_in_form first namespace namespace) it))
  entity_counts (standard parents shape tags) writable ty counts word mentions = elim counts [
    | inl is ↦ (
      expr_form (built_in_form first namespace namespace) shape,
      inl refl,
      mention_written part.Shape shape word (subst (λ each. MentionsExtension each word) (sym is) mentions) writable.0.1,
    )
    | inr is ↦ of_tags tags writable.1 is
  ]
    where
      of_tags : (tags : Option Expr) → AreWritableTags first tags → tags ≡ Some ty
          → CountsByName word (λ each. (expr_form (built_in_form first namespace namespace) shape ≡ each) ⊎ (option_map (expr_form (built_in_form first namespace namespace)) tags ≡ Some each))
      of_tags None flawless is = absurd (cc)
      of_tags (Some it) flawless is =
          let same : it ≡ ty = cc in (
            expr_form (built_in_form first namespace namespace) it,
            inr refl,
            mention_written part.Tags it word (subst (λ each. MentionsExtension each word) (sym same) mentions) flawless,
          )
  entity_counts (enumerated choices) writable ty counts word mentions = absurd counts
  entity_counts (external parents) writable ty counts word mentions = absurd counts

  -- and in the form of what is declared
  body_counts : (it : Body) → IsWritableBody first it → (ty : Expr) → CountsIn it ty → (word : Text) → MentionsExtension ty word
      → CountsByName word (CountsIn (body_form (built_in_form first namespace namespace) it))
  body_counts (common_type definition) writable ty counts word mentions = (
    expr_form (built_in_form first namespace namespace) definition,
    refl,
    mention_written part.Definition definition word (subst (λ each. MentionsExtension each word) (sym counts) mentions) writable,
  )
  body_counts (entity_type body) writable ty counts word mentions = entity_counts body writable ty counts word mentions
  body_counts (action body) writable ty counts word mentions = of_requests body.applies_to writable counts where
    of_requests : (it : Requests) → AreWritableRequests first it → CountsInRequests it ty
        → CountsByName word (CountsInRequests (requests_form (built_in_form first namespace namespace) it))
    of_requests (requests principals resources context) writable counts = (
      context_form (built_in_form first namespace namespace) context,
      refl,
      context_mention_written context word (subst (λ each. MentionsExtension each word) (sym counts) mentions) writable,
    )
    of_requests elsewhere writable counts = absurd counts

-- and so is the text form of a bag that can be written
pub unknown_form_ill : (bag : Bag) (extensions : Extensions) → HasKnownExtensions extensions → IsWritableBag (first_by bag) bag
    → HasUnknown extensions bag → IsIllFormed (bag_form bag) extensions
unknown_form_ill bag extensions known writable (it, among_them, (ty, counts, (word, mentions, unknown))) =
    let forms = bag_form bag in
    let named_by = λ (first : First). reference_to it.namespace refers.CommonOrEntity (built_in_written first it.namespace word) in
    let found = body_counts (first_by bag) it.namespace it.body (writable it among_them).body ty counts word mentions in
    let declaration = declaration_form (first_by bag) it in
    let has : HasToResolve forms (named_by (first_by bag)) =
    inl (found.0, (declaration, Contains-image (declaration_form (first_by bag)) bag it among_them, found.1), found.2.1) in
    let nothing : IsUnresolved (defined_names forms extensions) (named_by (first_by bag)) =
    subst (λ first. IsUnresolved (defined_names forms extensions) (named_by first)) (sym (first_same bag))
    (names_nothing forms extensions (form_free bag (λ each there. (writable each there).namespace)) known word
    (no_built_in extensions known word found.2.0 unknown) it.namespace (writable it among_them).namespace) in (
      type_not_defined (named_by (first_by bag) ∷ []),
      (
        (λ none. cc),
        λ each there.
            subst (λ r. HasToResolve forms r × IsUnresolved (defined_names forms extensions) r)
            (Contains-single (named_by (first_by bag)) each there) (has, nothing),
      ),
    )
