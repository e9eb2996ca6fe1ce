-- A declaration that can be written is like its text form.
use Rattle.std.proofs.Common.{◌≡◌, suc, Option, None, Some, codes, sym, subst, refl, inl, inr, arith, Contains}
use Rattle.std.specs.Option.{option_map}
use Rattle.cedar_ast.proofs.Basics.{Contains-image}
use Rattle.cedar_ast.specs.Words.{PlainName, Text, TypeNamesFit, extension_types}
use Rattle.cedar_ast.specs.declared.extension.Extensions.{Extensions}
use Rattle.cedar_schema_ast.specs.Words.{Body, Declaration, EntityBody, Expr, Members, Reference, Requests, action, common_type, elsewhere, entity_type, enumerated, extension_expr, external, long_expr, member, named, no_member, record_expr, reference_to, requests, set_expr, standard, text_expr, truth_expr}
use Rattle.cedar_schema_laws.proofs.MovedLemmas.{BodiesAlike, DeclarationsAlike, EntitiesAlike, Likeness, RequestsAlike, TagsAlike}
use Rattle.cedar_schema_semantics.specs.Words.{Bag, CountsIn, CountsInEntity, CountsInRequests, Defined, MembersMentionExtension, MembersRefer, MentionsExtension, alias_name, built_in_types, definitions, names_of}
use Rattle.cedar_schema_text_meaning.proofs.BuiltInsWritten.{stands_for}
use Rattle.cedar_schema_text_meaning.proofs.ReferencesMean.{context_means, neither_there, reference_means}
use Rattle.cedar_schema_text_meaning.proofs.SameNames.{pairwise_itself}
use Rattle.cedar_schema_text_meaning.proofs.TextLikeness.{IsBuiltIn, IsLike, MeansAsMuch, MembersLike, like_built_in, like_member, like_named, like_no_member, like_record, like_set}
use Rattle.cedar_schema_text_meaning.specs.TextForm.{built_in_form, body_form, context_form, declaration_form, entity_form, expr_form, first_by, members_form, of_kind, requests_form}
use Rattle.cedar_schema_text_meaning.specs.TextMeaning.{HasKnownExtensions}
use Rattle.cedar_schema_text_meaning.specs.WritableBag.{AreWritableTags, AreWritableRequests, IsUnreserved, IsWritableBody, IsWritableContext, IsWritableDeclaration, IsWritableEntity, IsWrittenIn}
use Rattle.cedar_schema_text_writer.specs.Flaws.{form_flaw, members_flaw, open_flaw}
use Rattle.cedar_schema_text_writer.specs.Names.{built_in_written}
use Rattle.cedar_schema_text_writer.specs.declared.fault.Part.{Part}
use Rattle.cedar_schema_ast.specs.declared.json_schema.reference_type.ReferenceType.TheVariants as refers
use Rattle.cedar_schema_text_writer.specs.declared.fault.Part.TheVariants as part

-- what an expression mentions of extension types was handed in
abbrev pub MentionsKnown : Extensions → Expr → Type 0
MentionsKnown extensions it = (word : Text) → MentionsExtension it word → Contains (extension_types extensions) (alias_name word)

-- the same of the attributes of a record
abbrev pub MembersMentionKnown : Extensions → Members → Type 0
MembersMentionKnown extensions members =
    (word : Text) → MembersMentionExtension members word → Contains (extension_types extensions) (alias_name word)

-- each reference of the attributes of a record is as it was written in the namespace
abbrev AreWrittenIn : Option PlainName → Members → Type 0
AreWrittenIn namespace members = (reference : Reference) → MembersRefer members reference
    → (name : PlainName) × (reference ≡ reference_to namespace reference.kind name)

module _ (bag : Bag) (extensions : Extensions) (free : (it : Declaration) → Contains bag it → IsUnreserved it.namespace)
    (known : HasKnownExtensions extensions) (fit : TypeNamesFit (extension_types extensions)) (defined : Defined)
    (same : names_of defined ≡ names_of (definitions bag extensions)) where
  -- how references and types are like each other
  abbrev pub likeness : Likeness
  likeness = record {
    reference = λ it other. it ≡ other;
    parent = λ it other. it ≡ other;
    expr = IsLike defined (definitions bag extensions);
  }

  -- a reference that means as much does so over the same names
  means_over : (reference other : Reference)
      → MeansAsMuch (names_of (definitions bag extensions)) (names_of (definitions bag extensions)) reference other
      → IsLike defined (definitions bag extensions) (named reference) (named other)
  means_over reference other means =
      like_named (subst (λ own. MeansAsMuch own (names_of (definitions bag extensions)) reference other) (sym same) means)

  module _ (namespace : Option PlainName) (unreserved : IsUnreserved namespace) where
    -- a built-in type is like the reference that is written of it
    built_in_like : (word : Text) (body : Expr) → IsBuiltIn body → Contains (built_in_types extensions) (word, body)
        → IsLike defined (definitions bag extensions) body
        (named (reference_to namespace refers.CommonOrEntity (built_in_written (first_by bag) namespace word)))
    built_in_like word body built among =
        like_built_in built (stands_for bag extensions free known fit word body among namespace unreserved)

    mutual
      -- a type without a flaw is like its form
      pub form_like : (in_part : Part) (it : Expr) → form_flaw (first_by bag) in_part it ≡ None → IsWrittenIn namespace it
          → MentionsKnown extensions it
          → IsLike defined (definitions bag extensions) it (expr_form (built_in_form (first_by bag) namespace namespace) it)
      form_like in_part truth_expr flawless written mentions = built_in_like (codes "Bool") truth_expr tt (0, omega arith, refl)
      form_like in_part long_expr flawless written mentions = built_in_like (codes "Long") long_expr tt (1, omega arith, refl)
      form_like in_part text_expr flawless written mentions = built_in_like (codes "String") text_expr tt (2, omega arith, refl)
      form_like in_part (extension_expr name) flawless written mentions =
          let there = Contains-image (λ (each : PlainName). (each.base, extension_expr each.base)) (extension_types extensions) (alias_name name) (mentions name refl) in
          built_in_like name (extension_expr name) tt (suc (suc (suc there.0)), omega (arith, there.1), there.2)
      form_like in_part (named reference) flawless written mentions =
          let name = written reference refl in
          means_over reference (of_kind refers.CommonOrEntity reference)
          (reference_means bag extensions free known namespace unreserved in_part reference name.0 name.1 flawless)
      form_like in_part (set_expr element) flawless written mentions = like_set (form_like in_part element flawless written mentions)
      form_like in_part (record_expr all additional) flawless written mentions =
          like_record additional (members_like in_part all (neither_there (open_flaw in_part additional) _ flawless).1 written mentions)

      -- the same of the attributes of a record
      members_like : (in_part : Part) (all : Members) → members_flaw (first_by bag) in_part all ≡ None
          → AreWrittenIn namespace all → MembersMentionKnown extensions all
          → MembersLike defined (definitions bag extensions) all (members_form (built_in_form (first_by bag) namespace namespace) all)
      members_like in_part no_member flawless written mentions = like_no_member
      members_like in_part (member name required ty rest) flawless written mentions =
          let neither = neither_there (form_flaw (first_by bag) in_part ty) _ flawless in
          like_member name required
          (form_like in_part ty neither.0 (λ reference refers_here. written reference (inl refers_here)) (λ word stands. mentions word (inl stands)))
          (members_like in_part rest neither.1 (λ reference refers_later. written reference (inr refers_later)) (λ word stands. mentions word (inr stands)))

    -- a context that can be written is like its form
    context_like : (it : Expr) → IsWritableContext (first_by bag) it → IsWrittenIn namespace it → MentionsKnown extensions it
        → IsLike defined (definitions bag extensions) it (context_form (built_in_form (first_by bag) namespace namespace) it)
    context_like (named reference) writable written mentions = elim writable [
      | inl is_named ↦ absurd (let wrong = is_named.0 in cc)
      | inr flawless ↦ means_over reference (of_kind refers.Common reference) (context_means bag extensions free known reference flawless)
    ]
    context_like (record_expr all additional) writable written mentions = elim writable [
      | inl flawless ↦ form_like part.Context (record_expr all additional) flawless.1 written mentions
      | inr flaw ↦ absurd (cc)
    ]
    context_like text_expr writable written mentions = absurd (elim writable [ inl not_record ↦ let wrong = not_record.0 in cc | inr flaw ↦ cc ])
    context_like long_expr writable written mentions = absurd (elim writable [ inl not_record ↦ let wrong = not_record.0 in cc | inr flaw ↦ cc ])
    context_like truth_expr writable written mentions = absurd (elim writable [ inl not_record ↦ let wrong = not_record.0 in cc | inr flaw ↦ cc ])
    context_like (extension_expr name) writable written mentions = absurd (elim writable [ inl not_record ↦ let wrong = not_record.0 in cc | inr flaw ↦ cc ])
    context_like (set_expr element) writable written mentions = absurd (elim writable [ inl not_record ↦ let wrong = not_record.0 in cc | inr flaw ↦ cc ])

    -- what counts of a declaration is written, and mentions what was handed in
    abbrev CountsWell : (Expr → Type 0) → Type 0
    CountsWell Counts = (it : Expr) → Counts it → IsWrittenIn namespace it × MentionsKnown extensions it

    -- what is declared of an entity type is like its form
    entity_like : (it : EntityBody) → IsWritableEntity (first_by bag) it → CountsWell (CountsInEntity it)
        → EntitiesAlike likeness it (entity_form (built_in_form (first_by bag) namespace namespace) it)
    entity_like (standard parents shape tags) writable counts = (
      pairwise_itself parents,
      form_like part.Shape shape writable.0.1 (counts shape (inl refl)).0 (counts shape (inl refl)).1,
      of_tags tags writable.1 (λ ty is. counts ty (inr is)),
    )
      where
        of_tags : (tags : Option Expr) → AreWritableTags (first_by bag) tags → CountsWell (λ ty. tags ≡ Some ty)
            → TagsAlike likeness tags (option_map (expr_form (built_in_form (first_by bag) namespace namespace)) tags)
        of_tags None writable counts = tt
        of_tags (Some ty) writable counts = form_like part.Tags ty writable (counts ty refl).0 (counts ty refl).1
    entity_like (enumerated choices) writable counts = refl
    entity_like (external parents) writable counts = pairwise_itself parents

    -- requests are like their form
    requests_like : (it : Requests) → AreWritableRequests (first_by bag) it → CountsWell (CountsInRequests it)
        → RequestsAlike likeness it (requests_form (built_in_form (first_by bag) namespace namespace) it)
    requests_like (requests principals resources context) writable counts = (
      pairwise_itself principals,
      pairwise_itself resources,
      context_like context writable (counts context refl).0 (counts context refl).1,
    )
    requests_like elsewhere writable counts = tt

    -- what is declared is like its form
    body_like : (it : Body) → IsWritableBody (first_by bag) it → CountsWell (CountsIn it)
        → BodiesAlike likeness it (body_form (built_in_form (first_by bag) namespace namespace) it)
    body_like (common_type definition) writable counts =
        form_like part.Definition definition writable (counts definition refl).0 (counts definition refl).1
    body_like (entity_type body) writable counts = entity_like body writable counts
    body_like (action body) writable counts = (refl, pairwise_itself body.parents, requests_like body.applies_to writable counts)

  -- a declaration that can be written is like its form
  pub declaration_like : (it : Declaration) → IsWritableDeclaration (first_by bag) it
      → ((ty : Expr) → CountsIn it.body ty → MentionsKnown extensions ty)
      → DeclarationsAlike likeness it (declaration_form (first_by bag) it)
  declaration_like it writable mentions = (
    refl,
    refl,
    body_like it.namespace writable.namespace it.body writable.body (λ ty counts. (writable.references ty counts, mentions ty counts)),
  )
