-- Expressions that count in a bag which isn't ill-formed are elaborated.
use Rattle.std.proofs.Common.{[], ◌∷◌, map, inl, inr, refl, Contains}
use Rattle.cedar_ast.proofs.Basics.{Contains-image, Contains-single}
use Rattle.cedar_schema_laws.proofs.ChainInduction.{by_steps}
use Rattle.cedar_schema_laws.proofs.ReferenceDecisions.{decide_may_common, resolves_or_not}
use Rattle.cedar_schema_laws.specs.Words.{AnyBool, Bag, ClosedAttributes, Defined, ElaboratesTo, Expr, Extensions, Fields, HasToResolve, IsCommon, IsCounted, IsIllFormed, Members, MembersElaborateTo, MembersRefer, PlainName, Reference, Refers, RefersToCommon, ResolvesTo, Ty, as_common, as_entity, as_extension, as_long, as_member, as_no_member, as_record, as_set, as_text, as_truth, common_type_cycle, defined_names, definitions, end, extension_expr, extension_of, field, long, long_expr, member, named, names_of, no_member, record_expr, record_of, set_expr, set_of, text, text_expr, truth, truth_expr, type_not_defined, union_of}
use Rattle.cedar_schema_semantics.proofs.BuiltInLemmas.{refers_declared}
use Rattle.cedar_schema_semantics.proofs.DeclarationLemmas.{common_declaration}
use Rattle.cedar_schema_semantics.proofs.OccurrenceLemmas.{Contains-entry}
use Rattle.cedar_schema_semantics.proofs.ResolutionLemmas.{first_defined}
use Rattle.cedar_type_rules.proofs.AnsweredLemmas.{decide_names}
use Rattle.cedar_type_rules.proofs.Decisions.{decide_among, decide_both}

-- some type is what the expression is elaborated as
abbrev pub IsWritten : Defined → Expr → Type 0
IsWritten defined expr = (ty : Ty) × ElaboratesTo defined expr ty

module _ (defined : Defined) where
  mutual
    -- an expression is elaborated where its references are
    of_references : (expr : Expr) → ((reference : Reference) → Refers expr reference → IsWritten defined (named reference))
        → IsWritten defined expr
    of_references text_expr each = (text, as_text)
    of_references long_expr each = (long, as_long)
    of_references truth_expr each = (truth AnyBool, as_truth)
    of_references (set_expr element) each = let it = of_references element each in (set_of it.0, as_set it.1)
    of_references (record_expr members additional) each =
        let all = members_of_references members each in (record_of all.0 ClosedAttributes, as_record all.1)
    of_references (named reference) each = each reference refl
    of_references (extension_expr name) each = (extension_of (record { base = name; path = [] }), as_extension name)

    -- the same of the attributes of a record
    members_of_references : (members : Members)
        → ((reference : Reference) → MembersRefer members reference → IsWritten defined (named reference))
        → (fields : Fields) × MembersElaborateTo defined members fields
    members_of_references no_member each = (end, as_no_member)
    members_of_references (member name required expr rest) each =
        let first = of_references expr (λ reference refers. each reference (inl refers)) in
        let later = members_of_references rest (λ reference refers. each reference (inr refers)) in
        (field name required first.0 later.0, as_member first.1 later.1)

  -- a reference is elaborated where the common type is that it names, if it names one
  of_common : (reference : Reference) (name : PlainName) → ResolvesTo (names_of defined) reference name
      → ((body : Expr) → IsCommon defined reference.kind name body → IsWritten defined body)
      → IsWritten defined (named reference)
  of_common reference name resolves each =
      elim (decide_both (decide_may_common reference.kind) (decide_among decide_names (names_of defined).common name)) [
        | inl is ↦
            let it = Contains-entry defined.common name is.1 in
            let body : IsCommon defined reference.kind name it.0 = (is.0, it.1) in
            let written = each it.0 body in
            (written.0, as_common reference name it.0 resolves body written.1)
        | inr none ↦ (
          union_of (name ∷ []),
          as_entity reference name resolves
              (elim (first_defined (names_of defined) reference.kind reference.possibilities name resolves).1 [
                | inl common ↦ absurd (none common)
                | inr is_entity ↦ is_entity
              ])
              (λ body is. none (is.0, Contains-image (λ (it : PlainName × Expr). it.0) defined.common (name, body) is.1)),
        )
      ]

module _ (bag : Bag) (extensions : Extensions) (well : ¬ IsIllFormed bag extensions) where
  -- what the bag defines
  abbrev ours : Defined
  ours = definitions bag extensions

  -- a reference that has to resolve does
  resolves : (reference : Reference) → HasToResolve bag reference
      → (name : PlainName) × ResolvesTo (defined_names bag extensions) reference name
  resolves reference has =
      elim (resolves_or_not (defined_names bag extensions) reference) [
        | inl found ↦ found
        | inr none ↦
            absurd (well (
              type_not_defined (reference ∷ []),
              (λ is. absurd cc, λ each among. rw (← (Contains-single reference each among)) (has, none)),
            ))
      ]

  -- the body of a common type that refers to something counts
  common_counts : (name : PlainName) (body : Expr) (reference : Reference) → Contains ours.common (name, body)
      → Refers body reference → IsCounted bag body
  common_counts name body reference among refers =
      let it = common_declaration bag name body (refers_declared bag extensions name body reference among refers) in
      (it.0, it.1, rw it.2 refl)

  -- the definition of each common type is elaborated
  common_written : (name : PlainName) (body : Expr) → Contains ours.common (name, body) → IsWritten ours body
  common_written =
      by_steps (RefersToCommon ours) (λ name cycle. well (common_type_cycle name, cycle))
      (λ name. (body : Expr) → Contains ours.common (name, body) → IsWritten ours body)
      (λ name later body among. of_references ours body (λ reference refers.
      let to = resolves reference (inl (body, common_counts name body reference among refers, refers)) in
      of_common ours reference to.0 to.1 (λ found is. later to.0 (body, reference, found, among, refers, to.1, is) found is.1)))
      (map (λ it. it.0) ours.common)
      (λ name other refers. Contains-image (λ (it : PlainName × Expr). it.0) ours.common (other, refers.2) refers.6.1)

  -- each expression that counts is elaborated
  pub counted_written : (expr : Expr) → IsCounted bag expr → IsWritten ours expr
  counted_written expr counts =
      of_references ours expr (λ reference refers.
      let to = resolves reference (inl (expr, counts, refers)) in
      of_common ours reference to.0 to.1 (λ found is. common_written to.0 found is.1))
