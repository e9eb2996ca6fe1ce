-- Indices of common types that references may name, collected one after another.
use Rattle.std.proofs.Common.{◌≡◌, ◌⊎◌, ℕ, List, [], ◌∷◌, ◌++◌, map, ap, sym, subst, ◌∙◌, refl, inl, inr, append_assoc, Contains, Result, Ok, Err, OnOk}
use Rattle.std.proofs.Common.{string_bytes}
use Rattle.std.proofs.lemmas.List.{append-nil}
use Rattle.std.proofs.lemmas.List.Elements.{Contains-append_left, Contains-push, Contains-push_cases}
use Rattle.std.specs.declared.alloc.Global.{Global}
use Rattle.std.specs.declared.string.String.{String}
use Rattle.cedar_elaboration.proofs.RecordLemmas.{Entries, append_members, attribute_expr, entries_of, refer-cases, refer-right, resolved_members, resolved_members-append, resolved_members-one}
use Rattle.cedar_elaboration.specs.Words.{AddsIndices, Expr, IsDefined, IsUnresolved, MayNameCommon, Members, MembersRefer, Names, PlainName, RecordType, Reference, ReferenceType, Refers, ResolvesTo, TypeOfAttribute, member, named, no_member, out-RecordType, out-TypeOfAttribute, record_expr, record_type_expr, set_expr}
use Rattle.cedar_schema_ast.proofs.ExprLemmas.{record_type_expr-entries}
use Rattle.cedar_schema_semantics.proofs.ResolutionLemmas.{IsFirst-same, first_defined}

module _ (names : Names) (indices : List (PlainName × ℕ)) where
  -- where there is no reference, nothing is added
  pub adds_nothing : (Refers : Reference → Type 0) (items : List ℕ) → ((reference : Reference) → ¬ Refers reference)
      → AddsIndices names indices Refers items items
  adds_nothing Refers items none = record {
    kept = λ item_index among. among;
    only = λ item_index among. inl among;
    each = λ reference refers. absurd (none reference refers);
  }

  -- what some references add, and then others, all of them add
  pub adds_both : (First Second All : Reference → Type 0) (before middle after : List ℕ)
      → ((reference : Reference) → All reference → First reference ⊎ Second reference)
      → ((reference : Reference) → First reference → All reference)
      → ((reference : Reference) → Second reference → All reference)
      → AddsIndices names indices First before middle → AddsIndices names indices Second middle after → AddsIndices names indices All before after
  adds_both First Second All before middle after either first second one other = record {
    kept = λ item_index among. other.kept item_index (one.kept item_index among);
    only = λ item_index among. elim (other.only item_index among) [
      | inl there ↦ elim (one.only item_index there) [ inl old ↦ inl old | inr it ↦ inr (it.0, first it.0 it.1, it.2) ]
      | inr it ↦ inr (it.0, second it.0 it.1, it.2)
    ];
    each = λ reference refers may name among stands. elim (either reference refers) [
      | inl it ↦ let found = one.each reference it may name among stands in (found.0, found.1, other.kept found.0 found.2)
      | inr it ↦ other.each reference it may name among stands
    ];
  }

  -- references that are the same add the same
  pub adds_alike : (One Other : Reference → Type 0) (before after : List ℕ)
      → ((reference : Reference) → One reference → Other reference)
      → ((reference : Reference) → Other reference → One reference)
      → AddsIndices names indices One before after → AddsIndices names indices Other before after
  adds_alike One Other before after to from one = record {
    kept = one.kept;
    only = λ item_index among. elim (one.only item_index among) [ inl old ↦ inl old | inr it ↦ inr (it.0, to it.0 it.1, it.2) ];
    each = λ reference refers. one.each reference (from reference refers);
  }

  -- the names that a reference resolves to are one
  resolves_once : (reference : Reference) (name other : PlainName) → ResolvesTo names reference name
      → ResolvesTo names reference other → name ≡ other
  resolves_once reference name other = IsFirst-same (IsDefined names reference.kind) reference.possibilities name other

  -- a reference that resolves to a common type that has an index adds this
  pub adds_index : (reference : Reference) (name : PlainName) (item_index : ℕ) (items : List ℕ) → MayNameCommon reference.kind
      → ResolvesTo names reference name → Contains indices (name, item_index)
      → AddsIndices names indices (Refers (named reference)) items (items ++ item_index ∷ [])
  adds_index reference name item_index items may resolves stands = record {
    kept = λ each among. Contains-append_left items (item_index ∷ []) each among;
    only = λ each among. elim (Contains-push_cases items item_index each among) [
      | inl old ↦ inl old
      | inr same ↦ inr (reference, refl, (may, name, resolves, rw same at stands))
    ];
    each = λ reference' refers may' other resolves' stands'.
        let Resolves : Reference → Type 0 = λ it. ResolvesTo names it other in
        let same = resolves_once reference name other resolves (subst Resolves (sym refers) resolves') in
        (item_index, rw same at stands, Contains-push items item_index);
  }

  -- a reference that may name no common type, or resolves to none that has an index, adds nothing
  pub adds_none : (reference : Reference) (items : List ℕ)
      → (MayNameCommon reference.kind → (name : PlainName) → ResolvesTo names reference name
      → ¬ Contains (map (λ it. it.0) indices) name)
      → AddsIndices names indices (Refers (named reference)) items items
  adds_none reference items absent = record {
    kept = λ each among. among;
    only = λ each among. inl among;
    each = λ reference' refers may other resolves stands.
        let Absent : Reference → Type 0 = λ it. MayNameCommon it.kind → (name : PlainName) → ResolvesTo names it name
        → ¬ Contains (map (λ it. it.0) indices) name in
        absurd ((subst Absent refers absent) may other resolves stands);
  }

  -- a reference that resolves to nothing adds nothing
  pub adds_unresolved : (reference : Reference) (items : List ℕ) → IsUnresolved names reference
      → AddsIndices names indices (Refers (named reference)) items items
  adds_unresolved reference items unresolved =
      adds_none reference items (λ may name resolves among.
      let found = first_defined names reference.kind reference.possibilities name resolves in unresolved name found.0 found.1)

  -- a reference that resolves to a name that has no index adds nothing
  pub adds_absent : (reference : Reference) (name : PlainName) (items : List ℕ) → ResolvesTo names reference name
      → (¬ Contains (map (λ it. it.0) indices) name)
      → AddsIndices names indices (Refers (named reference)) items items
  adds_absent reference name items resolves absent =
      adds_none reference items (λ may other resolves' among.
      absent (rw (← resolves_once reference name other resolves resolves') at among))

  -- what the elements of a set add, the set adds
  pub set_adds : {E : Type 0} (result : Result Unit E) (expr element : Expr) (before after : List ℕ) → expr ≡ set_expr element
      → OnOk result (AddsIndices names indices (Refers element) before after) → OnOk result (AddsIndices names indices (Refers expr) before after)
  set_adds (Ok x) expr element before after same adds =
      rw same
      (adds_alike (Refers element) (Refers (set_expr element)) before after (λ reference it. it) (λ reference it. it) adds)
  set_adds (Err x) expr element before after same adds = tt

  -- a reference in attributes before others is one of all
  refer-left : (members others : Members) (reference : Reference) → MembersRefer members reference
      → MembersRefer (append_members members others) reference
  refer-left no_member others reference refers = absurd refers
  refer-left (member name required expr rest) others reference refers =
      elim refers [ inl here ↦ inl here | inr later ↦ inr (refer-left rest others reference later) ]

  -- over names of some form, where it is given what a name refers to at a place of each kind
  module _ (N : Type 0) (refer : ReferenceType → N → Reference) where
    -- of a record type some attributes have added their indices, and others are left
    pub record AddedSoFar (it : RecordType N) (before after : List ℕ) (left : Entries N refer) : Type 0 where
      pub done : Entries N refer
      pub split : entries_of N refer it ≡ done ++ left
      pub added : AddsIndices names indices (MembersRefer (resolved_members N refer done)) before after

    -- at first none has
    pub AddedSoFar-none : (it : RecordType N) (items : List ℕ) (left : Entries N refer) → entries_of N refer it ≡ left
        → AddedSoFar it items items left
    AddedSoFar-none it items left same =
        record { done = []; split = same; added = adds_nothing (MembersRefer no_member) items (λ reference none. none) }

    -- one more has
    pub AddedSoFar-more : (it : RecordType N) (before middle after : List ℕ) (left rest : Entries N refer) (name : String Global)
        (attribute : TypeOfAttribute N) → left ≡ (name, attribute) ∷ rest
        → AddsIndices names indices (Refers (attribute_expr N refer attribute)) middle after → AddedSoFar it before middle left
        → AddedSoFar it before after rest
    AddedSoFar-more it before middle after left rest name attribute is adds so_far =
        let front = resolved_members N refer so_far.done in
        let last : Members =
        member (string_bytes name) (out-TypeOfAttribute N attribute).required (attribute_expr N refer attribute) no_member in
        let members : resolved_members N refer (so_far.done ++ (name, attribute) ∷ []) ≡ append_members front last =
        resolved_members-append N refer so_far.done ((name, attribute) ∷ [])
        ∙ ap (append_members front) (resolved_members-one N refer name attribute []) in
        record {
          done = so_far.done ++ (name, attribute) ∷ [];
          split = so_far.split ∙ (ap (λ others. so_far.done ++ others) is ∙ sym (append_assoc so_far.done ((name, attribute) ∷ []) rest));
          added = rw members
              (adds_both (MembersRefer front) (Refers (attribute_expr N refer attribute)) (MembersRefer (append_members front last))
              before middle after
              (λ reference refers. elim (refer-cases front last reference refers) [
                | inl old ↦ inl old
                | inr (inl here) ↦ inr here
                | inr (inr none) ↦ absurd none
              ])
              (λ reference refers. refer-left front last reference refers)
              (λ reference refers. refer-right front last reference (inl refers))
              so_far.added adds);
        }

    -- where no attribute is left, the record type has added its indices
    pub record_adds : (it : RecordType N) (before after : List ℕ) (left : Entries N refer) → left ≡ []
        → AddedSoFar it before after left → AddsIndices names indices (Refers (record_type_expr N refer it)) before after
    record_adds it before after left nothing so_far =
        let all : so_far.done ≡ entries_of N refer it =
        sym (so_far.split ∙ (ap (λ others. so_far.done ++ others) nothing ∙ append-nil so_far.done)) in
        let whole = record_type_expr-entries N refer it in
        rw whole (adds_alike (MembersRefer (resolved_members N refer (entries_of N refer it)))
        (Refers (record_expr (resolved_members N refer (entries_of N refer it)) (out-RecordType N it).additional_attributes)) before after (λ reference refers. refers)
        (λ reference refers. refers) (rw all at so_far.added))
