-- What is measured of types, by what is measured of the types that stand in them.
use Rattle.std.proofs.Common.{◌≡◌, ◌+◌, ◌≤◌, ℕ, [], ◌∷◌, ◌++◌, Option, None, Some, map, max, min, ap, sym, subst, ◌∙◌, refl, inl, inr, append_assoc, arith, Contains, Result, IfOk}
use Rattle.std.proofs.Common.{string_bytes}
use Rattle.std.proofs.lemmas.List.{append-nil}
use Rattle.std.specs.declared.alloc.Global.{Global}
use Rattle.std.specs.declared.string.String.{String}
use Rattle.cedar_ast.proofs.Basics.{Contains-image}
use Rattle.cedar_elaboration.proofs.IndexLemmas.{Contains-at}
use Rattle.cedar_elaboration.proofs.OrderLemmas.{item_at}
use Rattle.cedar_elaboration.proofs.RecordLemmas.{Entries, MembersElaborateTo-append, append_fields, append_members, attribute_expr, entries_of, refer-right, resolved_members, resolved_members-append, resolved_members-one, resolved_record-split}
use Rattle.cedar_elaboration.proofs.ScopeLemmas.{same_resolves}
use Rattle.cedar_schema_ast.proofs.ExprLemmas.{record_type_expr-entries}
use Rattle.cedar_schema_semantics.proofs.OccurrenceLemmas.{value_once}
use Rattle.cedar_schema_semantics.proofs.ResolutionLemmas.{IsFirst-same, first_defined}
use Rattle.cedar_type_rules.specs.Ty.{Fields, Ty, end, field, record_of, set_of, union_of}
use Rattle.cedar_type_rules.specs.declared.open_tag.OpenTag.TheVariants.{ClosedAttributes}
use Rattle.cedar_written_out.proofs.RecordParts.{fields_depth-append, fields_size-append, member_elaborated}
use Rattle.cedar_written_out.specs.Words.{Defined, ElaboratesTo, Expr, IsCommon, IsDefined, IsEntity, IsFigureOf, IsMeasured, IsUnresolved, Knows, KnowsAll, MayNameCommon, Members, MembersElaborateTo, PlainName, RecordType, Reference, ReferenceType, Refers, ResolvesTo, TypeOfAttribute, as_common, as_entity, as_member, as_no_member, as_record, as_set, fields_depth, fields_size, figure_at, held_names, indexed_names, item_names, member, most, named, names_of, no_member, out-RecordType, out-TypeOfAttribute, record_expr, record_type_expr, set_expr, type_depth, type_size}
use Rattle.cedar_written_out.specs.declared.figure.Figure.{Figure}
use Rattle.cedar_written_out.specs.declared.measuring.FigureScope.{FigureScope}

-- one more than a number that is cut down is cut down to the same
cut_more : (limit depth : ℕ) → 1 ≤ limit → max 1 (min (min depth limit + 1) limit) ≡ min (1 + depth) limit
cut_more limit depth some = omega (arith, some)

-- the greater of two numbers that are cut down is the greater one cut down
cut_greater : (limit all depth : ℕ) → max (min (1 + all) limit) (min (min depth limit + 1) limit) ≡ min (1 + max all (max depth 0)) limit
cut_greater limit all depth = omega arith

-- the sum of two numbers that are cut down is the sum cut down
cut_sum : (limit all size : ℕ) → min (min (1 + all) limit + min size limit) limit ≡ min (1 + (all + (size + 0))) limit
cut_sum limit all size = omega arith

-- the figure of one type in which none stands
pub IsFigureOf-single : (figure : Figure) → figure.depth ≡ 1 → figure.size ≡ 1 → IsFigureOf figure 1 1
IsFigureOf-single figure depth size = record { depth = depth; size = size }

-- the figure of a set by that of its elements
pub IsFigureOf-set : (whole one part : Figure) (depth size : ℕ) → one.depth ≡ 1 → one.size ≡ 1
    → whole.depth ≡ max one.depth (min (part.depth + 1) most) → whole.size ≡ min (one.size + part.size) most
    → IsFigureOf part depth size → IsFigureOf whole (1 + depth) (1 + size)
IsFigureOf-set whole one part depth size one_deep one_large is_deep is_large is = record {
  depth = is_deep ∙ (ap (λ n. max n (min (part.depth + 1) most)) one_deep
      ∙ (ap (λ n. max 1 (min (n + 1) most)) is.depth ∙ cut_more most depth (omega arith)));
  size = is_large ∙ (ap (λ n. min (n + part.size) most) one_large
      ∙ (ap (λ n. min (1 + n) most) is.size ∙ cut_size most size));
}
  where
    cut_size : (limit n : ℕ) → min (1 + min n limit) limit ≡ min (1 + n) limit
    cut_size limit n = omega arith

-- the figure of a record with one more attribute
IsFigureOf-more : (whole before part : Figure) (all_deep all_large depth size : ℕ)
    → whole.depth ≡ max before.depth (min (part.depth + 1) most) → whole.size ≡ min (before.size + part.size) most
    → IsFigureOf before (1 + all_deep) (1 + all_large) → IsFigureOf part depth size
    → IsFigureOf whole (1 + max all_deep (max depth 0)) (1 + (all_large + (size + 0)))
IsFigureOf-more whole before part all_deep all_large depth size is_deep is_large was is = record {
  depth = is_deep ∙ (ap (λ n. max n (min (part.depth + 1) most)) was.depth
      ∙ (ap (λ n. max (min (1 + all_deep) most) (min (n + 1) most)) is.depth ∙ cut_greater most all_deep depth));
  size = is_large ∙ (ap (λ n. min (n + part.size) most) was.size
      ∙ (ap (λ n. min (min (1 + all_large) most + n) most) is.size ∙ cut_sum most all_large size));
}

-- what is measured of an expression is measured of the same one
pub IsMeasured-as : (defined : Defined) (expr other : Expr) (found : Option Figure) → expr ≡ other → IsMeasured defined other found
    → IsMeasured defined expr found
IsMeasured-as defined expr other found same measured = rw same measured

-- what is elaborated as a type in which no other stands
pub IsMeasured-single : (defined : Defined) (expr other : Expr) (ty : Ty) (figure : Figure) → expr ≡ other → ElaboratesTo defined other ty
    → type_depth ty ≡ 1 → type_size ty ≡ 1 → figure.depth ≡ 1 → figure.size ≡ 1 → IsMeasured defined expr (Some figure)
IsMeasured-single defined expr other ty figure same elaborated deep large one_deep one_large =
    rw same (ty, elaborated, rw (deep, large) (IsFigureOf-single figure one_deep one_large))

-- what is known for an expression is known for its parts
pub Knows-part : (defined : Defined) (scope : FigureScope) (whole part : Expr)
    → ((reference : Reference) → Refers part reference → Refers whole reference)
    → Knows defined scope whole → Knows defined scope part
Knows-part defined scope whole part refers knows = record {
  defines = knows.defines;
  indices = knows.indices;
  figures = λ reference in_part. knows.figures reference (refers reference in_part);
}

-- where all is known, enough is known for each expression
pub Knows-each : (defined : Defined) (scope : FigureScope) (expr : Expr) → KnowsAll defined scope → Knows defined scope expr
Knows-each defined scope expr knows = record {
  defines = knows.defines;
  indices = knows.indices;
  figures = λ reference refers may item place resolves is. knows.figures place item is;
}

module _ (defined : Defined) (scope : FigureScope) (reference : Reference) (knows : Knows defined scope (named reference)) where
  -- a reference resolves over what is defined as over the names that are in scope
  resolves : (name : PlainName) → ResolvesTo (held_names scope.defs.now) reference name → ResolvesTo (names_of defined) reference name
  resolves name = same_resolves (held_names scope.defs.now) (names_of defined) knows.defines.names reference name

  -- a reference that nothing resolves is elaborated as no type
  pub unresolved_measured : IsUnresolved (held_names scope.defs.now) reference → IsMeasured defined (named reference) None
  unresolved_measured nothing ty elaborated = no_type reference ty refl elaborated where
    unresolved : (name : PlainName) → ¬ ResolvesTo (names_of defined) reference name
    unresolved name resolved =
        let found = first_defined (names_of defined) reference.kind reference.possibilities name resolved in
        nothing name found.0 (elim found.1 [
          | inl common ↦ inl (common.0, (knows.defines.names.common name).1 common.1)
          | inr entity ↦ inr (entity.0, (knows.defines.names.entities name).1 entity.1)
        ])

    no_type : (other : Reference) (it : Ty) → other ≡ reference → ¬ ElaboratesTo defined (named other) it
    no_type other ty same (as_entity it name resolved is_entity no_common) =
        let Resolves : Reference → Type 0 = λ each. ResolvesTo (names_of defined) each name in unresolved name (subst Resolves same resolved)
    no_type other ty same (as_common it name body resolved is_common written) =
        let Resolves : Reference → Type 0 = λ each. ResolvesTo (names_of defined) each name in unresolved name (subst Resolves same resolved)

  -- a reference to a name that is that of no common type which the position permits is elaborated
  -- as an entity type
  pub entity_measured : (name : PlainName) (figure : Figure) → ResolvesTo (held_names scope.defs.now) reference name
      → (MayNameCommon reference.kind → ¬ Contains (map (λ it. it.0) (indexed_names scope.indices.now)) name)
      → figure.depth ≡ 1 → figure.size ≡ 1 → IsMeasured defined (named reference) (Some figure)
  entity_measured name figure resolved absent deep large = (
    union_of (name ∷ []),
    as_entity reference name (resolves name resolved) is_entity
        (λ body is. no_common is.0 (Contains-image (λ it. it.0) defined.common (name, body) is.1)),
    IsFigureOf-single figure deep large,
  )
    where
      no_common : MayNameCommon reference.kind → ¬ Contains (item_names defined.common) name
      no_common may among = absent may (knows.indices.each name among)

      is_entity : IsEntity (names_of defined) reference.kind name
      is_entity = elim (first_defined (names_of defined) reference.kind reference.possibilities name (resolves name resolved)).1 [
        | inl common ↦ absurd (no_common common.0 common.1)
        | inr entity ↦ entity
      ]

  -- a reference to a common type is elaborated as its definition
  pub common_measured : (name : PlainName) (place : ℕ) → ResolvesTo (held_names scope.defs.now) reference name
      → MayNameCommon reference.kind → Contains (indexed_names scope.indices.now) (name, place)
      → IsMeasured defined (named reference) (figure_at scope.figures.now place)
  common_measured name place resolved may among =
      let item = item_at defined.common place name (knows.indices.sound name place among) in
      let Resolves : PlainName → Type 0 = ResolvesTo (names_of defined) reference in
      let here = subst Resolves (sym item.2) (resolves name resolved) in
      by_found (figure_at scope.figures.now place) item.0 here (Contains-at defined.common place item.0 item.1)
      (knows.figures reference refl may item.0 place here item.1)
    where
      by_found : (found : Option Figure) (item : PlainName × Expr) → ResolvesTo (names_of defined) reference item.0
          → Contains defined.common item → IsMeasured defined item.1 found → IsMeasured defined (named reference) found
      by_found (Some figure) item resolves_here stands measured =
          (measured.0, as_common reference item.0 item.1 resolves_here (may, stands) measured.1, measured.2)
      by_found None item resolves_here stands measured = λ ty elaborated. no_type reference ty refl elaborated where
        no_type : (other : Reference) (it : Ty) → other ≡ reference → ¬ ElaboratesTo defined (named other) it
        no_type other ty same (as_entity it name' resolved' is_entity no_common) =
            let Resolves : Reference → Type 0 = λ each. ResolvesTo (names_of defined) each name' in
            let Commons : Reference → Type 0 = λ each. (body : Expr) → ¬ IsCommon defined each.kind name' body in
            let is : name' ≡ item.0 = IsFirst-same (IsDefined (names_of defined) reference.kind) reference.possibilities name' item.0
            (subst Resolves same resolved') resolves_here in
            subst Commons same no_common item.1 (may, rw is stands)
        no_type other ty same (as_common it name' body resolved' is_common written) =
            let Resolves : Reference → Type 0 = λ each. ResolvesTo (names_of defined) each name' in
            let is : name' ≡ item.0 = IsFirst-same (IsDefined (names_of defined) reference.kind) reference.possibilities name' item.0
            (subst Resolves same resolved') resolves_here in
            let Stands : PlainName → Type 0 = λ each. Contains defined.common (each, body) in
            let one : body ≡ item.1 = value_once defined.common (λ key. knows.defines.once key) item.0 body item.1
            (subst Stands is is_common.1) stands in
            measured ty (rw one at written)

-- a set is elaborated where its elements are
pub set_measured : (defined : Defined) (expr element : Expr) (one part whole : Figure) → expr ≡ set_expr element → one.depth ≡ 1 → one.size ≡ 1
    → whole.depth ≡ max one.depth (min (part.depth + 1) most) → whole.size ≡ min (one.size + part.size) most
    → IsMeasured defined element (Some part) → IsMeasured defined expr (Some whole)
set_measured defined expr element one part whole same one_deep one_large is_deep is_large measured =
    rw same (
      set_of measured.0,
      as_set measured.1,
      IsFigureOf-set whole one part (type_depth measured.0) (type_size measured.0) one_deep one_large is_deep is_large measured.2,
    )

-- and only there
pub set_not_measured : (defined : Defined) (expr element : Expr) → expr ≡ set_expr element → IsMeasured defined element None
    → IsMeasured defined expr None
set_not_measured defined expr element same none ty elaborated =
    let Elaborates : Expr → Type 0 = λ it. ElaboratesTo defined it ty in no_type ty (subst Elaborates same elaborated)
  where
    no_type : (it : Ty) → ¬ ElaboratesTo defined (set_expr element) it
    no_type it (as_set {ty = part} written) = none part written

-- what an answer measures of an expression it measures of the same one
pub measured_as : {E : Type 0} (result : Result (Option Figure) E) (scope : FigureScope) (expr other : Expr) → expr ≡ other
    → IfOk result (λ found. (defined : Defined) → Knows defined scope other → IsMeasured defined other found)
    → IfOk result (λ found. (defined : Defined) → Knows defined scope expr → IsMeasured defined expr found)
measured_as result scope expr other same measures =
    let Measures : Expr → Type 0 = λ it. IfOk result (λ found. (defined : Defined) → Knows defined scope it → IsMeasured defined it found) in
    subst Measures (sym same) measures

-- what is known for a set is known for its elements
pub Knows-element : (defined : Defined) (scope : FigureScope) (expr element : Expr) → expr ≡ set_expr element → Knows defined scope expr
    → Knows defined scope element
Knows-element defined scope expr element same knows =
    Knows-part defined scope expr element (λ reference refers.
    let Refer : Expr → Type 0 = λ it. Refers it reference in subst Refer (sym same) refers) knows

-- attributes over names of some form, where it is given what a name refers to at a place of each
-- kind
module _ (N : Type 0) (refer : ReferenceType → N → Reference) where
  -- of a record type some attributes are measured, and others are left
  pub record MeasuredSoFar (scope : FigureScope) (it : RecordType N) (whole : Figure) (left : Entries N refer) : Type 0 where
    pub done : Entries N refer
    pub split : entries_of N refer it ≡ done ++ left
    pub measured : (defined : Defined) → Knows defined scope (record_type_expr N refer it)
        → (fields : Fields) × MembersElaborateTo defined (resolved_members N refer done) fields
        × IsFigureOf whole (1 + fields_depth fields) (1 + fields_size fields)

  -- at first none is
  pub MeasuredSoFar-none : (scope : FigureScope) (it : RecordType N) (whole : Figure) (left : Entries N refer) → entries_of N refer it ≡ left
      → whole.depth ≡ 1 → whole.size ≡ 1 → MeasuredSoFar scope it whole left
  MeasuredSoFar-none scope it whole left same deep large = record {
    done = [];
    split = same;
    measured = λ defined knows. (end, as_no_member, IsFigureOf-single whole deep large);
  }

  module _ (scope : FigureScope) (it : RecordType N) (before : Figure) (left rest : Entries N refer) (name : String Global)
      (attribute : TypeOfAttribute N) (is : left ≡ (name, attribute) ∷ rest) (so_far : MeasuredSoFar scope it before left) where
    -- what is known for the record type is known for the type of the next attribute
    Knows-next : (defined : Defined) → Knows defined scope (record_type_expr N refer it) → Knows defined scope (attribute_expr N refer attribute)
    Knows-next defined knows =
        let whole = resolved_record-split N refer it so_far.done left rest name attribute so_far.split is in
        Knows-part defined scope (record_type_expr N refer it) (attribute_expr N refer attribute)
        (λ reference refers. rw whole (refer-right (resolved_members N refer so_far.done) (member (string_bytes name)
        (out-TypeOfAttribute N attribute).required (attribute_expr N refer attribute) (resolved_members N refer rest)) reference (inl refers)))
        knows

    -- where the type of the next attribute is elaborated as none, so is the record type
    pub record_not_measured : ((defined : Defined) → Knows defined scope (attribute_expr N refer attribute)
        → IsMeasured defined (attribute_expr N refer attribute) None)
        → (defined : Defined) → Knows defined scope (record_type_expr N refer it) → IsMeasured defined (record_type_expr N refer it) None
    record_not_measured none defined knows ty elaborated =
        let Elaborates : Expr → Type 0 = λ each. ElaboratesTo defined each ty in
        no_type ty (subst Elaborates (resolved_record-split N refer it so_far.done left rest name attribute so_far.split is) elaborated)
      where
        members : Members
        members = append_members (resolved_members N refer so_far.done)
            (member (string_bytes name) (out-TypeOfAttribute N attribute).required (attribute_expr N refer attribute) (resolved_members N refer rest))

        no_type : (each : Ty) → ¬ ElaboratesTo defined (record_expr members (out-RecordType N it).additional_attributes) each
        no_type each (as_record {fields = fields} written) =
            let part = member_elaborated defined (resolved_members N refer so_far.done) (string_bytes name)
            (out-TypeOfAttribute N attribute).required (attribute_expr N refer attribute) (resolved_members N refer rest) fields written in
            none defined (Knows-next defined knows) part.0 part.1

    -- one more attribute is measured
    pub MeasuredSoFar-more : (part whole : Figure)
        → ((defined : Defined) → Knows defined scope (attribute_expr N refer attribute)
        → IsMeasured defined (attribute_expr N refer attribute) (Some part))
        → whole.depth ≡ max before.depth (min (part.depth + 1) most) → whole.size ≡ min (before.size + part.size) most
        → MeasuredSoFar scope it whole rest
    MeasuredSoFar-more part whole measured is_deep is_large =
        let required = (out-TypeOfAttribute N attribute).required in
        let front = resolved_members N refer so_far.done in
        let last : Members = member (string_bytes name) required (attribute_expr N refer attribute) no_member in
        let members : resolved_members N refer (so_far.done ++ (name, attribute) ∷ []) ≡ append_members front last =
        resolved_members-append N refer so_far.done ((name, attribute) ∷ [])
        ∙ ap (append_members front) (resolved_members-one N refer name attribute []) in
        record {
          done = so_far.done ++ (name, attribute) ∷ [];
          split = so_far.split ∙ (ap (λ others. so_far.done ++ others) is ∙ sym (append_assoc so_far.done ((name, attribute) ∷ []) rest));
          measured = λ defined knows.
              let was = so_far.measured defined knows in
              let new = measured defined (Knows-next defined knows) in
              let one : Fields = field (string_bytes name) required new.0 end in (
                append_fields was.0 one,
                rw members (MembersElaborateTo-append defined was.1 (as_member new.1 as_no_member)),
                rw (fields_depth-append was.0 one, fields_size-append was.0 one)
                    (IsFigureOf-more whole before part (fields_depth was.0) (fields_size was.0) (type_depth new.0) (type_size new.0)
                    is_deep is_large was.2 new.2),
              );
        }

  -- where no attribute is left, the record type is measured
  pub record_measured : (scope : FigureScope) (it : RecordType N) (whole : Figure) (left : Entries N refer) → left ≡ []
      → MeasuredSoFar scope it whole left → (defined : Defined) → Knows defined scope (record_type_expr N refer it)
      → IsMeasured defined (record_type_expr N refer it) (Some whole)
  record_measured scope it whole left nothing so_far defined knows =
      let all : so_far.done ≡ entries_of N refer it =
      sym (so_far.split ∙ (ap (λ others. so_far.done ++ others) nothing ∙ append-nil so_far.done)) in
      let found = so_far.measured defined knows in
      let Elaborates : Entries N refer → Type 0 = λ entries. MembersElaborateTo defined (resolved_members N refer entries) found.0 in
      rw (record_type_expr-entries N refer it) (record_of found.0 ClosedAttributes, as_record (subst Elaborates all found.1), found.2)
