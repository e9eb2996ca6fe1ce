-- Types and references that are resolved one after another.
use Rattle.std.proofs.Common.{◌≡◌, Bool, List, [], ◌∷◌, ◌++◌, map, ap, sym, subst, refl, inl, inr, string_bytes}
use Rattle.std.specs.declared.alloc.Global.{Global}
use Rattle.std.specs.declared.string.String.{String}
use Rattle.cedar_fragments.specs.Words.{Expr, HoldsPairwise, InternalName, MembersRefer, Names, RecordType, Reference, ReferenceType, Refers, Resolves, ResolvesMembers, ResolvesTo, «Type», TypeOfAttribute, TypeVariant, flag_and_expr, member, members_from, name_of, named, out-RecordType, out-TypeOfAttribute, record_expr, record_type_expr, resolved_expr, resolved_record, resolved_reference, resolves_member, resolves_named, resolves_no_member, resolves_record, roll-RecordType, type_expr}
use Rattle.cedar_name_resolution.proofs.Pairwise.{SameKey}
use Rattle.cedar_schema_ast.proofs.ExprLemmas.{record_type_expr-entries, record_type_expr-made, flag_and_expr-parts}
use Rattle.cedar_schema_ast.specs.declared.json_schema.qualify_error.QualifyError.TheVariants as error
use Rattle.cedar_schema_ast.specs.declared.json_schema.type_of.Type.TheOpen as layer

module _ (names : Names) {N : Type 0} (refer : ReferenceType → N → Reference) where
  -- the attribute is the one resolved
  abbrev pub ResolvesAttribute : TypeOfAttribute N → TypeOfAttribute InternalName → Type 0
  ResolvesAttribute written resolved =
      ((out-TypeOfAttribute N written).required ≡ (out-TypeOfAttribute InternalName resolved).required)
      × Resolves names (type_expr N refer (out-TypeOfAttribute N written).ty) (resolved_expr (out-TypeOfAttribute InternalName resolved).ty)

  -- the attributes of a record are the ones resolved
  resolved_members : (written : List (String Global × TypeOfAttribute N)) (resolved : List (String Global × TypeOfAttribute InternalName))
      → HoldsPairwise (SameKey ResolvesAttribute) written resolved
      → ResolvesMembers names (members_from (map (λ entry. (string_bytes entry.0, flag_and_expr N refer entry.1)) written))
      (members_from (map (λ entry. (string_bytes entry.0, flag_and_expr InternalName resolved_reference entry.1)) resolved))
  resolved_members [] [] turn = resolves_no_member
  resolved_members (entry ∷ written) (other ∷ resolved) turn =
      let rest = resolved_members written resolved turn.1 in
      let here = flag_and_expr-parts N refer entry.1 in
      let there = flag_and_expr-parts InternalName resolved_reference other.1 in
      let before = members_from (map (λ each. (string_bytes each.0, flag_and_expr N refer each.1)) written) in
      let after = members_from (map (λ each. (string_bytes each.0, flag_and_expr InternalName resolved_reference each.1)) resolved) in
      let MemberFrom : Bool × Expr → Type 0 = λ each.
      ResolvesMembers names (member (string_bytes entry.0) each.0 each.1 before)
      (member (string_bytes other.0) (flag_and_expr InternalName resolved_reference other.1).0
      (flag_and_expr InternalName resolved_reference other.1).1 after) in
      let MemberTo : Bool × Expr → Type 0 = λ each.
      ResolvesMembers names (member (string_bytes entry.0) (out-TypeOfAttribute N entry.1).required
      (type_expr N refer (out-TypeOfAttribute N entry.1).ty) before) (member (string_bytes other.0) each.0 each.1 after) in
      let MemberNamed : String Global × Bool → Type 0 = λ each.
      ResolvesMembers names (member (string_bytes entry.0) (out-TypeOfAttribute N entry.1).required
      (type_expr N refer (out-TypeOfAttribute N entry.1).ty) before)
      (member (string_bytes each.0) each.1 (resolved_expr (out-TypeOfAttribute InternalName other.1).ty) after) in
      subst MemberFrom (sym here)
      (subst MemberTo (sym there)
      (subst MemberNamed (λ i. (turn.0.0 i, turn.0.1.0 i)) (resolves_member (string_bytes entry.0) (out-TypeOfAttribute N entry.1).required turn.0.1.1 rest)))
  resolved_members _ _ turn = absurd turn

  -- a record type that is made of attributes
  abbrev pub Made : Type 0
  Made = layer.RecordType-F InternalName («Type» InternalName) (TypeVariant InternalName) (RecordType InternalName)
      (TypeOfAttribute InternalName)

  -- the record type whose attributes are the ones resolved is the one resolved
  pub resolved_record_type : (written : RecordType N) (it : Made)
      → it.additional_attributes ≡ (out-RecordType N written).additional_attributes
      → HoldsPairwise (SameKey ResolvesAttribute) (out-RecordType N written).attributes.entries it.attributes.entries
      → Resolves names (record_type_expr N refer written) (resolved_record (roll-RecordType InternalName it))
  resolved_record_type written it additional turn =
      let after = members_from (map (λ each. (string_bytes each.0, flag_and_expr InternalName resolved_reference each.1)) it.attributes.entries) in
      rw (record_type_expr-entries N refer written, record_type_expr-made InternalName resolved_reference it, ap (λ each. record_expr after each) additional)
      (resolves_record (out-RecordType N written).additional_attributes
      (resolved_members (out-RecordType N written).attributes.entries it.attributes.entries turn))

module _ {N : Type 0} (refer : ReferenceType → N → Reference) where
  -- a reference in the type of an attribute stands in the record type
  refers_member : (front : List (String Global × TypeOfAttribute N)) (key : String Global) (attribute : TypeOfAttribute N)
      (back : List (String Global × TypeOfAttribute N)) (reference : Reference)
      → Refers (type_expr N refer (out-TypeOfAttribute N attribute).ty) reference
      → MembersRefer (members_from (map (λ entry. (string_bytes entry.0, flag_and_expr N refer entry.1)) (front ++ (key, attribute) ∷ back))) reference
  refers_member [] key attribute back reference refers =
      inl (rw (flag_and_expr-parts N refer attribute) refers)
  refers_member (entry ∷ front) key attribute back reference refers = inr (refers_member front key attribute back reference refers)

  -- also where the record type has the attribute among others
  pub refers_record : (written : RecordType N) (front left rest : List (String Global × TypeOfAttribute N))
      (key : String Global) (attribute : TypeOfAttribute N) → (out-RecordType N written).attributes.entries ≡ front ++ left
      → left ≡ (key, attribute) ∷ rest → (reference : Reference)
      → Refers (type_expr N refer (out-TypeOfAttribute N attribute).ty) reference → Refers (record_type_expr N refer written) reference
  refers_record written front left rest key attribute split is reference refers =
      rw (record_type_expr-entries N refer written, split, ap (λ others. front ++ others) is) (refers_member front key attribute rest reference refers)

module _ (names : Names) where
  -- an expression is the one resolved if what it is does
  pub resolves_as : {written before resolved after : Expr} → written ≡ before → resolved ≡ after → Resolves names before after
      → Resolves names written resolved
  resolves_as {before = before} {resolved = resolved} is becomes qualifies =
      rw (is, becomes) qualifies

  -- a name is resolved by the full name that it resolves to
  pub resolves_name : (reference : Reference) (kind : ReferenceType) → reference.kind ≡ kind → (found : InternalName)
      → ResolvesTo names reference (name_of found) → Resolves names (named reference) (named (resolved_reference kind found))
  resolves_name reference kind same found resolves =
      let ResolvesAs : ReferenceType → Type 0 = λ each. Resolves names (named reference) (named (resolved_reference each found)) in
      subst ResolvesAs same (resolves_named (name_of found, resolves, refl))

-- the reference stands in the expression that is it
pub refers_name : {expr : Expr} {reference : Reference} → expr ≡ named reference → Refers expr reference
refers_name {reference = reference} is = rw is

-- what stands in an expression stands in the one that it is
pub refers_as : {expr other : Expr} → expr ≡ other → (reference : Reference) → Refers other reference → Refers expr reference
refers_as is reference refers = rw is refers
