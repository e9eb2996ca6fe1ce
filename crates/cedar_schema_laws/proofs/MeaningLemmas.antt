-- References that mean the same, and expressions that are alike but for such references.
use Rattle.std.proofs.Common.{◌≡◌, ◌↔◌, Bool, ap, sym, refl, inl, inr, Contains}
use Rattle.cedar_schema_laws.specs.Words.{Defined, ElaboratesTo, Expr, Fields, HasOpenRecord, IsDefined, IsNoRecord, Members, MembersElaborateTo, MembersHaveOpenRecord, MembersMentionExtension, MembersRefer, MentionsExtension, Names, PlainName, Reference, Refers, Resolves, ResolvesMembers, ResolvesReference, ResolvesTo, Text, Ty, as_common, as_entity, as_extension, as_long, as_member, as_no_member, as_record, as_set, as_text, as_truth, extension_expr, long_expr, member, named, names_of, no_member, record_expr, resolves_extension, resolves_long, resolves_member, resolves_named, resolves_no_member, resolves_record, resolves_set, resolves_text, resolves_truth, set_expr, text_expr, truth_expr}
use Rattle.cedar_schema_semantics.proofs.ResolutionLemmas.{IsFirst-same, first_defined}

-- two references mean the same, each over its names: they are of one kind, resolve to the same, and
-- do resolve
abbrev pub MeansTheSame : Names → Names → Reference → Reference → Type 0
MeansTheSame names others reference other =
    (reference.kind ≡ other.kind) × ((name : PlainName) → ResolvesTo names reference name ↔ ResolvesTo others other name)
    × ((name : PlainName) × ResolvesTo names reference name)

-- and the other way round
pub MeansTheSame-sym : (names others : Names) (reference other : Reference) → MeansTheSame names others reference other
    → MeansTheSame others names other reference
MeansTheSame-sym names others reference other (kind, both, some) =
    (sym kind, λ name. ((both name).1, (both name).0), (some.0, (both some.0).0 some.1))

-- a reference means the same as it does resolved
pub resolved_means : (names others : Names) → names ≡ others → (reference resolved : Reference)
    → ResolvesReference names reference resolved → MeansTheSame names others reference resolved
resolved_means names others same reference resolved (name, resolves, is) = (
  ap (λ (each : Reference). each.kind) (sym is),
  both,
  (name, resolves),
) where
  defined_there : IsDefined others reference.kind name
  defined_there = rw same at (first_defined names reference.kind reference.possibilities name resolves).1

  both : (each : PlainName) → ResolvesTo names reference each ↔ ResolvesTo others resolved each
  both each = (
    λ to. rw is (inl (
      IsFirst-same (IsDefined names reference.kind) reference.possibilities name each resolves to,
      defined_there,
    )),
    λ to. elim (rw is at to) [ inl here ↦ rw here.0 at resolves | inr none ↦ absurd none.1 ],
  )

mutual
  -- expressions that are alike but for references that mean the same
  pub data AreAlike (names others : Names) : Expr → Expr → Type 0 where
    alike_text : AreAlike names others text_expr text_expr
    alike_long : AreAlike names others long_expr long_expr
    alike_truth : AreAlike names others truth_expr truth_expr
    alike_set : {element other : Expr} → AreAlike names others element other → AreAlike names others (set_expr element) (set_expr other)
    alike_record : {members more : Members} (additional : Bool) → MembersAlike names others members more
        → AreAlike names others (record_expr members additional) (record_expr more additional)
    alike_named : {reference other : Reference} → MeansTheSame names others reference other
        → AreAlike names others (named reference) (named other)
    alike_extension : (name : Text) → AreAlike names others (extension_expr name) (extension_expr name)

  -- the same of the attributes of a record
  pub data MembersAlike (names others : Names) : Members → Members → Type 0 where
    alike_no_member : MembersAlike names others no_member no_member
    alike_member : (name : Text) (required : Bool) {expr other : Expr} {rest more : Members} → AreAlike names others expr other
        → MembersAlike names others rest more
        → MembersAlike names others (member name required expr rest) (member name required other more)

mutual
  -- expressions that are alike are so the other way round
  pub AreAlike-sym : (names others : Names) {expr other : Expr} → AreAlike names others expr other → AreAlike others names other expr
  AreAlike-sym names others alike_text = alike_text
  AreAlike-sym names others alike_long = alike_long
  AreAlike-sym names others alike_truth = alike_truth
  AreAlike-sym names others (alike_set element) = alike_set (AreAlike-sym names others element)
  AreAlike-sym names others (alike_record additional members) = alike_record additional (MembersAlike-sym names others members)
  AreAlike-sym names others (alike_named {reference = r} {other = r'} same) = alike_named (MeansTheSame-sym names others r r' same)
  AreAlike-sym names others (alike_extension name) = alike_extension name

  -- the same of the attributes of a record
  MembersAlike-sym : (names others : Names) {members more : Members} → MembersAlike names others members more
      → MembersAlike others names more members
  MembersAlike-sym names others alike_no_member = alike_no_member
  MembersAlike-sym names others (alike_member name required first rest) =
      alike_member name required (AreAlike-sym names others first) (MembersAlike-sym names others rest)

mutual
  -- an expression is like itself resolved
  pub resolved_alike : (names others : Names) → names ≡ others → {expr resolved : Expr} → Resolves names expr resolved
      → AreAlike names others expr resolved
  resolved_alike names others same resolves_text = alike_text
  resolved_alike names others same resolves_long = alike_long
  resolved_alike names others same resolves_truth = alike_truth
  resolved_alike names others same (resolves_set element) = alike_set (resolved_alike names others same element)
  resolved_alike names others same (resolves_record additional members) = alike_record additional
      (resolved_members_alike names others same members)
  resolved_alike names others same (resolves_named {reference = r} {resolved = r'} it) = alike_named
      (resolved_means names others same r r' it)
  resolved_alike names others same (resolves_extension name) = alike_extension name

  -- the same of the attributes of a record
  resolved_members_alike : (names others : Names) → names ≡ others → {members more : Members} → ResolvesMembers names members more
      → MembersAlike names others members more
  resolved_members_alike names others same resolves_no_member = alike_no_member
  resolved_members_alike names others same (resolves_member name required first rest) =
      alike_member name required (resolved_alike names others same first) (resolved_members_alike names others same rest)

module _ (names others : Names) where
  mutual
    -- an open record stands in what is alike
    pub open_alike : {expr other : Expr} → AreAlike names others expr other → HasOpenRecord expr → HasOpenRecord other
    open_alike (alike_set element) has = open_alike element has
    open_alike (alike_record additional members) has = elim has [ inl is ↦ inl is | inr later ↦ inr (members_open_alike members later) ]
    open_alike _ has = absurd has

    -- the same of the attributes of a record
    members_open_alike : {members more : Members} → MembersAlike names others members more → MembersHaveOpenRecord members
        → MembersHaveOpenRecord more
    members_open_alike alike_no_member has = absurd has
    members_open_alike (alike_member name required first rest) has =
        elim has [ inl here ↦ inl (open_alike first here) | inr later ↦ inr (members_open_alike rest later) ]

  mutual
    -- an extension type stands in what is alike
    pub extension_alike : {expr other : Expr} → AreAlike names others expr other → (word : Text) → MentionsExtension expr word
        → MentionsExtension other word
    extension_alike (alike_set element) word has = extension_alike element word has
    extension_alike (alike_record additional members) word has = members_extension_alike members word has
    extension_alike (alike_extension name) word has = has
    extension_alike _ word has = absurd has

    -- the same of the attributes of a record
    members_extension_alike : {members more : Members} → MembersAlike names others members more → (word : Text)
        → MembersMentionExtension members word → MembersMentionExtension more word
    members_extension_alike alike_no_member word has = absurd has
    members_extension_alike (alike_member name required first rest) word has =
        elim has [ inl here ↦ inl (extension_alike first word here) | inr later ↦ inr (members_extension_alike rest word later) ]

  mutual
    -- for each reference one that means the same stands in what is alike
    pub refers_alike : {expr other : Expr} → AreAlike names others expr other → (reference : Reference) → Refers expr reference
        → (found : Reference) × Refers other found × MeansTheSame names others reference found
    refers_alike (alike_set element) reference refers = refers_alike element reference refers
    refers_alike (alike_record additional members) reference refers = members_refer_alike members reference refers
    refers_alike (alike_named {reference = r} {other = r'} same) reference refers = (r', refl, rw refers at same)
    refers_alike _ reference refers = absurd refers

    -- the same of the attributes of a record
    members_refer_alike : {members more : Members} → MembersAlike names others members more → (reference : Reference)
        → MembersRefer members reference → (found : Reference) × MembersRefer more found × MeansTheSame names others reference found
    members_refer_alike alike_no_member reference refers = absurd refers
    members_refer_alike (alike_member name required first rest) reference refers =
        elim refers [
          | inl here ↦ let found = refers_alike first reference here in (found.0, inl found.1, found.2)
          | inr later ↦ let found = members_refer_alike rest reference later in (found.0, inr found.1, found.2)
        ]

-- what some names define is defined by others, up to references that mean the same
pub record MovesTo (defined other : Defined) : Type 0 where
  pub common : (name : PlainName) (body : Expr) → Contains defined.common (name, body) → (found : Expr)
      × Contains other.common (name, found) × AreAlike (names_of defined) (names_of other) body found
  pub common_back : (name : PlainName) (found : Expr) → Contains other.common (name, found) → (body : Expr)
      × Contains defined.common (name, body)
  pub entities : (name : PlainName) → Contains defined.entities name → Contains other.entities name

module _ (defined other : Defined) (moves : MovesTo defined other) where
  mutual
    -- what is alike is elaborated as the same
    pub elaborated_alike : {expr found : Expr} {ty : Ty} → ElaboratesTo defined expr ty
        → AreAlike (names_of defined) (names_of other) expr found → ElaboratesTo other found ty
    elaborated_alike as_text alike_text = as_text
    elaborated_alike as_long alike_long = as_long
    elaborated_alike as_truth alike_truth = as_truth
    elaborated_alike (as_set element) (alike_set like) = as_set (elaborated_alike element like)
    elaborated_alike (as_record members) (alike_record additional like) = as_record (members_elaborated_alike members like)
    elaborated_alike (as_entity reference name resolves is_entity none) (alike_named {other = r'} same) =
        as_entity r' name ((same.1 name).0 resolves) (rw same.0 at is_entity.0, moves.entities name is_entity.1)
        (λ found common. let body = moves.common_back name found common.1 in
        none body.0 (rw same.0 common.0, body.1))
    elaborated_alike (as_common reference name body resolves is_common written) (alike_named {other = r'} same) =
        let found = moves.common name body is_common.1 in
        as_common r' name found.0 ((same.1 name).0 resolves) (rw same.0 at is_common.0, found.1)
        (elaborated_alike written found.2)
    elaborated_alike (as_extension name) (alike_extension name') = as_extension name

    -- the same of the attributes of a record
    members_elaborated_alike : {members more : Members} {fields : Fields} → MembersElaborateTo defined members fields
        → MembersAlike (names_of defined) (names_of other) members more → MembersElaborateTo other more fields
    members_elaborated_alike as_no_member alike_no_member = as_no_member
    members_elaborated_alike (as_member first rest) (alike_member name required like others) =
        as_member (elaborated_alike first like) (members_elaborated_alike rest others)

  -- what is alike is elaborated as no record type alike
  pub no_record_alike : {expr found : Expr} → AreAlike (names_of defined) (names_of other) expr found → IsNoRecord defined expr
      → IsNoRecord other found
  no_record_alike like none = (none.0, elaborated_alike none.1 like, none.2)
