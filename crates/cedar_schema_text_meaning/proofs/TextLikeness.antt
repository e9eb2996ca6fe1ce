-- Types that are like each other but for references: one may stand for a built-in type, and others
-- mean as much.
use Rattle.std.proofs.Common.{◌≡◌, ◌↔◌, ◌⊎◌, Bool, sym, subst, refl, inl, inr, Contains}
use Rattle.cedar_ast.proofs.Basics.{Contains-image}
use Rattle.cedar_ast.specs.Words.{PlainName, Text}
use Rattle.cedar_schema_ast.specs.Words.{Expr, Members, Reference, extension_expr, long_expr, member, named, no_member, record_expr, set_expr, text_expr, truth_expr}
use Rattle.cedar_schema_ast.specs.declared.json_schema.reference_type.ReferenceType.{ReferenceType}
use Rattle.cedar_schema_semantics.proofs.OccurrenceLemmas.{Contains-entry}
use Rattle.cedar_schema_semantics.proofs.ResolutionLemmas.{IsFirst-same}
use Rattle.cedar_schema_semantics.specs.Words.{Defined, ElaboratesTo, Fields, HasOpenRecord, IsCommon, IsDefined, IsEntity, MayNameCommon, MayNameEntity, MembersElaborateTo, MembersHaveOpenRecord, MembersMentionExtension, MembersRefer, MentionsExtension, Names, Refers, ResolvesTo, Ty, as_common, as_entity, as_extension, as_long, as_member, as_no_member, as_record, as_set, as_text, as_truth, names_of}

-- the type is a built-in one: it is made of no others
abbrev pub IsBuiltIn : Expr → Type 0
IsBuiltIn text_expr = Unit {0}
IsBuiltIn long_expr = Unit {0}
IsBuiltIn truth_expr = Unit {0}
IsBuiltIn (extension_expr name) = Unit {0}
IsBuiltIn (named reference) = ⊥
IsBuiltIn (set_expr element) = ⊥
IsBuiltIn (record_expr members additional) = ⊥

-- references of two kinds name the same by what they resolve to: the kinds are one, or both may name
-- a common type, which it is, or both an entity type, which alone it is
abbrev pub KindsFit : Names → ReferenceType → ReferenceType → PlainName → Type 0
KindsFit names kind other name =
    (kind ≡ other)
    ⊎ ((MayNameCommon kind × MayNameCommon other × Contains names.common name)
    ⊎ (MayNameEntity kind × MayNameEntity other × ¬ Contains names.common name))

-- a reference means as much as another: they resolve to the same, each over its names, and name the
-- same by it
pub record MeansAsMuch (names others : Names) (reference other : Reference) : Type 0 where
  pub resolves : (name : PlainName) → ResolvesTo names reference name ↔ ResolvesTo others other name
  pub kinds : (name : PlainName) → ResolvesTo names reference name → KindsFit names reference.kind other.kind name

-- the reference resolves to a common type that stands for the type and for no other
pub record StandsFor (forms : Defined) (reference : Reference) (expr : Expr) : Type 0 where
  pub name : PlainName
  pub resolves : ResolvesTo (names_of forms) reference name
  pub is_common : IsCommon forms reference.kind name expr
  pub only : (body : Expr) → Contains forms.common (name, body) → body ≡ expr

mutual
  -- a type is like another
  pub data IsLike (defined forms : Defined) : Expr → Expr → Type 0 where
    like_text : IsLike defined forms text_expr text_expr
    like_long : IsLike defined forms long_expr long_expr
    like_truth : IsLike defined forms truth_expr truth_expr
    like_extension : (name : Text) → IsLike defined forms (extension_expr name) (extension_expr name)
    like_set : {element other : Expr} → IsLike defined forms element other → IsLike defined forms (set_expr element) (set_expr other)
    like_record : {members more : Members} (additional : Bool) → MembersLike defined forms members more
        → IsLike defined forms (record_expr members additional) (record_expr more additional)
    like_named : {reference other : Reference} → MeansAsMuch (names_of defined) (names_of forms) reference other
        → IsLike defined forms (named reference) (named other)
    like_built_in : {expr : Expr} {reference : Reference} → IsBuiltIn expr → StandsFor forms reference expr
        → IsLike defined forms expr (named reference)

  -- the same of the attributes of a record
  pub data MembersLike (defined forms : Defined) : Members → Members → Type 0 where
    like_no_member : MembersLike defined forms no_member no_member
    like_member : (name : Text) (required : Bool) {expr other : Expr} {rest more : Members} → IsLike defined forms expr other
        → MembersLike defined forms rest more
        → MembersLike defined forms (member name required expr rest) (member name required other more)

-- what the one defines the other does, with definitions that are like each other
pub record DefinesLike (defined forms : Defined) : Type 0 where
  pub common : (name : PlainName) (body : Expr) → Contains defined.common (name, body) → (found : Expr)
      × Contains forms.common (name, found) × IsLike defined forms body found
  pub common_back : (name : PlainName) (found : Expr) → Contains forms.common (name, found) → (body : Expr)
      × Contains defined.common (name, body) × IsLike defined forms body found
  pub entities : (name : PlainName) → Contains defined.entities name ↔ Contains forms.entities name

module _ (defined forms : Defined) where
  mutual
    -- an open record stands in the one where it does in the other
    pub open_forth : {it found : Expr} → IsLike defined forms it found → HasOpenRecord it → HasOpenRecord found
    open_forth (like_set element) has = open_forth element has
    open_forth (like_record additional members) has = elim has [ inl is ↦ inl is | inr later ↦ inr (members_open_forth members later) ]
    open_forth (like_built_in {expr = text_expr} built stands) has = absurd has
    open_forth (like_built_in {expr = long_expr} built stands) has = absurd has
    open_forth (like_built_in {expr = truth_expr} built stands) has = absurd has
    open_forth (like_built_in {expr = extension_expr name} built stands) has = absurd has
    open_forth (like_built_in {expr = set_expr element} built stands) has = absurd built
    open_forth (like_built_in {expr = record_expr members additional} built stands) has = absurd built
    open_forth (like_built_in {expr = named reference} built stands) has = absurd has
    open_forth _ has = absurd has

    -- the same of the attributes of a record
    members_open_forth : {members more : Members} → MembersLike defined forms members more → MembersHaveOpenRecord members
        → MembersHaveOpenRecord more
    members_open_forth like_no_member has = absurd has
    members_open_forth (like_member name required first rest) has =
        elim has [ inl here ↦ inl (open_forth first here) | inr later ↦ inr (members_open_forth rest later) ]

  mutual
    -- and the other way round
    pub open_back : {it found : Expr} → IsLike defined forms it found → HasOpenRecord found → HasOpenRecord it
    open_back (like_set element) has = open_back element has
    open_back (like_record additional members) has = elim has [ inl is ↦ inl is | inr later ↦ inr (members_open_back members later) ]
    open_back _ has = absurd has

    -- the same of the attributes of a record
    members_open_back : {members more : Members} → MembersLike defined forms members more → MembersHaveOpenRecord more
        → MembersHaveOpenRecord members
    members_open_back like_no_member has = absurd has
    members_open_back (like_member name required first rest) has =
        elim has [ inl here ↦ inl (open_back first here) | inr later ↦ inr (members_open_back rest later) ]

  mutual
    -- an extension type that stands in the other stands in the one
    pub extension_back : {it found : Expr} → IsLike defined forms it found → (word : Text) → MentionsExtension found word
        → MentionsExtension it word
    extension_back (like_set element) word has = extension_back element word has
    extension_back (like_record additional members) word has = members_extension_back members word has
    extension_back (like_extension name) word has = has
    extension_back _ word has = absurd has

    -- the same of the attributes of a record
    members_extension_back : {members more : Members} → MembersLike defined forms members more → (word : Text)
        → MembersMentionExtension more word → MembersMentionExtension members word
    members_extension_back like_no_member word has = absurd has
    members_extension_back (like_member name required first rest) word has =
        elim has [ inl here ↦ inl (extension_back first word here) | inr later ↦ inr (members_extension_back rest word later) ]

  -- a built-in type refers to nothing
  pub built_in_refers : (it : Expr) → IsBuiltIn it → (reference : Reference) → ¬ Refers it reference
  built_in_refers text_expr built reference refers = refers
  built_in_refers long_expr built reference refers = refers
  built_in_refers truth_expr built reference refers = refers
  built_in_refers (extension_expr name) built reference refers = refers
  built_in_refers (named other) built reference refers = built
  built_in_refers (set_expr element) built reference refers = built
  built_in_refers (record_expr members additional) built reference refers = built

  mutual
    -- for each reference in the one there is one in the other that means as much
    pub refers_forth : {it found : Expr} → IsLike defined forms it found → (reference : Reference) → Refers it reference
        → (other : Reference) × Refers found other × MeansAsMuch (names_of defined) (names_of forms) reference other
    refers_forth (like_set element) reference refers = refers_forth element reference refers
    refers_forth (like_record additional members) reference refers = members_refer_forth members reference refers
    refers_forth (like_named {reference = r} {other = r'} means) reference refers =
        (r', refl, subst (λ each. MeansAsMuch (names_of defined) (names_of forms) each r') refers means)
    refers_forth (like_built_in {expr = e} built stands) reference refers = absurd (built_in_refers e built reference refers)
    refers_forth _ reference refers = absurd refers

    -- the same of the attributes of a record
    members_refer_forth : {members more : Members} → MembersLike defined forms members more → (reference : Reference)
        → MembersRefer members reference
        → (other : Reference) × MembersRefer more other × MeansAsMuch (names_of defined) (names_of forms) reference other
    members_refer_forth like_no_member reference refers = absurd refers
    members_refer_forth (like_member name required first rest) reference refers =
        elim refers [
          | inl here ↦ let found = refers_forth first reference here in (found.0, inl found.1, found.2)
          | inr later ↦ let found = members_refer_forth rest reference later in (found.0, inr found.1, found.2)
        ]

  -- a reference in the other means as much as one in the one, or stands for a built-in type
  abbrev pub IsFromIt : (Reference → Type 0) → Reference → Type 0
  IsFromIt There other =
      ((reference : Reference) × There reference × MeansAsMuch (names_of defined) (names_of forms) reference other)
      ⊎ ((expr : Expr) × IsBuiltIn expr × StandsFor forms other expr)

  mutual
    -- each reference in the other is from the one
    pub refers_back : {it found : Expr} → IsLike defined forms it found → (other : Reference) → Refers found other
        → IsFromIt (Refers it) other
    refers_back (like_set element) other refers = refers_back element other refers
    refers_back (like_record additional members) other refers = members_refer_back members other refers
    refers_back (like_named {reference = r} {other = r'} means) other refers =
        inl (r, refl, subst (MeansAsMuch (names_of defined) (names_of forms) r) refers means)
    refers_back (like_built_in {expr = e} built stands) other refers =
        inr (e, built, subst (λ each. StandsFor forms each e) refers stands)
    refers_back _ other refers = absurd refers

    -- the same of the attributes of a record
    members_refer_back : {members more : Members} → MembersLike defined forms members more → (other : Reference)
        → MembersRefer more other → IsFromIt (MembersRefer members) other
    members_refer_back like_no_member other refers = absurd refers
    members_refer_back (like_member name required first rest) other refers =
        elim refers [
          | inl here ↦ elim (refers_back first other here) [
            | inl from ↦ inl (from.0, inl from.1, from.2)
            | inr built ↦ inr built
          ]
          | inr later ↦ elim (members_refer_back rest other later) [
            | inl from ↦ inl (from.0, inr from.1, from.2)
            | inr built ↦ inr built
          ]
        ]

module _ (defined forms : Defined) (moves : DefinesLike defined forms) where
  -- what is named as a common type by the one reference is by the other
  pub common_forth : (reference other : Reference) (name : PlainName) (body : Expr)
      → KindsFit (names_of defined) reference.kind other.kind name → IsCommon defined reference.kind name body
      → (found : Expr) × IsCommon forms other.kind name found × IsLike defined forms body found
  common_forth reference other name body fits is_common =
      let found = moves.common name body is_common.1 in
      let may : MayNameCommon other.kind = elim fits [
        | inl same ↦ subst MayNameCommon same is_common.0
        | inr differ ↦ elim differ [
          | inl common ↦ common.1
          | inr entity ↦ absurd (entity.2 (Contains-image (λ (it : PlainName × Expr). it.0) defined.common (name, body) is_common.1))
        ]
      ] in
      (found.0, (may, found.1), found.2)

  -- and the other way round
  pub common_back : (reference other : Reference) (name : PlainName) (found : Expr)
      → KindsFit (names_of defined) reference.kind other.kind name → IsCommon forms other.kind name found
      → (body : Expr) × IsCommon defined reference.kind name body × IsLike defined forms body found
  common_back reference other name found fits is_common =
      let body = moves.common_back name found is_common.1 in
      let may : MayNameCommon reference.kind = elim fits [
        | inl same ↦ subst MayNameCommon (sym same) is_common.0
        | inr differ ↦ elim differ [
          | inl common ↦ common.0
          | inr entity ↦ absurd (entity.2 (Contains-image (λ (it : PlainName × Expr). it.0) defined.common (name, body.0) body.1))
        ]
      ] in
      (body.0, (may, body.1), body.2)

  -- what is named as an entity type alone by the one reference is by the other
  entity_forth : (reference other : Reference) (name : PlainName) → KindsFit (names_of defined) reference.kind other.kind name
      → IsEntity (names_of defined) reference.kind name → ((body : Expr) → ¬ IsCommon defined reference.kind name body)
      → IsEntity (names_of forms) other.kind name × ((body : Expr) → ¬ IsCommon forms other.kind name body)
  entity_forth reference other name fits is_entity none =
      let may : MayNameEntity other.kind = elim fits [
        | inl same ↦ subst MayNameEntity same is_entity.0
        | inr differ ↦ elim differ [
          | inl common ↦
              let body = Contains-entry defined.common name common.2 in absurd (none body.0 (common.0, body.1))
          | inr entity ↦ entity.1
        ]
      ] in (
        (may, (moves.entities name).0 is_entity.1),
        λ found is_common. let body = common_back reference other name found fits is_common in none body.0 body.1,
      )

  -- and the other way round
  entity_back : (reference other : Reference) (name : PlainName) → KindsFit (names_of defined) reference.kind other.kind name
      → IsEntity (names_of forms) other.kind name → ((found : Expr) → ¬ IsCommon forms other.kind name found)
      → IsEntity (names_of defined) reference.kind name × ((body : Expr) → ¬ IsCommon defined reference.kind name body)
  entity_back reference other name fits is_entity none =
      let may : MayNameEntity reference.kind = elim fits [
        | inl same ↦ subst MayNameEntity (sym same) is_entity.0
        | inr differ ↦ elim differ [
          | inl common ↦
              let body = Contains-entry defined.common name common.2 in
              let found = moves.common name body.0 body.1 in
              absurd (none found.0 (common.1, found.1))
          | inr entity ↦ entity.0
        ]
      ] in (
        (may, (moves.entities name).1 is_entity.1),
        λ body is_common. let found = common_forth reference other name body fits is_common in none found.0 found.1,
      )

  -- a built-in type is elaborated alike over whatever is defined
  built_in_elaborates : (some others : Defined) {it : Expr} {ty : Ty} → IsBuiltIn it → ElaboratesTo some it ty → ElaboratesTo others it ty
  built_in_elaborates some others built as_text = as_text
  built_in_elaborates some others built as_long = as_long
  built_in_elaborates some others built as_truth = as_truth
  built_in_elaborates some others built (as_extension name) = as_extension name
  built_in_elaborates some others built _ = absurd built

  -- so it is by a reference that stands for it
  stands_forth : (reference : Reference) {it : Expr} {ty : Ty} → IsBuiltIn it → StandsFor forms reference it → ElaboratesTo defined it ty
      → ElaboratesTo forms (named reference) ty
  stands_forth reference {it = it} built stands written =
      as_common reference stands.name it stands.resolves stands.is_common (built_in_elaborates defined forms built written)

  mutual
    -- what is like another is elaborated as the same
    pub elaborated_forth : {it found : Expr} {ty : Ty} → ElaboratesTo defined it ty → IsLike defined forms it found
        → ElaboratesTo forms found ty
    elaborated_forth as_text like_text = as_text
    elaborated_forth as_text (like_built_in {reference = r} built stands) = stands_forth r built stands as_text
    elaborated_forth as_long like_long = as_long
    elaborated_forth as_long (like_built_in {reference = r} built stands) = stands_forth r built stands as_long
    elaborated_forth as_truth like_truth = as_truth
    elaborated_forth as_truth (like_built_in {reference = r} built stands) = stands_forth r built stands as_truth
    elaborated_forth (as_extension name) (like_extension name') = as_extension name
    elaborated_forth (as_extension name) (like_built_in {reference = r} built stands) = stands_forth r built stands (as_extension name)
    elaborated_forth (as_set element) (like_set like) = as_set (elaborated_forth element like)
    elaborated_forth (as_set element) (like_built_in built stands) = absurd built
    elaborated_forth (as_record members) (like_record additional like) = as_record (members_elaborated_forth members like)
    elaborated_forth (as_record members) (like_built_in built stands) = absurd built
    elaborated_forth (as_entity reference name resolves is_entity none) (like_named {other = r'} means) =
        let there = entity_forth reference r' name (means.kinds name resolves) is_entity none in
        as_entity r' name ((means.resolves name).0 resolves) there.0 there.1
    elaborated_forth (as_entity reference name resolves is_entity none) (like_built_in built stands) = absurd built
    elaborated_forth (as_common reference name body resolves is_common written) (like_named {other = r'} means) =
        let found = common_forth reference r' name body (means.kinds name resolves) is_common in
        as_common r' name found.0 ((means.resolves name).0 resolves) found.1 (elaborated_forth written found.2)
    elaborated_forth (as_common reference name body resolves is_common written) (like_built_in built stands) = absurd built

    -- the same of the attributes of a record
    members_elaborated_forth : {members more : Members} {fields : Fields} → MembersElaborateTo defined members fields
        → MembersLike defined forms members more → MembersElaborateTo forms more fields
    members_elaborated_forth as_no_member like_no_member = as_no_member
    members_elaborated_forth (as_member first rest) (like_member name required like others) =
        as_member (elaborated_forth first like) (members_elaborated_forth rest others)

  -- what a reference resolves to that stands for a built-in type is that
  pub stands_once : (reference : Reference) (it : Expr) (stands : StandsFor forms reference it) (name : PlainName)
      → ResolvesTo (names_of forms) reference name → stands.name ≡ name
  stands_once reference it stands name resolves =
      IsFirst-same (IsDefined (names_of forms) reference.kind) reference.possibilities stands.name name stands.resolves resolves

  mutual
    -- and the other way round
    pub elaborated_back : {it found : Expr} {ty : Ty} → ElaboratesTo forms found ty → IsLike defined forms it found
        → ElaboratesTo defined it ty
    elaborated_back as_text like_text = as_text
    elaborated_back as_long like_long = as_long
    elaborated_back as_truth like_truth = as_truth
    elaborated_back (as_extension name) (like_extension name') = as_extension name
    elaborated_back (as_set element) (like_set like) = as_set (elaborated_back element like)
    elaborated_back (as_record members) (like_record additional like) = as_record (members_elaborated_back members like)
    elaborated_back (as_entity other name resolves is_entity none) (like_named {reference = r} means) =
        let here = (means.resolves name).1 resolves in
        let there = entity_back r other name (means.kinds name here) is_entity none in
        as_entity r name here there.0 there.1
    elaborated_back (as_entity other name resolves is_entity none) (like_built_in {expr = e} built stands) =
        absurd (none e (subst (λ each. IsCommon forms other.kind each e) (stands_once other e stands name resolves) stands.is_common))
    elaborated_back (as_common other name found resolves is_common written) (like_named {reference = r} means) =
        let here = (means.resolves name).1 resolves in
        let body = common_back r other name found (means.kinds name here) is_common in
        as_common r name body.0 here body.1 (elaborated_back written body.2)
    elaborated_back {ty = ty} (as_common other name found resolves is_common written) (like_built_in {expr = e} built stands) =
        let same : found ≡ e = stands.only found
        (subst (λ each. Contains forms.common (each, found)) (sym (stands_once other e stands name resolves)) is_common.1) in
        built_in_elaborates forms defined built (subst (λ each. ElaboratesTo forms each ty) same written)

    -- the same of the attributes of a record
    members_elaborated_back : {members more : Members} {fields : Fields} → MembersElaborateTo forms more fields
        → MembersLike defined forms members more → MembersElaborateTo defined members fields
    members_elaborated_back as_no_member like_no_member = as_no_member
    members_elaborated_back (as_member first rest) (like_member name required like others) =
        as_member (elaborated_back first like) (members_elaborated_back rest others)
