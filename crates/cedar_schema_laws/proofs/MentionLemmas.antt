-- What stands in types that are elaborated is known.
use Rattle.std.proofs.Common.{◌≡◌, ◌⊎◌, zero, suc, Bool, true, false, [], ap, sym, subst, refl, inl, inr, arith, Contains}
use Rattle.std.proofs.lemmas.Bool.{false≢true}
use Rattle.std.proofs.lemmas.List.Elements.{All-contains, Contains-append_cases}
use Rattle.std.specs.Bool.{Decides}
use Rattle.std.specs.List.{list_any}
use Rattle.std.specs.Ordering.{is_eq}
use Rattle.cedar_ast.proofs.Lists.{Contains-cons_cases, list_any-Contains, Contains-preimage}
use Rattle.cedar_schema_laws.specs.Words.{Bag, Defined, ElaboratesTo, Expr, Extensions, Fields, FieldsMentionEntity, FieldsMentionExtensionType, IsCounted, IsIllFormed, IsUnqualified, Members, MembersElaborateTo, MembersMentionExtension, MentionsEntity, MentionsExtension, MentionsExtensionType, Name, PlainName, Text, Ty, TypeNamesFit, alias_name, as_common, as_entity, as_extension, as_member, as_no_member, as_record, as_set, built_in_name, built_in_types, built_ins, declared_common, definitions, extension_expr, extension_types, name_cmp, plain_name, unknown_extension_type}
use Rattle.cedar_schema_semantics.proofs.BuiltInLemmas.{alias_of, common_cases}
use Rattle.cedar_schema_semantics.proofs.DeclarationLemmas.{common_declaration}
use Rattle.cedar_schema_semantics.proofs.OccurrenceLemmas.{name_test}

mutual
  -- an entity type that stands in a type which is elaborated is one that references can name
  pub mentions_entity : (defined : Defined) {expr : Expr} {ty : Ty} → ElaboratesTo defined expr ty → (name : PlainName)
      → MentionsEntity ty name → Contains defined.entities name
  mentions_entity defined (as_set element) name mentions = mentions_entity defined element name mentions
  mentions_entity defined (as_record members) name mentions = members_mention_entity defined members name mentions
  mentions_entity defined (as_entity reference other resolves is_entity none) name mentions =
      elim (Contains-cons_cases other [] name mentions) [
        | inl same ↦ rw same at is_entity.1
        | inr nothing ↦ absurd (omega (arith, nothing.1))
      ]
  mentions_entity defined (as_common reference other body resolves is_common written) name mentions =
      mentions_entity defined written name mentions
  mentions_entity defined _ name mentions = absurd mentions

  -- the same of the attributes of a record
  members_mention_entity : (defined : Defined) {members : Members} {fields : Fields}
      → MembersElaborateTo defined members fields → (name : PlainName) → FieldsMentionEntity fields name → Contains defined.entities name
  members_mention_entity defined as_no_member name mentions = absurd mentions
  members_mention_entity defined (as_member first rest) name mentions =
      elim mentions [ inl here ↦ mentions_entity defined first name here | inr later ↦ members_mention_entity defined rest name later ]

-- each extension type that the expression mentions is known
abbrev pub HasKnownExtensions : Extensions → Expr → Type 0
HasKnownExtensions extensions expr = (word : Text) → MentionsExtension expr word → Contains (extension_types extensions) (alias_name word)

-- the same of the attributes of a record
abbrev AreKnown : Extensions → Members → Type 0
AreKnown extensions members = (word : Text) → MembersMentionExtension members word → Contains (extension_types extensions) (alias_name word)

mutual
  -- where each definition and the expression mention known extension types alone, so does what is
  -- elaborated
  pub known_written : (defined : Defined) (extensions : Extensions)
      → ((name : PlainName) (body : Expr) → Contains defined.common (name, body) → HasKnownExtensions extensions body)
      → {expr : Expr} {ty : Ty} → ElaboratesTo defined expr ty → HasKnownExtensions extensions expr
      → (name : PlainName) → MentionsExtensionType ty name → Contains (extension_types extensions) name
  known_written defined extensions each (as_set element) known name mentions =
      known_written defined extensions each element known name mentions
  known_written defined extensions each (as_record members) known name mentions =
      members_known_written defined extensions each members known name mentions
  known_written defined extensions each (as_common reference other body resolves is_common written) known name mentions =
      known_written defined extensions each written (each other body is_common.1) name mentions
  known_written defined extensions each (as_extension word) known name mentions = rw mentions at (known word refl)
  known_written defined extensions each _ known name mentions = absurd mentions

  -- the same of the attributes of a record
  members_known_written : (defined : Defined) (extensions : Extensions)
      → ((name : PlainName) (body : Expr) → Contains defined.common (name, body) → HasKnownExtensions extensions body)
      → {members : Members} {fields : Fields} → MembersElaborateTo defined members fields
      → AreKnown extensions members → (name : PlainName) → FieldsMentionExtensionType fields name
      → Contains (extension_types extensions) name
  members_known_written defined extensions each as_no_member known name mentions = absurd mentions
  members_known_written defined extensions each (as_member first rest) known name mentions =
      elim mentions [
        | inl here ↦ known_written defined extensions each first (λ word stands. known word (inl stands)) name here
        | inr later ↦ members_known_written defined extensions each rest (λ word stands. known word (inr stands)) name later
      ]

-- whether a name is that of an extension type
is_type_name : PlainName → Name → Bool
is_type_name name ty = is_eq (name_cmp (plain_name ty) name)

-- the test of the name of an extension type decides
is_type_name-Decides : (name : PlainName) (ty : Name) → Decides (is_type_name name ty) (plain_name ty ≡ name)
unfolding is_type_name
is_type_name-Decides name ty = name_test (plain_name ty) name

-- an extension type is known or it isn't
known_or_not : (extensions : Extensions) (name : PlainName) → Contains (extension_types extensions) name
    ⊎ ¬ Contains (extension_types extensions) name
known_or_not extensions name =
    by (list_any (is_type_name name) extensions.types.items)
    (list_any-Contains plain_name name (is_type_name name) (is_type_name-Decides name) extensions.types.items) where
      by : (answer : Bool) → Decides answer (Contains (extension_types extensions) name)
          → Contains (extension_types extensions) name ⊎ ¬ Contains (extension_types extensions) name
      by true decides = inl (decides.0 refl)
      by false decides = inr (λ among. false≢true (decides.1 among))

-- where the bag isn't ill-formed, what counts mentions known extension types alone
pub known_counted : (bag : Bag) (extensions : Extensions) → ¬ IsIllFormed bag extensions → (expr : Expr)
    → IsCounted bag expr → HasKnownExtensions extensions expr
known_counted bag extensions well expr counted word mentions =
    elim (known_or_not extensions (alias_name word)) [
      | inl known ↦ known
      | inr unknown ↦ absurd (well (unknown_extension_type (alias_name word), (expr, counted, mentions, refl, unknown)))
    ]

-- what a built-in base name stands for mentions known extension types alone
pub known_built_in : (extensions : Extensions) → TypeNamesFit (extension_types extensions) → (word : Text) (body : Expr)
    → Contains (built_in_types extensions) (word, body) → HasKnownExtensions extensions body
known_built_in extensions fit word body (zero, below, is) other mentions =
    absurd (subst (λ each. MentionsExtension each.1 other) (sym is) mentions)
known_built_in extensions fit word body (suc zero, below, is) other mentions =
    absurd (subst (λ each. MentionsExtension each.1 other) (sym is) mentions)
known_built_in extensions fit word body (suc (suc zero), below, is) other mentions =
    absurd (subst (λ each. MentionsExtension each.1 other) (sym is) mentions)
known_built_in extensions fit word body (suc (suc (suc k)), below, is) other mentions =
    let found = Contains-preimage (λ name. (name.base, extension_expr name.base)) (extension_types extensions)
    (word, body) (k, omega (arith, below), is) in
    let same : found.0.base ≡ other = subst (λ each. MentionsExtension each.1 other) (sym found.2) mentions in
    let plain : IsUnqualified found.0 = All-contains IsUnqualified (extension_types extensions) found.0 fit.unqualified found.1 in
    subst (Contains (extension_types extensions)) (λ i. record { base = same i; path = plain i }) found.1

-- where the bag isn't ill-formed, each definition mentions known extension types alone
pub known_common : (bag : Bag) (extensions : Extensions) → TypeNamesFit (extension_types extensions)
    → ¬ IsIllFormed bag extensions → (name : PlainName) (body : Expr)
    → Contains (definitions bag extensions).common (name, body) → HasKnownExtensions extensions body
known_common bag extensions fit well name body among =
    elim (common_cases bag extensions (name, body) among) [
      | inl here ↦
          elim (Contains-append_cases (declared_common bag) (built_ins extensions) (name, body) here) [
            | inl declared ↦
                let found = common_declaration bag name body declared in
                known_counted bag extensions well body (found.0, found.1, rw found.2 refl)
            | inr built_in ↦
                let found = Contains-preimage (λ it. (built_in_name it.0, it.1)) (built_in_types extensions) (name, body) built_in in
                rw (ap (λ each. each.1) found.2) at (known_built_in extensions fit found.0.0 found.0.1 found.1)
          ]
      | inr alias ↦ known_built_in extensions fit name.base body (alias_of bag extensions name body alias).0
    ]
