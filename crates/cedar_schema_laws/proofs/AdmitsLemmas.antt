-- A type has just the values that the expression admits which is elaborated as it.
use Rattle.std.proofs.Common.{◌≡◌, Bool, false, [], ◌∷◌, Option, Some, None, ap, refl, arith, inl, inr}
use Rattle.cedar_ast.proofs.Lists.{Contains-cons_cases}
use Rattle.cedar_schema_laws.specs.Words.{Admits, AdmitsEach, AdmitsMembers, Defined, EachTree, ElaboratesTo, Entries, EntryFits, Expr, Extensions, Fields, Gives, Has, HasFieldsBy, IsDefined, Members, MembersElaborateTo, Text, Tree, Trees, Ty, admits_common, admits_entity, admits_extension, admits_first, admits_long, admits_missing, admits_no_member, admits_none, admits_record, admits_set, admits_text, admits_there, admits_truth, as_common, as_entity, as_extension, as_long, as_member, as_no_member, as_record, as_set, as_text, as_truth, call_value, entry_at, field_names, map_value, member, member_names, names_of, no_tree, number_value, set_value, text_value, tree, truth_value, uid_value}
use Rattle.cedar_schema_semantics.proofs.ResolutionLemmas.{IsFirst-same, HasOneDefinition, same_definition}
use Rattle.cedar_type_rules.proofs.SampleValues.{fits_some}

-- what is elaborated keeps the names of a record's attributes
same_names : (defined : Defined) {members : Members} {fields : Fields} → MembersElaborateTo defined members fields
    → field_names fields ≡ member_names members
same_names defined as_no_member = refl
same_names defined (as_member {name = name} first rest) = ap (λ names. name ∷ names) (same_names defined rest)

-- an attribute may be missing that isn't required
entry_missing : (P : Tree → Type 0) (found : Option Tree) → found ≡ None → EntryFits P false found
entry_missing P found is = rw is refl

mutual
  -- a value that is admitted has the type that the expression is elaborated as
  pub has_admitted : (defined : Defined) (extensions : Extensions) → HasOneDefinition defined
      → {value : Tree} {expr : Expr} {ty : Ty} → Admits defined extensions value expr → ElaboratesTo defined expr ty
      → Has extensions value ty
  has_admitted defined extensions one (admits_text it) as_text = tt
  has_admitted defined extensions one (admits_long it) as_long = tt
  has_admitted defined extensions one (admits_truth it) as_truth = tt
  has_admitted defined extensions one (admits_set each) (as_set element) = each_has_admitted defined extensions one each element
  has_admitted defined extensions one (admits_record {values = values} listed admitted) (as_record {fields = fields} written) =
      (rw (same_names defined written) listed, members_have_admitted defined extensions one admitted written)
  has_admitted defined extensions one (admits_entity uid reference resolves is_entity no_common)
      (as_entity reference' name resolves' is_entity' no_common') =
      (0, omega arith, IsFirst-same (IsDefined (names_of defined) reference.kind) reference.possibilities name uid.ty resolves' resolves)
  has_admitted defined extensions one (admits_entity uid reference resolves is_entity no_common)
      (as_common reference' name body resolves' is_common written) =
      let same : name ≡ uid.ty = IsFirst-same (IsDefined (names_of defined) reference.kind) reference.possibilities name uid.ty resolves' resolves in
      absurd (no_common body (rw same at is_common))
  has_admitted defined extensions one (admits_common reference name body resolves is_common admitted)
      (as_entity reference' name' resolves' is_entity no_common) =
      let same : name ≡ name' = IsFirst-same (IsDefined (names_of defined) reference.kind) reference.possibilities name name' resolves resolves' in
      absurd (no_common body (rw same at is_common))
  has_admitted defined extensions one {ty = ty} (admits_common reference name body resolves is_common admitted)
      (as_common reference' name' body' resolves' is_common' written) =
      let same : body ≡ body' = same_definition defined one reference name name' body body' resolves resolves' is_common is_common' in
      has_admitted defined extensions one admitted (rw same written)
  has_admitted defined extensions one (admits_extension function args name gives) (as_extension name') = gives

  -- the same of each value
  each_has_admitted : (defined : Defined) (extensions : Extensions) → HasOneDefinition defined
      → {values : Trees} {expr : Expr} {ty : Ty} → AdmitsEach defined extensions values expr
      → ElaboratesTo defined expr ty → EachTree (λ value. Has extensions value ty) values
  each_has_admitted defined extensions one admits_none written = tt
  each_has_admitted defined extensions one (admits_first first rest) written =
      (has_admitted defined extensions one first written, each_has_admitted defined extensions one rest written)

  -- the same of the attributes of a record
  members_have_admitted : (defined : Defined) (extensions : Extensions) → HasOneDefinition defined
      → {values : Entries} {members : Members} {fields : Fields} → AdmitsMembers defined extensions values members
      → MembersElaborateTo defined members fields → HasFieldsBy (Gives extensions) values fields
  members_have_admitted defined extensions one admits_no_member as_no_member = tt
  members_have_admitted defined extensions one (admits_missing {values = values} {name = name} missing rest)
      (as_member {ty = ty} first others) = (
        entry_missing (λ value. Has extensions value ty) (entry_at name values) missing,
        members_have_admitted defined
            extensions one rest others,
      )
  members_have_admitted defined extensions one
      (admits_there {values = values} {name = name} {required = required} value there admitted rest)
      (as_member {ty = ty} first others) = (
        fits_some (λ each. Has extensions each ty) required (entry_at name values) value there
            (has_admitted defined extensions one admitted first),
        members_have_admitted defined extensions one rest others,
      )

-- an attribute is admitted in a record as it is found there
entry_admitted : (defined : Defined) (extensions : Extensions) (values : Entries) (name : Text) (required : Bool)
    (expr : Expr) (rest : Members) (ty : Ty) (found : Option Tree) → entry_at name values ≡ found
    → ((value : Tree) → Has extensions value ty → Admits defined extensions value expr)
    → EntryFits (λ value. Has extensions value ty) required found → AdmitsMembers defined extensions values rest
    → AdmitsMembers defined extensions values (member name required expr rest)
entry_admitted defined extensions values name required expr rest ty None is admits fits others =
    rw fits (admits_missing is others)
entry_admitted defined extensions values name required expr rest ty (Some value) is admits fits others =
    admits_there value is (admits value fits) others

-- where each value of a type is admitted, values of the type are
each_admitted : (defined : Defined) (extensions : Extensions) (expr : Expr) (ty : Ty)
    → ((value : Tree) → Has extensions value ty → Admits defined extensions value expr) → (values : Trees)
    → EachTree (λ value. Has extensions value ty) values → AdmitsEach defined extensions values expr
each_admitted defined extensions expr ty admits no_tree has = admits_none
each_admitted defined extensions expr ty admits (tree first rest) has =
    admits_first (admits first has.0) (each_admitted defined extensions expr ty admits rest has.1)

mutual
  -- a value of the type that an expression is elaborated as is admitted
  pub admitted_of : (defined : Defined) (extensions : Extensions) {expr : Expr} {ty : Ty} → ElaboratesTo defined expr ty
      → (value : Tree) → Has extensions value ty → Admits defined extensions value expr
  admitted_of defined extensions as_text (text_value it) has = admits_text it
  admitted_of defined extensions as_long (number_value it) has = admits_long it
  admitted_of defined extensions as_truth (truth_value it) has = admits_truth it
  admitted_of defined extensions (as_set element) (set_value values) has =
      admits_set (each_admitted defined extensions _ _ (λ value holds. admitted_of defined extensions element value holds) values has)
  admitted_of defined extensions (as_record written) (map_value values) has =
      admits_record (rw (same_names defined written) at has.0) (members_admitted_of defined extensions written values has.1)
  admitted_of defined extensions (as_entity reference name resolves is_entity no_common) (uid_value uid) has =
      let same : name ≡ uid.ty = elim (Contains-cons_cases name [] uid.ty has) [
        | inl is ↦ is
        | inr none ↦ absurd (omega (arith, none.1))
      ] in
      admits_entity uid reference (rw same at resolves) (rw same at is_entity) (rw same at no_common)
  admitted_of defined extensions (as_common reference name body resolves is_common written) value has =
      admits_common reference name body resolves is_common (admitted_of defined extensions written value has)
  admitted_of defined extensions (as_extension name) (call_value function args) has = admits_extension function args name has
  admitted_of defined extensions _ _ has = absurd has

  -- the same of the attributes of a record
  members_admitted_of : (defined : Defined) (extensions : Extensions) {members : Members} {fields : Fields}
      → MembersElaborateTo defined members fields → (values : Entries) → HasFieldsBy (Gives extensions) values fields
      → AdmitsMembers defined extensions values members
  members_admitted_of defined extensions as_no_member values has = admits_no_member
  members_admitted_of defined extensions
      (as_member {name = name} {required = required} {expr = expr} {ty = ty} {rest = rest} first others) values has =
      entry_admitted defined extensions values name required expr rest ty (entry_at name values) refl
      (λ value holds. admitted_of defined extensions first value holds) has.0
      (members_admitted_of defined extensions others values has.1)
