use Rattle.std.proofs.Common.{◌≡◌, Bor, Err, Global, IfOk, List, None, Ok, Option, Result, Some, Vec, ap, get_or, map, refl, subst, sym, ◌∙◌}
use Rattle.std.proofs.lemmas.List.Elements.{Contains-get_or}
use Rattle.std.specs.List.{flat_map}
use Rattle.std.specs.List.Sorted.{IsStrictlySortedBy}
use Rattle.std.specs.Option.{option_copied, option_map}
use Rattle.cedar_ast.proofs.Basics.{Contains-image}
use Rattle.cedar_compare.proofs.RequestSteps.{action_answers, asked_of, no_answers}
use Rattle.cedar_compare.proofs.requests.lost_of_action.Goals as goal
use Rattle.cedar_compare.specs.Words.{AreActionAnswers, AreAnswers, Difference, EntityType, IsEnvironmentOf, PlainDifference, PlainName, PlainUid, Ty, action_of, context_at, kind_principals, kind_resources, name_cmp, new_of, old_of, plain_difference, subjects_with, ty_of, type_name, uid_of}
use Rattle.cedar_schema_elements.proofs.SetLemmas.{SameItems-equal}

-- the names of some entity types
abbrev names : List (Bor EntityType) → List PlainName
names types = map (λ ty. type_name ty.now) types

-- where nothing is found, nothing is shown
nothing_shown : {A B : Type 0} (shows : A → B) (found : Option (Bor A)) → ((it : Bor A) → found ≡ Some it → ⊥)
    → option_map shows (option_copied found) ≡ None
nothing_shown shows None none = refl
nothing_shown shows (Some it) none = absurd (none it refl)

-- what follows from a fact of each result holds where the fact does
result_on : {A E : Type 0} (P Q : A → Type 0) (result : Result A E) → ((it : A) → P it → Q it) → IfOk result P → IfOk result Q
result_on P Q (Ok it) on fact = on it fact
result_on P Q (Err fault) on fact = tt

-- names that are listed are those of the entity types that are lent
lent_names : (listed lent : List (Bor EntityType)) (given all : List PlainName) → names listed ≡ given → given ≡ all
    → lent ≡ listed → names lent ≡ all
lent_names listed lent given all same is shown = ap names shown ∙ (same ∙ is)

pub returns-in_default : goal.returns-in_default
returns-in_default c =
    let versions = c.args.versions.now in
    let extensions = versions.extensions.now in
    let old = old_of versions in
    let new = new_of versions in
    let uid = uid_of c.args.uid.now in
    let P : List PlainDifference → Type 0 = AreActionAnswers extensions old new uid in
    subst P (sym (ap (map plain_difference) c.new.ensures.items))
    (no_answers extensions old new c.requires.old_keyed uid (option_map action_of (option_copied c.find_action.result)) c.find_action.ensures
    (ap context_at (nothing_shown action_of c.find_action.result c.in_default.not-Some)))

pub returns-in_default-context : goal.returns-in_default-context
returns-in_default-context c =
    let versions = c.args.versions.now in
    let extensions = versions.extensions.now in
    let old = old_of versions in
    let new = new_of versions in
    let uid = uid_of c.args.uid.now in
    let P : List PlainDifference → Type 0 = AreActionAnswers extensions old new uid in
    subst P (sym (ap (map plain_difference) c.new-in_default-context.ensures.items))
    (no_answers extensions old new c.requires.old_keyed uid (Some (action_of c.in-Some.old.now)) c.in-Some.ensures
    (sym c.context.ensures.ty ∙ nothing_shown ty_of c.context.result c.in_default-context.not-Some))

-- the names of principals come in order
pub lost_with_principals-requires-clause-ordered : goal.lost_with_principals-requires-clause-ordered
lost_with_principals-requires-clause-ordered c =
    subst (IsStrictlySortedBy name_cmp) (sym
    (lent_names c.in_ok-principals.principals.items c.deref.result.now (map type_name c.principals.result) _ c.in_ok-principals.ensures
    c.principals.ensures.names c.deref.ensures.value)) c.principals.ensures.in_order

-- so do those of resources
pub lost_with_principals-requires-clause-resources_ordered : goal.lost_with_principals-requires-clause-resources_ordered
lost_with_principals-requires-clause-resources_ordered c =
    subst (IsStrictlySortedBy name_cmp) (sym
    (lent_names c.in_ok-resources.resources.items c.deref-2.result.now (map type_name c.resources.result) _ c.in_ok-resources.ensures
    c.resources.ensures.names c.deref-2.ensures.value)) c.resources.ensures.in_order

pub lost_with_principals-requires-clause-asked : goal.lost_with_principals-requires-clause-asked
lost_with_principals-requires-clause-asked c =
    let versions = c.args.versions.now in
    let extensions = versions.extensions.now in
    let old = old_of versions in
    let new = new_of versions in
    let uid = uid_of c.args.uid.now in
    let ty = ty_of c.in-Some-context.context.now in
    let action = action_of c.in-Some.old.now in
    let requests = c.in_ok-requests.requests in
    let principals = c.deref.result.now in
    let resources = c.deref-2.result.now in
    let first = lent_names c.in_ok-principals.principals.items principals (map type_name c.principals.result) (kind_principals action.kind)
    c.in_ok-principals.ensures c.principals.ensures.names c.deref.ensures.value in
    let second = lent_names c.in_ok-resources.resources.items resources (map type_name c.resources.result) (kind_resources action.kind)
    c.in_ok-resources.ensures c.resources.ensures.names c.deref-2.ensures.value in
    let name : Bor EntityType → PlainName = λ it. type_name it.now in
    λ k d within k' d' within'.
    let p = get_or principals k d in
    let r = get_or resources k' d' in
    let P : PlainUid → Ty → Type 0 = λ u t. IsEnvironmentOf old
    (record { principal = name p; action = u; resource = name r; context = t }) in
    subst (λ u. P u (ty_of requests.context.now)) (ap uid_of (sym c.in_ok-requests.ensures.uid))
    (subst (λ t. P uid t) (ap ty_of (sym c.in_ok-requests.ensures.context))
    (asked_of extensions old new uid action c.in-Some.ensures ty (sym c.in-Some-context.ensures.ty) (name p) (name r)
    ((SameItems-equal _ _ first (name p)).0 (Contains-image name principals p (Contains-get_or principals k d within)))
    ((SameItems-equal _ _ second (name r)).0 (Contains-image name resources r (Contains-get_or resources k' d' within')))))

pub returns : goal.returns
returns c =
    let versions = c.args.versions.now in
    let extensions = versions.extensions.now in
    let old = old_of versions in
    let new = new_of versions in
    let uid = uid_of c.args.uid.now in
    let action = action_of c.in-Some.old.now in
    let requests = c.in_ok-requests.requests in
    let principals = c.deref.result.now in
    let resources = c.deref-2.result.now in
    let first = lent_names c.in_ok-principals.principals.items principals (map type_name c.principals.result) (kind_principals action.kind)
    c.in_ok-principals.ensures c.principals.ensures.names c.deref.ensures.value in
    let second = lent_names c.in_ok-resources.resources.items resources (map type_name c.resources.result) (kind_resources action.kind)
    c.in_ok-resources.ensures c.resources.ensures.names c.deref-2.ensures.value in
    let P : PlainUid → Vec Difference Global → Type 0 = λ u lost. AreAnswers extensions old new
    (flat_map (λ p. subjects_with u p (names resources)) (names principals)) (map plain_difference lost.items) in
    let Q : Vec Difference Global → Type 0 = λ lost. AreActionAnswers extensions old new uid (map plain_difference lost.items) in
    result_on (P (uid_of requests.uid.now)) Q c.lost_with_principals.result
    (λ lost answers. action_answers extensions old new uid action c.in-Some.ensures c.requires.old_keyed (names principals) (names resources)
    (map plain_difference lost.items) (SameItems-equal _ _ first) (SameItems-equal _ _ second) (subst (λ u. P u lost) (ap uid_of c.in_ok-requests.ensures.uid) answers))
    c.lost_with_principals.ensures
