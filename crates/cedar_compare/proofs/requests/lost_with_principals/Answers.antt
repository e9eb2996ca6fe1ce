use Rattle.std.proofs.Common.{◌≡◌, ◌+◌, ◌++◌, [], ◌∷◌, All, Bor, List, ap, drop, map, subst, sym, take, ◌∙◌}
use Rattle.std.proofs.lemmas.List.{map-append, take-append-drop, take_all, take_more}
use Rattle.std.specs.List.{flat_map}
use Rattle.std.specs.List.Sorted.{IsStrictlySortedBy}
use Rattle.cedar_ast.proofs.TreeLemmas.{drop-at}
use Rattle.cedar_compare.proofs.ReportedLemmas.{answered_none}
use Rattle.cedar_compare.proofs.RequestSteps.{principals_more}
use Rattle.cedar_compare.proofs.requests.lost_with_principals.Goals as goal
use Rattle.cedar_compare.specs.Words.{AreAnswers, EntityType, IsEnvironmentOf, PlainDifference, PlainName, environment_with, name_cmp, new_of, old_of, plain_difference, subjects_with, type_name, uid_of}

-- the names of some entity types
abbrev names : List (Bor EntityType) → List PlainName
names types = map (λ ty. type_name ty.now) types

pub loop-principal-init : goal.loop-principal-init
loop-principal-init c =
    let versions = c.args.versions.now in
    let P : List PlainDifference → Type 0 = AreAnswers versions.extensions.now (old_of versions) (new_of versions) [] in
    subst P (sym (ap (map plain_difference) c.new-lost.ensures.items)) (answered_none versions.extensions.now (old_of versions) (new_of versions))

pub lost_with_principal-requires-clause-asked : goal.lost_with_principal-requires-clause-asked
lost_with_principal-requires-clause-asked c =
    let P : Bor EntityType → Type 0 = λ principal. All (λ resource. IsEnvironmentOf (old_of c.args.versions.now)
    (environment_with c.args.requests.now (type_name principal.now) (type_name resource.now))) c.args.resources.now in
    subst P (sym c.principal-item.is) (c.requires.asked c.loop-principal.principal-index c.principal-item.result c.loop-principal-test.true)

pub loop-principal-preserved : goal.loop-principal-preserved
loop-principal-preserved c =
    let versions = c.args.versions.now in
    let extensions = versions.extensions.now in
    let old = old_of versions in
    let new = new_of versions in
    let uid = uid_of c.args.requests.now.uid.now in
    let resources = names c.args.resources.now in
    let principals = c.args.principals.now in
    let i = c.loop-principal.principal-index in
    let item = c.principal-item.result in
    let front = names (take i principals) in
    let rest = names (drop (i + 1) principals) in
    let reported = map plain_difference c.loop-principal.lost.items in
    let more = map plain_difference c.in_ok-more.more.items in
    let parts : front ++ type_name item.now ∷ rest ≡ names principals =
    sym (map-append (λ (ty : Bor EntityType). type_name ty.now) (take i principals) (item ∷ drop (i + 1) principals))
    ∙ ap names (ap (λ (types : List (Bor EntityType)). take i principals ++ types)
    (sym (drop-at principals i item c.loop-principal-test.true c.principal-item.is))
    ∙ take-append-drop i principals) in
    let front_more : names (take (i + 1) principals) ≡ front ++ type_name item.now ∷ [] =
    ap names (take_more principals i item c.loop-principal-test.true
    ∙ ap (λ (ty : Bor EntityType). take i principals ++ ty ∷ []) (sym c.principal-item.is))
    ∙ map-append (λ (ty : Bor EntityType). type_name ty.now) (take i principals) (item ∷ []) in
    let reported_more : map plain_difference c.append.new.self.items ≡ reported ++ more =
    ap (map plain_difference) c.in_ok-append.ensures.items
    ∙ map-append plain_difference c.loop-principal.lost.items c.in_ok-more.more.items in
    let P : List PlainName → Type 0 = IsStrictlySortedBy name_cmp in
    let Q : List PlainName → Type 0 = λ ps. AreAnswers extensions old new (flat_map (λ p. subjects_with uid p resources) ps) (reported ++ more) in
    let R : List PlainDifference → Type 0 =
    AreAnswers extensions old new (flat_map (λ p. subjects_with uid p resources) (names (take (i + 1) principals))) in
    subst R (sym reported_more) (subst Q (sym front_more)
    (principals_more extensions old new uid resources front (type_name item.now) rest reported more (subst P (sym parts) c.requires.ordered)
    c.loop-principal.invariant c.in_ok-more.ensures))

pub returns : goal.returns
returns c =
    let versions = c.args.versions.now in
    let uid = uid_of c.args.requests.now.uid.now in
    let resources = names c.args.resources.now in
    let P : List (Bor EntityType) → Type 0 = λ principals. AreAnswers versions.extensions.now (old_of versions) (new_of versions)
    (flat_map (λ p. subjects_with uid p resources) (names principals)) (map plain_difference c.loop-principal.lost.items) in
    subst P (take_all c.loop-principal.principal-index c.args.principals.now c.loop-principal-test.false) c.loop-principal.invariant
