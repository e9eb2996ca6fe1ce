use Rattle.std.proofs.Common.{◌≡◌, ◌+◌, ◌++◌, [], ◌∷◌, Bor, List, Option, Vec, Global, ap, drop, map, subst, sym, ◌∙◌}
use Rattle.std.proofs.lemmas.List.{drop_all, map-append}
use Rattle.std.specs.Option.{option_map}
use Rattle.cedar_ast.proofs.TreeLemmas.{drop-at}
use Rattle.cedar_compare.proofs.AllLemmas.{subjects_sorted}
use Rattle.cedar_compare.proofs.ReportedLemmas.{AnswersSoFar, reported_all, reported_kept, reported_none}
use Rattle.cedar_compare.proofs.RequestSteps.{kept_none, reported_found}
use Rattle.cedar_compare.proofs.requests.lost_with_principal.Goals as goal
use Rattle.cedar_compare.proofs.requests.lost_with_principal.Goals.{in-Some+in_ok-push, in_default}
use Rattle.cedar_compare.specs.Words.{Difference, EntityType, IsAnswer, IsEnvironmentOf, PlainDifference, PlainName, Subject, environment_subject, environment_with, new_of, old_of, plain_difference, subjects_with, type_name, uid_of}

-- the names of some entity types
abbrev names : List (Bor EntityType) → List PlainName
names types = map (λ resource. type_name resource.now) types

pub loop-resource-init : goal.loop-resource-init
loop-resource-init c =
    let versions = c.args.versions.now in
    let uid = uid_of c.args.requests.now.uid.now in
    let principal = type_name c.args.principal.now in
    let all = subjects_with uid principal (names c.args.resources.now) in
    let P : List PlainDifference → Type 0 = AnswersSoFar versions.extensions.now (old_of versions) (new_of versions) all all in
    subst P (sym (ap (map plain_difference) c.new-lost.ensures.items))
    (reported_none versions.extensions.now (old_of versions) (new_of versions) all
    (subjects_sorted uid principal (names c.args.resources.now) c.requires.ordered))

pub lost_request-requires-clause-asked : goal.lost_request-requires-clause-asked
lost_request-requires-clause-asked c =
    let P : Bor EntityType → Type 0 = λ resource. IsEnvironmentOf (old_of c.args.versions.now)
    (environment_with c.args.requests.now (type_name c.args.principal.now) (type_name resource.now)) in
    subst P (sym c.resource-item.is) (c.requires.asked c.loop-resource.resource-index c.resource-item.result c.loop-resource-test.true)

pub loop-resource-preserved : goal.loop-resource-preserved
loop-resource-preserved c =
    let versions = c.args.versions.now in
    let extensions = versions.extensions.now in
    let old = old_of versions in
    let new = new_of versions in
    let uid = uid_of c.args.requests.now.uid.now in
    let principal = type_name c.args.principal.now in
    let resources = c.args.resources.now in
    let i = c.loop-resource.resource-index in
    let all = subjects_with uid principal (names resources) in
    let first = environment_subject principal uid (type_name c.resource-item.result.now) in
    let rest = subjects_with uid principal (names (drop (i + 1) resources)) in
    let reported = map plain_difference c.loop-resource.lost.items in
    let left : subjects_with uid principal (names (drop i resources)) ≡ first ∷ rest =
    ap (λ (types : List (Bor EntityType)). subjects_with uid principal (names types))
    (drop-at resources i c.resource-item.result c.loop-resource-test.true c.resource-item.is) in
    let P : List Subject → Type 0 = λ subjects. AnswersSoFar extensions old new all subjects reported in
    let so_far = subst P left c.loop-resource.invariant in
    let Q : Option Difference → Type 0 = λ found. IsAnswer extensions old new first (option_map plain_difference found) in
    let R : List PlainDifference → Type 0 = AnswersSoFar extensions old new all rest in
    elim c.match-branch-2.branch [
      | in-Some+in_ok-push w ↦
          let it = w.in-Some.difference in
          let is : map plain_difference c.match-branch-2.lost.items ≡ reported ++ plain_difference it ∷ [] =
          ap (λ (lost : Vec Difference Global). map plain_difference lost.items) w.lost-is
          ∙ (ap (map plain_difference) w.in_ok-push.ensures.items ∙ map-append plain_difference c.loop-resource.lost.items (it ∷ [])) in
          subst R (sym is) (reported_found extensions old new all rest reported first (plain_difference it)
          (subst Q w.in-Some.is c.in_ok-difference.ensures) so_far)
      | in_default w ↦
          subst R (sym (ap (λ (lost : Vec Difference Global). map plain_difference lost.items) w.lost-is))
          (reported_kept extensions old new all rest reported first (kept_none plain_difference extensions old new first
          c.in_ok-difference.field-0 w.in_default.not-Some c.in_ok-difference.ensures) so_far)
    ]

pub returns : goal.returns
returns c =
    let versions = c.args.versions.now in
    let uid = uid_of c.args.requests.now.uid.now in
    let principal = type_name c.args.principal.now in
    let resources = c.args.resources.now in
    reported_all versions.extensions.now (old_of versions) (new_of versions) (subjects_with uid principal (names resources))
    (subjects_with uid principal (names (drop c.loop-resource.resource-index resources))) (map plain_difference c.loop-resource.lost.items)
    (ap (λ (types : List (Bor EntityType)). subjects_with uid principal (names types))
    (drop_all c.loop-resource.resource-index resources c.loop-resource-test.false))
    c.loop-resource.invariant
