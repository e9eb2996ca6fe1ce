use Rattle.std.proofs.Common.{◌++◌, ◌∷◌, [], List, is_some, map, take, ap, sym, refl, ◌∙◌, append_assoc, Contains}
use Rattle.std.proofs.lemmas.Bool.{false≢true}
use Rattle.std.proofs.lemmas.List.{flat_map_more, take_all, take_more}
use Rattle.std.proofs.lemmas.List.Elements.{All-more}
use Rattle.std.specs.List.{flat_map}
use Rattle.cedar_queries.proofs.BorrowedLemmas.{borrowed}
use Rattle.cedar_queries.proofs.LookupLemmas.{action_descendants_found, action_known}
use Rattle.cedar_queries.proofs.descent.actions_in_set.Goals as goal
use Rattle.cedar_queries.specs.Words.{EntityUID, PlainUid, action_descendants, action_of, plain_action_entry, uid_of}

-- an action that is not declared is one of the set
pub returns-in-None-clause-known : goal.returns-in-None-clause-known
returns-in-None-clause-known c =
    let uid = c.uid-item.result in (
      λ wrong. absurd (false≢true wrong),
      λ all. absurd (false≢true (ap is_some c.in-None.ensures.value ∙ (action_known c.args.actions.now uid).1
          (rw c.uid-item.is (all c.loop-uid.uid-index uid c.loop-uid-test.true)))),
    )

-- one more action is declared, and its descendants are added before it
pub loop-uid-preserved : goal.loop-uid-preserved
loop-uid-preserved c =
    let actions = c.args.actions.now in
    let uids = c.args.uids.now in
    let i = c.loop-uid.uid-index in
    let uid = c.uid-item.result in
    let action = c.in-Some.action.now in
    let IsDeclared : EntityUID → Type 0 = λ it. Contains (map (λ each. each.0) (map plain_action_entry actions.entries)) (uid_of it) in
    let below : EntityUID → List PlainUid = λ it. action_descendants (uid_of it) (map plain_action_entry actions.entries) in
    let each : EntityUID → List PlainUid = λ it. below it ++ uid_of it ∷ [] in
    let found = sym c.in-Some.ensures.value in
    let here = (action_known actions uid).0 (ap is_some found) in
    let old = map (borrowed uid_of) c.loop-uid.all.items in
    record {
      known = All-more IsDeclared uids i uid c.loop-uid-test.true c.loop-uid.invariant.known (rw c.uid-item.is at here);
      added =
          c.in_ok-add_actions_in-in-Some.ensures
          ∙ (append_assoc old (action_of action).descendants (uid_of uid ∷ [])
          ∙ (ap (λ names. old ++ (names ++ uid_of uid ∷ [])) (sym (action_descendants_found actions uid action found))
          ∙ (ap (λ names. names ++ each uid) c.loop-uid.invariant.added
          ∙ (flat_map_more each [] (take i uids) uid
          ∙ ap (flat_map each) (sym (take_more uids i uid c.loop-uid-test.true ∙ ap (λ one. take i uids ++ one ∷ []) (sym c.uid-item.is)))))));
    }

-- at the end all are declared
pub returns-clause-known : goal.returns-clause-known
returns-clause-known c = (
  λ _. rw (take_all c.loop-uid.uid-index c.args.uids.now c.loop-uid-test.false) at c.loop-uid.invariant.known,
  λ _. refl,
)
