use Rattle.std.proofs.Common.{◌≡◌, ◌++◌, ◌∷◌, [], None, map, refl, ap, ◌∙◌}
use Rattle.std.proofs.lemmas.List.{map-append}
use Rattle.std.proofs.lemmas.Map.Iter.{iter_end}
use Rattle.std.specs.Map.Iter.{deref}
use Rattle.cedar_ast.specs.EntityUID.{uid_of}
use Rattle.cedar_queries.proofs.BorrowedLemmas.{borrowed, borrowed_more}
use Rattle.cedar_queries.proofs.descent.add_actions_in.Goals as goal

pub returns : goal.returns
returns c =
    let given = c.descendants-descendant-items in
    let begins = c.into_iter-descendant-iterator in
    let all : map deref c.loop-descendant.yielded ≡ given.result =
    (iter_end deref given.result c.loop-descendant.yielded begins.result c.loop-descendant.descendant-iterator c.next.new.self None
    begins.ensures.into_iter_gives c.loop-descendant.yielded_by refl c.in-None.ensures.steps).0 in
    let old = map (borrowed uid_of) c.args.uids.now.items in
    let before =
    borrowed_more uid_of c.args.uids.now.items c.loop-descendant.yielded c.loop-descendant.uids.items _ c.loop-descendant.invariant all
    ∙ ap (λ added. old ++ added) given.ensures.uids in
    ap (map (borrowed uid_of)) c.in_ok-push-2.ensures.items
    ∙ (map-append (borrowed uid_of) c.loop-descendant.uids.items (c.args.uid ∷ []) ∙ ap (λ items. items ++ uid_of c.args.uid.now ∷ []) before)
