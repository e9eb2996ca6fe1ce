use Rattle.std.proofs.Common.{◌≡◌, [], ◌∷◌, ◌++◌, ap, append_assoc, length, map, nat_eq, rules, sym, ◌∙◌}
use Rattle.std.proofs.lemmas.Iterator.{items_from_drains}
use Rattle.std.proofs.lemmas.Iterator.Adapters.{YieldsList-from_vec}
use Rattle.std.proofs.lemmas.List.{append-nil, map-append, map-id}
use Rattle.std.proofs.lemmas.List.Folds.{list_any-append}
use Rattle.std.proofs.lemmas.Map.Iter.{iter_end}
use Rattle.std.specs.Cmp.{unsigned_tied}
use Rattle.std.specs.List.{list_any}
use Rattle.std.specs.Map.Iter.{deref}
use Rattle.std.specs.Ordering.{eq_by_cmp, nat_cmp}
use Rattle.library_tests.proofs.closure.member.MemberTCNodeU32.add_edges_to.Goals as goal

pub loop-owner-init : goal.loop-owner-init
loop-owner-init c = sym (append-nil c.args.keys.items)

pub loop-owner-preserved : goal.loop-owner-preserved
loop-owner-preserved c =
    let yielded = map deref c.loop-owner.yielded in
    let owner = c.in-Some.owner.now in
    c.in_ok-push.ensures.items ∙ ap (λ items. items ++ owner ∷ []) c.loop-owner.invariant
    ∙ append_assoc c.args.keys.items yielded (owner ∷ [])
    ∙ ap (λ items. c.args.keys.items ++ items) (sym (map-append deref c.loop-owner.yielded (c.in-Some.owner ∷ [])))

-- the set is made of all keys
pub returns-clause-added : goal.returns-clause-added
returns-clause-added c other =
    let items = c.loop-owner.all.items in
    let ran = c.in_ok-self.ensures.ran in
    let set = c.in_ok-self.field-0 in
    let same : ran.1 ≡ items = sym (map-id ran.1)
    ∙ items_from_drains ran.1 ran.3 (YieldsList-from_vec items ran.2.0 (ran.0.rest.ok.0 ∙ ap length ran.2.0)) in
    let all : map deref c.loop-owner.yielded ≡ c.args.self.now.owners.keys = search (rules, iter_end) in
    sym (λ i. list_any (λ key. unsigned_tied other key i) set.keys) ∙ ran.4.0 other
    ∙ ap (list_any (eq_by_cmp nat_cmp other)) same ∙ (λ i. list_any (λ key. unsigned_tied other key i) items)
    ∙ ap (list_any (nat_eq other)) (c.loop-owner.invariant ∙ ap (λ shown. c.args.keys.items ++ shown) all)
    ∙ list_any-append (nat_eq other) c.args.keys.items c.args.self.now.owners.keys
