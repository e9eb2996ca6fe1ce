use Rattle.std.proofs.Common.{◌≡◌, ◌++◌, ◌+◌, [], ◌∷◌, Contains, ℕ, List, length, set, ap, sym, ◌∙◌, subst, arith}
use Rattle.std.proofs.lemmas.List.{length-append}
use Rattle.cedar_cycles.proofs.Costs.{entering_pays}
use Rattle.cedar_cycles.proofs.Steps.{entered, same_search}
use Rattle.cedar_cycles.proofs.search.enter.Goals as goal
use Rattle.cedar_cycles.specs.declared.search.Group.{Group}
use Rattle.cedar_cycles.specs.declared.search.Mark.TheVariants.{Open}
use Rattle.cedar_graph.proofs.Lists.{items_at-read}
use Rattle.cedar_graph.specs.Words.{items_at}

pub returns-clause-under_way : goal.returns-clause-under_way
returns-clause-under_way c =
    let targets = c.args.targets.now.items in
    let old = c.args.search.now in
    let listed : items_at targets c.args.number ≡ c.deref.result.now =
    items_at-read targets c.args.number c.index.result.now (omega (arith, c.requires.has_list)) ∙ (ap (λ row. row.items) (sym c.index.ensures) ∙ sym c.deref.ensures.value) in
    let S : ℕ → List ℕ → Type 0 = λ to list. Contains list to in
    let whole = entered targets c.args.number old.marks.items old.path.items old.pending.items old.groups.items c.requires.under_way
    c.deref.result.now c.requires.fresh (omega (arith, c.requires.has_list)) (λ i below. c.requires.next i (omega (arith, below, old.path.ok.0)))
    (λ to. (λ target. subst (S to) listed target, λ there. subst (S to) (sym listed) there)) in
    let long : length old.path.items ≡ c.len.result = omega (arith, c.len.ensures, old.path.ok.0) in
    let at : length old.path.items ≡ c.len-2.result = omega (arith, c.len-2.ensures, old.path.ok.0) in
    let waits : length old.pending.items ≡ c.len-3.result = omega (arith, c.len-3.ensures, old.pending.ok.0) in
    let group : record { path = length old.path.items; pending = length old.pending.items } ≡ record { path = c.len-2.result; pending = c.len-3.result } =
    λ i. record { path = at i; pending = waits i } in
    same_search targets (set old.marks.items c.args.number (Open (length old.path.items))) (set old.marks.items c.args.number (Open c.len.result))
    (old.path.items ++ c.args.number ∷ []) c.push-2.new.self.items (old.pending.items ++ c.deref.result.now) c.extend_from_slice.new.self.items
    (old.groups.items ++ record { path = length old.path.items; pending = length old.pending.items } ∷ []) c.push.new.self.items
    (ap (λ place. set old.marks.items c.args.number (Open place)) long) (sym c.in_ok-push-2.ensures.items) (sym c.in_ok-extend_from_slice.ensures.items)
    (ap (λ (each : Group). old.groups.items ++ each ∷ []) group ∙ sym c.in_ok-push.ensures.items) whole

pub returns-clause-less : goal.returns-clause-less
returns-clause-less c =
    let targets = c.args.targets.now.items in
    let old = c.args.search.now in
    let listed : items_at targets c.args.number ≡ c.deref.result.now =
    items_at-read targets c.args.number c.index.result.now (omega (arith, c.requires.has_list)) ∙ (ap (λ row. row.items) (sym c.index.ensures) ∙ sym c.deref.ensures.value) in
    let paid = entering_pays old.marks.items targets c.args.number c.len.result (omega (arith, c.requires.has_list)) (omega (arith, c.requires.has_list, c.requires.under_way.len)) c.requires.fresh in
    let counts : length (items_at targets c.args.number) ≡ length c.deref.result.now = ap length listed in
    let pending : length c.extend_from_slice.new.self.items ≡ length old.pending.items + length c.deref.result.now =
    ap length c.in_ok-extend_from_slice.ensures.items ∙ length-append old.pending.items c.deref.result.now in
    let groups = ap length c.in_ok-push.ensures.items in
    omega (arith, paid, counts, pending, groups)
