use Rattle.std.proofs.Common.{◌≡◌, cond, Some, length, ◌∙◌, ap, arith}
use Rattle.std.specs.HashMap.{get}
use Rattle.cedar_graph.proofs.Numbers.{eq_trans, numbers_added, number_kept, number_added}
use Rattle.cedar_graph.proofs.numbering.add_number.Goals as goal

pub returns-clause-numbers : goal.returns-clause-numbers
returns-clause-numbers g c =
    let names = c.args.numbering.now.names.items in
    let next : c.len-number.result ≡ length names =
    omega (arith, c.len-number.ensures, c.args.numbering.now.names.ok.0) in
    rw c.in_ok-push.ensures.items (numbers_added g.met.K.Eq.laws names c.args.numbering.now.numbers c.insert.new.self
    c.args.key.now c.in_ok-copy.copy c.in_ok-name.name
    c.requires.numbers c.requires.absent
    (eq_trans g.met.K.Eq.laws c.args.key.now c.in_ok-name.name c.in_ok-copy.copy c.in_ok-name.ensures c.in_ok-copy.ensures)
    c.in_ok-name.ensures
    (λ q. c.in_ok-insert.ensures.updates.0 q
    ∙ ap (λ n. cond (g.K.PartialEq.eq c.in_ok-copy.copy q) (Some n)
    (get g.K.PartialEq.eq c.args.numbering.now.numbers q)) next))

pub returns-clause-kept : goal.returns-clause-kept
returns-clause-kept g c = λ key number stands.
    rw c.in_ok-push.ensures.items (number_kept g.K.PartialEq.eq c.args.numbering.now.names.items c.in_ok-name.name key
    number stands)

pub returns-clause-numbered : goal.returns-clause-numbered
returns-clause-numbered g c =
    let names = c.args.numbering.now.names.items in
    let next : c.len-number.result ≡ length names =
    omega (arith, c.len-number.ensures, c.args.numbering.now.names.ok.0) in
    rw (next, c.in_ok-push.ensures.items) (number_added g.K.PartialEq.eq names c.in_ok-name.name c.args.key.now
    c.in_ok-name.ensures)
