use Rattle.std.proofs.Common.{◌≡◌, ◌<◌, ◌+◌, ℕ, Contains, get_or, sym, ◌∙◌, ap, subst, inl, inr, arith}
use Rattle.std.proofs.lemmas.Bool.{cases_eq}
use Rattle.std.proofs.lemmas.List.Elements.{Contains-get_or}
use Rattle.cedar_graph.proofs.Gathering.{gathers_none, gathers_onwards, gathers_same, read_at}
use Rattle.cedar_graph.proofs.closing.gather_all.Goals as goal

pub loop-number-init : goal.loop-number-init
loop-number-init c = gathers_none c.args.mark _ (λ n it. omega (arith, it.1)) c.args.marks.now.items c.args.found.now.items c.requires.gathered

pub loop-number-preserved : goal.loop-number-preserved
loop-number-preserved c =
    let place = c.loop-number.number-index in
    let numbers = c.args.numbers.now in
    gathers_onwards c.args.mark
    (λ n. (k : ℕ) × (k < place) × (get_or numbers k 0 ≡ n)) (λ n. n ≡ get_or numbers place 0)
    (λ n. (k : ℕ) × (k < place + 1) × (get_or numbers k 0 ≡ n))
    (λ n. (
      λ it. elim (cases_eq it.0 place) [
        | inl same ↦ inr (sym it.2 ∙ ap (λ k. get_or numbers k 0) same)
        | inr apart ↦ inl (it.0, omega (arith, it.1, apart), it.2)
      ],
      λ either. elim either [
        | inl it ↦ (it.0, omega (arith, it.1), it.2)
        | inr same ↦ (place, omega arith, sym same)
      ],
    ))
    c.args.marks.now.items c.args.found.now.items c.loop-number.marks.items c.loop-number.found.items
    c.gather.new.marks.items c.gather.new.found.items c.loop-number.invariant c.in_ok-gather.ensures

pub returns : goal.returns
returns c =
    let place = c.loop-number.number-index in
    let numbers = c.args.numbers.now in
    gathers_same c.args.mark (λ n. (k : ℕ) × (k < place) × (get_or numbers k 0 ≡ n)) (Contains numbers)
    (λ n. (
      λ among. (among.0, omega (arith, among.1, c.loop-number-test.false), read_at numbers among.0 n among.1 among.2),
      λ it. subst (Contains numbers) it.2 (Contains-get_or numbers it.0 0 (omega (arith, it.1, c.loop-number.auto.number-index-end))),
    ))
    c.args.marks.now.items c.args.found.now.items c.loop-number.marks.items c.loop-number.found.items c.loop-number.invariant
