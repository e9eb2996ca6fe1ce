use Rattle.std.proofs.Common.{◌≢◌, get_or, set, refl, sym, ◌∙◌, ap, inl, inr, arith}
use Rattle.std.proofs.lemmas.Bool.{cases_eq}
use Rattle.std.proofs.lemmas.List.{get_or-set_same, get_or-set_other, length-set}
use Rattle.std.proofs.lemmas.List.Elements.{Contains-get_or}
use Rattle.cedar_graph.proofs.Gathering.{fresh_or_not, marked_within, read_at}
use Rattle.cedar_graph.proofs.closing.forget.Goals as goal
use Rattle.cedar_graph.specs.Words.{Fresh, mark_of}

-- at first each mark may be left, at its place in the list
pub loop-number-init : goal.loop-number-init
loop-number-init c = record {
  len = refl;
  left = λ number marked.
      let among = (c.requires.marked number).1 marked in
      (among.0, omega arith, among.1, read_at c.args.numbers.now among.0 number among.1 among.2);
}

-- a number of the list is that of a mark
pub index_mut-requires : goal.index_mut-requires
index_mut-requires c =
    let number = get_or c.args.numbers.now c.loop-number.number-index 0 in
    let among = Contains-get_or c.args.numbers.now c.loop-number.number-index 0 c.loop-number-test.true in
    let within = marked_within c.args.marks.now.items number ((c.requires.marked number).0 among) in
    omega (arith, within, c.loop-number.invariant.len, c.loop-number.marks.ok.0)

-- one more mark is taken away, and no other
pub loop-number-preserved : goal.loop-number-preserved
loop-number-preserved c =
    let place = c.loop-number.number-index in
    let forgotten = get_or c.args.numbers.now place 0 in
    let marks = c.loop-number.marks.items in
    let among = Contains-get_or c.args.numbers.now place 0 c.loop-number-test.true in
    let within = marked_within c.args.marks.now.items forgotten ((c.requires.marked forgotten).0 among) in
    record {
      len = length-set marks forgotten Fresh ∙ c.loop-number.invariant.len;
      left = λ number marked. elim (cases_eq number forgotten) [
        | inl same ↦ absurd (marked (ap (mark_of (set marks forgotten Fresh)) same
            ∙ get_or-set_same marks forgotten Fresh Fresh (omega (arith, within, c.loop-number.invariant.len))))
        | inr apart ↦
            let left = c.loop-number.invariant.left number
            (λ fresh. marked (get_or-set_other marks forgotten number Fresh Fresh apart ∙ fresh)) in
            let later : left.0 ≢ place = λ same. apart (sym left.3 ∙ ap (λ k. get_or c.args.numbers.now k 0) same) in
            (left.0, omega (arith, left.1, later), left.2, left.3)
      ];
    }

-- where none is left, no mark is
pub returns-clause-fresh : goal.returns-clause-fresh
returns-clause-fresh c = λ number. elim (fresh_or_not (mark_of c.loop-number.marks.items number)) [
  | inl fresh ↦ fresh
  | inr marked ↦
      let left = c.loop-number.invariant.left number marked in
      absurd (omega (arith, left.1, left.2, c.loop-number-test.false))
]
