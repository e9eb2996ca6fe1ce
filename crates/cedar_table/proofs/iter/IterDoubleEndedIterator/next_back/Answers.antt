use Rattle.std.proofs.Common.{◌≡◌, ◌∙◌, ◌++◌, ◌∷◌, [], ap, arith, length, sym}
use Rattle.std.proofs.lemmas.List.{length-append}
use Rattle.std.specs.List.{zip}
use Rattle.std.specs.Slice.Iter.{iter_rest}
use Rattle.cedar_table.proofs.ColumnLemmas.{taken_behind}
use Rattle.cedar_table.proofs.iter.IterDoubleEndedIterator.next_back.Goals as goal
use Rattle.cedar_table.proofs.iter.IterDoubleEndedIterator.next_back.Goals.{In_ok-value}

-- the last key and the last value are the last entry
taken : (g : _) (c : In_ok-value g) → c.args.self.now
    ≡ zip (iter_rest c.next_back.new.self) (iter_rest c.next_back-2.new.self) ++ (c.in_ok-key.key.now, c.in_ok-value.value.now) ∷ []
taken g c =
    sym c.self.view_is ∙ taken_behind (iter_rest c.self.inside.keys) (iter_rest c.self.inside.values) c.self.invariant
    (iter_rest c.next_back.new.self) (iter_rest c.next_back-2.new.self) c.in_ok-key.key.now c.in_ok-value.value.now
    c.in_ok-key.ensures.steps c.in_ok-value.ensures.steps

pub returns-clause-steps : goal.returns-clause-steps
returns-clause-steps g c = taken g c

pub returns-clause-goes : goal.returns-clause-goes
returns-clause-goes g c =
    let left = zip (iter_rest c.next_back.new.self) (iter_rest c.next_back-2.new.self) in
    let more = ap length (taken g c) ∙ length-append left ((c.in_ok-key.key.now, c.in_ok-value.value.now) ∷ []) in
    record { on = λ _. (tt, tt, omega (arith, more)); keeps = tt; rests = λ _. tt }
