use Rattle.std.proofs.Common.{◌≡◌, Result, refl}
use Rattle.std.proofs.lemmas.Fn.{says_at}
use Rattle.std.proofs.lemmas.Result.{IfOk-at_ok}
use Rattle.std.specs.Fn.{FnReturnsAt}
use Rattle.std.specs.declared.cmp.Ordering.TheVariants.{Equal}
use Rattle.cedar_ast.proofs.EntryLemmas.{copied_all, copied_more, copied_none}
use Rattle.cedar_ast.proofs.copying.copied_entries.Goals as goal
use Rattle.cedar_ast.specs.declared.memory.Memory.{Memory}

-- at first nothing is copied, and all entries are left
pub loop-key-init : goal.loop-key-init
loop-key-init g c =
    copied_none g.K.Ord.cmp g.met.K.Ord.total (FnReturnsAt g.F.Fn c.args.copy_key) (FnReturnsAt g.G.Fn c.args.copy_value)
    c.args.entries.now.entries c.in_ok-copies.copies.entries c.into_iter-key-iterator.result
    c.into_iter-key-iterator.ensures.into_iter_gives.0 c.in_ok-copies.ensures.0 c.into_iter-key-iterator.ensures.into_iter_gives.5

-- the copy of an entry whose key is new is put in
pub loop-key-preserved-in_ok-insert : goal.loop-key-preserved-in_ok-insert
loop-key-preserved-in_ok-insert g c =
    let key = c.in-Some.key.now in
    let value = c.in-Some.value.now in
    let Keys : Result g.row.K.Denot Memory → Type 0 = FnReturnsAt g.F.Fn c.args.copy_key key in
    let Values : Result g.row.V.Denot Memory → Type 0 = FnReturnsAt g.G.Fn c.args.copy_value value in
    let of_key : Keys c.copy_key.result = says_at g.F.Fn c.copy_key.ensures refl in
    let of_value : Values c.copy_value.result = says_at g.G.Fn c.copy_value.ensures refl in
    let ties = IfOk-at_ok (λ other. g.K.Ord.cmp key other ≡ Equal) c.in_ok-copy_key.was (c.requires.ties key c.copy_key.result of_key) in
    copied_more g.K.Ord.cmp g.met.K.Ord.total (FnReturnsAt g.F.Fn c.args.copy_key) (FnReturnsAt g.G.Fn c.args.copy_value)
    c.args.entries.now.entries c.loop-key.copies.entries c.insert.new.self.entries c.loop-key.key-iterator c.next.new.self
    key c.in_ok-copy_key.field-0 value c.in_ok-copy_value.field-0 c.in-Some.ensures.steps ties
    (rw c.in_ok-copy_key.was at of_key) (rw c.in_ok-copy_value.was at of_value) c.in_ok-insert.ensures.entries
    c.loop-key.invariant

-- so it is with one whose key was there
pub loop-key-preserved : goal.loop-key-preserved
loop-key-preserved g c =
    let key = c.in-Some.key.now in
    let value = c.in-Some.value.now in
    let Keys : Result g.row.K.Denot Memory → Type 0 = FnReturnsAt g.F.Fn c.args.copy_key key in
    let Values : Result g.row.V.Denot Memory → Type 0 = FnReturnsAt g.G.Fn c.args.copy_value value in
    let of_key : Keys c.copy_key.result = says_at g.F.Fn c.copy_key.ensures refl in
    let of_value : Values c.copy_value.result = says_at g.G.Fn c.copy_value.ensures refl in
    let ties = IfOk-at_ok (λ other. g.K.Ord.cmp key other ≡ Equal) c.in_ok-copy_key.was (c.requires.ties key c.copy_key.result of_key) in
    copied_more g.K.Ord.cmp g.met.K.Ord.total (FnReturnsAt g.F.Fn c.args.copy_key) (FnReturnsAt g.G.Fn c.args.copy_value)
    c.args.entries.now.entries c.loop-key.copies.entries c.insert.new.self.entries c.loop-key.key-iterator c.next.new.self
    key c.in_ok-copy_key.field-0 value c.in_ok-copy_value.field-0 c.in-Some.ensures.steps ties
    (rw c.in_ok-copy_key.was at of_key) (rw c.in_ok-copy_value.was at of_value) c.in_ok-insert.ensures.entries
    c.loop-key.invariant

-- where no entry is left, all are copied
pub returns : goal.returns
returns g c =
    copied_all g.K.Ord.cmp g.met.K.Ord.total (FnReturnsAt g.F.Fn c.args.copy_key) (FnReturnsAt g.G.Fn c.args.copy_value)
    c.args.entries.now.entries c.loop-key.copies.entries c.loop-key.key-iterator c.in-None.ensures.steps.0 c.loop-key.invariant
