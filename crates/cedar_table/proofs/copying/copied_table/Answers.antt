use Rattle.std.proofs.Common.{◌≡◌, ◌∙◌, ◌∷◌, [], Ok, Result, ap, arith, length, refl, subst, sym}
use Rattle.std.proofs.lemmas.Fn.{says_at}
use Rattle.std.proofs.lemmas.List.{length-append}
use Rattle.std.proofs.lemmas.Map.Made.{keys_of-zip}
use Rattle.std.proofs.lemmas.Result.{IfOk-at_ok}
use Rattle.std.specs.Fn.{FnReturnsAt}
use Rattle.std.specs.List.{zip}
use Rattle.std.specs.List.Sorted.{IsStrictlySortedBy}
use Rattle.std.specs.declared.cmp.Ordering.TheVariants.{Equal}
use Rattle.cedar_ast.specs.declared.memory.Memory.{Memory}
use Rattle.cedar_table.proofs.ColumnLemmas.{zip_behind}
use Rattle.cedar_table.proofs.CopiedLemmas.{copied_more, copied_none, copies_given, copies_sorted}
use Rattle.cedar_table.proofs.copying.copied_table.Goals as goal
use Rattle.cedar_table.specs.Words.{HoldsPairwise}

-- at first nothing is copied
pub loop-key-init : goal.loop-key-init
loop-key-init g c = (
  ap length c.in_ok-values.ensures.items ∙ sym (ap length c.in_ok-keys.ensures.items),
  copied_none g.K.Ord.cmp (FnReturnsAt g.F.Fn c.args.copy_key) (FnReturnsAt g.G.Fn c.args.copy_value)
      c.args.table.now.entries _ c.into_iter-key-iterator.result
      c.into_iter-key-iterator.ensures.into_iter_gives.0
      (λ i. zip (c.in_ok-keys.ensures.items i) (c.in_ok-values.ensures.items i)),
)

-- one more entry is copied
pub loop-key-preserved : goal.loop-key-preserved
loop-key-preserved g c =
    let key = c.in-Some.key.now in
    let value = c.in-Some.value.now in
    let keys = c.loop-key.keys.items in
    let values = c.loop-key.values.items in
    let copy = c.in_ok-copy_key.field-0 in
    let other = c.in_ok-copy_value.field-0 in
    let Keys : Result g.row.K.Denot Memory → Type 0 = FnReturnsAt g.F.Fn c.args.copy_key key in
    let Values : Result g.row.V.Denot Memory → Type 0 = FnReturnsAt g.G.Fn c.args.copy_value value in
    let of_key : Keys c.copy_key.result = says_at g.F.Fn c.copy_key.ensures refl in
    let of_value : Values c.copy_value.result = says_at g.G.Fn c.copy_value.ensures refl in
    let ties = IfOk-at_ok (λ other. g.K.Ord.cmp key other ≡ Equal) c.in_ok-copy_key.was (c.requires.ties key c.copy_key.result of_key) in
    let pushed = ap length c.in_ok-push.ensures.items ∙ length-append keys (copy ∷ []) in
    let beside = ap length c.in_ok-push-2.ensures.items ∙ length-append values (other ∷ []) in (
      omega (arith, pushed, beside, c.loop-key.invariant.0),
      copied_more g.K.Ord.cmp (FnReturnsAt g.F.Fn c.args.copy_key) (FnReturnsAt g.G.Fn c.args.copy_value)
          c.args.table.now.entries (zip keys values) _ c.loop-key.key-iterator c.next.new.self
          key copy value other c.in-Some.ensures.steps ties
          (rw c.in_ok-copy_key.was at of_key) (rw c.in_ok-copy_value.was at of_value)
          ((λ i. zip (c.in_ok-push.ensures.items i) (c.in_ok-push-2.ensures.items i))
          ∙ zip_behind keys values copy other c.loop-key.invariant.0) c.loop-key.invariant.1,
    )

-- the copies are in the order of their keys
pub of-requires : goal.of-requires
of-requires g c =
    let keys = c.loop-key.keys.items in
    let values = c.loop-key.values.items in
    subst (λ each. IsStrictlySortedBy g.K.Ord.cmp each) (keys_of-zip keys values c.loop-key.invariant.0)
    (copies_sorted g.K.Ord.cmp g.met.K.Ord.total (FnReturnsAt g.F.Fn c.args.copy_key) (FnReturnsAt g.G.Fn c.args.copy_value)
    c.args.table.now.entries (zip keys values) c.loop-key.key-iterator c.in-None.ensures.steps.0 c.loop-key.invariant.1
    c.into_iter-key-iterator.ensures.into_iter_gives.1)

-- and calls give each of its entry
pub returns : goal.returns
returns g c =
    let keys = c.loop-key.keys.items in
    let values = c.loop-key.values.items in
    let Given = HoldsPairwise (λ entry other. FnReturnsAt g.F.Fn c.args.copy_key entry.0 (Ok other.0)
    × FnReturnsAt g.G.Fn c.args.copy_value entry.1 (Ok other.1)) c.args.table.now.entries in
    subst Given
    (sym (c.from_parts.ensures ∙ ap (λ each. zip each values) c.in_ok-of.ensures))
    (copies_given g.K.Ord.cmp (FnReturnsAt g.F.Fn c.args.copy_key) (FnReturnsAt g.G.Fn c.args.copy_value)
    c.args.table.now.entries (zip keys values) c.loop-key.key-iterator c.in-None.ensures.steps.0 c.loop-key.invariant.1)
