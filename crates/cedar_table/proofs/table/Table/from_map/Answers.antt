use Rattle.std.proofs.Common.{◌∙◌, ◌∷◌, ◌++◌, [], ap, append_assoc, arith, length, subst, sym}
use Rattle.std.proofs.lemmas.List.{append-nil, length-append}
use Rattle.std.proofs.lemmas.Map.Made.{keys_of-zip}
use Rattle.std.specs.List.{zip}
use Rattle.std.specs.List.Sorted.{IsStrictlySortedBy}
use Rattle.std.specs.Map.{keys_of}
use Rattle.cedar_table.proofs.ColumnLemmas.{zip_behind}
use Rattle.cedar_table.proofs.table.Table.from_map.Goals as goal

pub loop-key-preserved : goal.loop-key-preserved
loop-key-preserved g c =
    let keys = c.loop-key.keys.items in
    let values = c.loop-key.values.items in
    let key = c.in-Some.key in
    let value = c.in-Some.value in
    let pushed = ap length c.in_ok-push.ensures.items ∙ length-append keys (key ∷ []) in
    let beside = ap length c.in_ok-push-2.ensures.items ∙ length-append values (value ∷ []) in (
      omega (arith, pushed, beside, c.loop-key.invariant.0),
      (λ i. zip (c.in_ok-push.ensures.items i) (c.in_ok-push-2.ensures.items i) ++ c.next.new.self)
          ∙ (ap (λ entries. entries ++ c.next.new.self) (zip_behind keys values key value c.loop-key.invariant.0)
          ∙ (append_assoc (zip keys values) ((key, value) ∷ []) c.next.new.self
          ∙ (ap (λ rest. zip keys values ++ rest) (sym c.in-Some.ensures.steps) ∙ c.loop-key.invariant.1))),
    )

-- the columns are those of the map
pub of-requires : goal.of-requires
of-requires g c =
    let keys = c.loop-key.keys.items in
    let values = c.loop-key.values.items in
    subst (λ each. IsStrictlySortedBy g.K.Ord.cmp each)
    (ap keys_of (sym c.loop-key.invariant.1 ∙ (ap (λ rest. zip keys values ++ rest) c.in-None.ensures.steps.0
    ∙ append-nil (zip keys values))) ∙ keys_of-zip keys values c.loop-key.invariant.0)
    c.len.ensures.ordered
