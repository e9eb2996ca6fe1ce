use Rattle.std.proofs.Common.{◌<◌, ℕ, List, Option, length, take, get_or, sym, subst, ◌∙◌, refl, rules}
use Rattle.std.proofs.lemmas.List.{get_or_default, length-set, take_all, take_more}
use Rattle.cedar_elaboration.proofs.IndexLemmas.{item_at_index, split_at}
use Rattle.cedar_written_out.proofs.FigureLemmas.{AreFigures-whole, FiguresSoFar, FiguresSoFar-more, FiguresSoFar-none, Knows-next, order_within}
use Rattle.cedar_written_out.proofs.common.common_figures.Goals as goal
use Rattle.cedar_written_out.specs.Words.{IsLowestFirst, RawName, held_names, indexed_names, name_of, raw_reference, written_common, written_expr}
use Rattle.cedar_written_out.specs.declared.figure.Figure.{Figure}
use Rattle.cedar_written_out.specs.declared.measuring.FigureScope.{FigureScope}

-- at first nothing is found
pub loop-item_index-init : goal.loop-item_index-init
loop-item_index-init c = record {
  len = search rules;
  so_far = λ defined defines. FiguresSoFar-none defined (written_common RawName raw_reference c.args.types.now) (length c.args.types.now)
      c.in_ok-figures.figures.items (c.in_ok-figures.ensures.items_if_clones_equal (λ y same. search rules));
}

-- each index of the order is one of a common type
pub bounds-types-item_index : goal.bounds-types-item_index
bounds-types-item_index c =
    let order = c.deref-item_index-items.result.now in
    let Lowest : List ℕ → Type 0 = IsLowestFirst c.in_ok-targets.targets.items in
    order_within c.args.types.now (held_names c.args.defs.now) (indexed_names c.args.indices.now) c.in_ok-targets.targets.items c.in_ok-targets.ensures
    order (subst Lowest (sym c.deref-item_index-items.ensures.value) c.in_ok-order.ensures) c.loop-item_index.item_index-index c.loop-item_index-test.true

pub offset_bounds-types-item_index : goal.offset_bounds-types-item_index
offset_bounds-types-item_index c =
    let order = c.deref-item_index-items.result.now in
    let Lowest : List ℕ → Type 0 = IsLowestFirst c.in_ok-targets.targets.items in
    let below = order_within c.args.types.now (held_names c.args.defs.now) (indexed_names c.args.indices.now) c.in_ok-targets.targets.items
    c.in_ok-targets.ensures order (subst Lowest (sym c.deref-item_index-items.ensures.value) c.in_ok-order.ensures)
    c.loop-item_index.item_index-index c.loop-item_index-test.true in
    search (rules, below)

pub index_mut-requires : goal.index_mut-requires
index_mut-requires c =
    let order = c.deref-item_index-items.result.now in
    let Lowest : List ℕ → Type 0 = IsLowestFirst c.in_ok-targets.targets.items in
    let IsWithin : ℕ → Type 0 = λ count. get_or order c.loop-item_index.item_index-index 0 < count in
    let below = order_within c.args.types.now (held_names c.args.defs.now) (indexed_names c.args.indices.now) c.in_ok-targets.targets.items
    c.in_ok-targets.ensures order (subst Lowest (sym c.deref-item_index-items.ensures.value) c.in_ok-order.ensures)
    c.loop-item_index.item_index-index c.loop-item_index-test.true in
    search (rules, subst IsWithin (sym c.loop-item_index.invariant.len) below)

-- one more is found
pub loop-item_index-preserved : goal.loop-item_index-preserved
loop-item_index-preserved c =
    let order = c.deref-item_index-items.result.now in
    let targets = c.in_ok-targets.targets.items in
    let types = c.args.types.now in
    let items = written_common RawName raw_reference types in
    let names = held_names c.args.defs.now in
    let indices = indexed_names c.args.indices.now in
    let index = c.loop-item_index.item_index-index in
    let place = get_or order index 0 in
    let item = c.index-types-item_index.result in
    let figures = c.loop-item_index.figures.items in
    let Lowest : List ℕ → Type 0 = IsLowestFirst targets in
    let lowest = subst Lowest (sym c.deref-item_index-items.ensures.value) c.in_ok-order.ensures in
    let below : place < length types = order_within types names indices targets c.in_ok-targets.ensures order lowest index c.loop-item_index-test.true in
    let IsWithin : ℕ → Type 0 = λ count. place < count in
    let stands = item_at_index RawName raw_reference types place item below c.index-types-item_index.is in
    let split = split_at order index place c.loop-item_index-test.true (get_or_default order index 0 place c.loop-item_index-test.true) in
    record {
      len = length-set figures place c.in_ok-figure.figure ∙ c.loop-item_index.invariant.len;
      so_far = λ defined defines.
          let so_far = c.loop-item_index.invariant.so_far defined defines in
          let SoFar : List (Option Figure) → Type 0 = FiguresSoFar defined items (take index order) in
          let scope : FigureScope = record { defs = c.args.defs; indices = c.args.indices; figures = c.deref.result } in
          let knows = Knows-next defined items names indices targets defines c.requires c.in_ok-targets.ensures order lowest (take index order) _ place
          (name_of item.0, written_expr RawName raw_reference item.1) scope split stands refl refl
          (subst SoFar (sym c.deref.ensures.value) so_far) in
          let measured = (rw c.namespace.ensures at c.in_ok-figure.ensures) defined knows in
          rw (take_more order index 0 c.loop-item_index-test.true)
          (FiguresSoFar-more defined items (take index order) figures place (name_of item.0, written_expr RawName raw_reference item.1)
          c.in_ok-figure.figure (subst IsWithin (sym c.loop-item_index.invariant.len) below) stands measured so_far);
    }

-- at the end all are found
pub returns : goal.returns
returns c defined defines =
    let order = c.deref-item_index-items.result.now in
    let targets = c.in_ok-targets.targets.items in
    let types = c.args.types.now in
    let Lowest : List ℕ → Type 0 = IsLowestFirst targets in
    let lowest = subst Lowest (sym c.deref-item_index-items.ensures.value) c.in_ok-order.ensures in
    let items = written_common RawName raw_reference types in
    AreFigures-whole defined items (held_names c.args.defs.now) (indexed_names c.args.indices.now) targets defines c.requires
    c.in_ok-targets.ensures order lowest c.loop-item_index.figures.items
    (rw (take_all c.loop-item_index.item_index-index order c.loop-item_index-test.false) at (c.loop-item_index.invariant.so_far defined defines))
