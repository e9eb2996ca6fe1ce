use Rattle.std.proofs.Common.{inl, inr, ap, map, sym, ◌∙◌, Bor, Global}
use Rattle.std.proofs.lemmas.List.{nil_from_length}
use Rattle.std.proofs.lemmas.Result.{err_from_is_err_and}
use Rattle.std.specs.Iterator.Adapters.{enumerate_count, enumerate_source}
use Rattle.std.specs.Vec.Iter.{into_iter_items}
use Rattle.cedar_json.proofs.DefinitionLemmas.{all_taken, entry_more, left_after, left_here, no_entry, no_key, none_left}
use Rattle.cedar_json.proofs.FieldLemmas.{nth_member-left}
use Rattle.cedar_json.proofs.from_json_owned.take_entries.Goals as goal
use Rattle.cedar_json.specs.Words.{Text, nth_member}
use Rattle.json.specs.Json.{object}
use Rattle.json.specs.Value.{members_view}
use Rattle.json.specs.declared.value.Value.{Value}

abbrev MaybeShared : Type 0
MaybeShared = Bor Text × Value Global

-- where one member describes nothing, all together describe nothing; the refused member is that at
-- the index that the fault names
pub returns-in_err-take_entry : goal.returns-in_err-take_entry
returns-in_err-take_entry g c =
    let is = g.K.Key in
    let held = g.T.Described in
    let x : MaybeShared = c.in-Some.member in
    let all = c.args.members.items in
    let i = enumerate_count c.loop-index.index-iterator in
    let left = into_iter_items (enumerate_source c.loop-index.index-iterator) in
    let after = into_iter_items (enumerate_source c.next.new.self) in
    let filled = c.loop-index.all in
    let steps = c.in-Some.ensures.steps in
    let here = left_here all left after i x c.loop-index.invariant.1 steps.0.0 in
    let found = ap (λ n. nth_member n (members_view all)) steps.1
    ∙ nth_member-left all i x after (c.loop-index.invariant.1 ∙ steps.0.0) in
    let p = err_from_is_err_and c.from_residual.result c.from_residual.ensures.1 in
    rw (p.1, p.2) (
      λ other. elim (c.in_err-take_entry.ensures.0 other) [
        | inl unnamed ↦ no_key g.K.Ord.cmp is.order is.shown_key held.shown g.met.K.Key.same_order is.key_of held.describes all i x filled here
            c.loop-index.invariant.0 unnamed
        | inr nothing ↦ no_entry g.K.Ord.cmp is.order is.shown_key held.shown g.met.K.Key.same_order is.key_of held.describes all i x filled here
            c.loop-index.invariant.0 nothing
      ],
      c.in_err-take_entry.ensures.1 (object (members_view all)) found,
    )

-- one more member is read and put under its key
pub loop-index-preserved : goal.loop-index-preserved
loop-index-preserved g c =
    let is = g.K.Key in
    let held = g.T.Described in
    let x : MaybeShared = c.in-Some.member in
    let all = c.args.members.items in
    let i = enumerate_count c.loop-index.index-iterator in
    let left = into_iter_items (enumerate_source c.loop-index.index-iterator) in
    let after = into_iter_items (enumerate_source c.next.new.self) in
    let steps = c.in-Some.ensures.steps in
    let here = left_here all left after i x c.loop-index.invariant.1 steps.0.0 in
    let put = c.in_ok-take_entry.ensures in (
      rw steps.2 (entry_more g.K.Ord.cmp is.order is.shown_key held.shown g.met.K.Key.same_order is.key_of held.describes all i x
          c.loop-index.all here c.loop-index.invariant.0 put.0.0 put.0.1 c.take_entry.new.all put.1 put.2 put.3),
      left_after all left after i (enumerate_count c.next.new.self) x c.loop-index.invariant.1 steps.0.0 steps.2,
    )

-- where no member is left, all were read
pub returns : goal.returns
returns g c =
    let is = g.K.Key in
    let held = g.T.Described in
    let all = c.args.members.items in
    let left = enumerate_source c.loop-index.index-iterator in
    let filled = c.loop-index.all in
    let end = c.loop-index.invariant.1 ∙ nil_from_length (into_iter_items left) (sym left.rest.ok.0 ∙ c.in-None.ensures.steps.0.0) in
    all_taken (object (members_view all)) _ (λ it. it.entries) (map (λ entry. (is.shown_key entry.0, held.shown entry.1))) filled c.finish.result
    (none_left g.K.Ord.cmp is.order is.shown_key held.shown g.met.K.Key.same_order is.key_of held.describes all
    (enumerate_count c.loop-index.index-iterator) filled end c.loop-index.invariant.0)
    c.finish.ensures
