use Rattle.std.proofs.Common.{◌≡◌, ◌<◌, ◌≤◌, ◌+◌, Some, length, vec_len, hash_map_len, drop, IfSome, slice_get, sym, ◌∙◌, ap, subst, arith, inl, inr}
use Rattle.std.proofs.lemmas.Bool.{cases_lt}
use Rattle.std.proofs.lemmas.Map.Iter.{rest_more, rest_all}
use Rattle.std.proofs.lemmas.Option.{IfSome_then, MatchOption-from_none, slice_get_past}
use Rattle.std.specs.HashMap.{keys}
use Rattle.std.specs.Map.Iter.{deref}
use Rattle.cedar_graph.proofs.Lists.{drop_next, drop_done}
use Rattle.cedar_graph.proofs.Numbers.{no_number_yet}
use Rattle.cedar_graph.proofs.numbering.numbered_keys.Goals as goal
use Rattle.cedar_graph.proofs.numbering.numbered_keys.Goals.{In-Some}
use Rattle.cedar_graph.specs.Numbering.{IsNumbered}

-- the key of this turn stands at the next place
next_key : (g : _) (c : In-Some g) → (vec_len c.loop-key.numbering.names < length (keys c.args.nodes.now))
    × (slice_get (keys c.args.nodes.now) (vec_len c.loop-key.numbering.names) ≡ Some c.in-Some.key.now)
    × (c.next.new.self ≡ drop (vec_len c.loop-key.numbering.names + 1) (keys c.args.nodes.now))
next_key g c =
    drop_next (keys c.args.nodes.now) (vec_len c.loop-key.numbering.names) c.in-Some.key.now c.next.new.self
    (sym c.loop-key.invariant.rest ∙ rest_more deref c.loop-key.key-iterator c.next.new.self c.next.result
    c.in-Some.key c.in-Some.is c.next.ensures.steps)

pub add_number-requires-clause-absent : goal.add_number-requires-clause-absent
add_number-requires-clause-absent g c =
    let all = keys c.args.nodes.now in
    let names = c.loop-key.numbering.names in
    let old = c.loop-key.invariant in
    let len : vec_len names ≡ length names.items = omega (arith, names.ok.0) in
    no_number_yet g.met.K.Eq.laws all names.items c.loop-key.numbering.numbers c.in-Some.key.now old.numbers
    c.keys-key-items.ensures.unique
    (ap (slice_get all) (sym len) ∙ (next_key g (goal.at.add_number-requires-clause-absent g c).In-Some).1)
    (λ i below. old.in_order i (omega (arith, below, len)))

pub loop-key-preserved : goal.loop-key-preserved
loop-key-preserved g c =
    let eq = g.K.PartialEq.eq in
    let all = keys c.args.nodes.now in
    let before = c.loop-key.numbering.names in
    let after = c.add_number.new.numbering.names in
    let old = c.loop-key.invariant in
    let here = next_key g (goal.at.loop-key-preserved g c).In-Some in
    let within = here.0 in
    let more = c.in_ok-add_number.ensures.len in
    record {
      numbers = c.in_ok-add_number.ensures.numbers;
      rest = here.2 ∙ ap (λ n. drop n all) (sym more);
      bound = omega (arith, within, more);
      in_order = λ i below. elim (cases_lt i (vec_len before)) [
        | inl earlier ↦ IfSome_then (slice_get all i) (old.in_order i earlier)
            (λ key stands. c.in_ok-add_number.ensures.kept key i stands)
        | inr last ↦ let same : i ≡ vec_len before = omega (arith, below, more, last) in
            let found : slice_get all i ≡ Some c.in-Some.key.now = ap (slice_get all) same ∙ here.1 in
            let stands : IsNumbered eq after.items c.in-Some.key.now i =
            subst (IsNumbered eq after.items c.in-Some.key.now) (c.in_ok-add_number.ensures.number
            ∙ sym same) c.in_ok-add_number.ensures.numbered in
            subst (λ o. IfSome o (λ key. IsNumbered eq after.items key i)) (sym found) stands
      ];
    }

-- at the end each key has a name
complete : (g : _) (c : goal.In-None g) → length (keys c.args.nodes.now) ≤ vec_len c.loop-key.numbering.names
complete g c =
    drop_done (keys c.args.nodes.now) (vec_len c.loop-key.numbering.names)
    (sym c.loop-key.invariant.rest ∙ rest_all deref c.loop-key.key-iterator c.next.new.self c.next.result c.in-None.is
    c.next.ensures.steps)

pub returns-clause-len : goal.returns-clause-len
returns-clause-len g c =
    let least = complete g c in
    let len : length (keys c.args.nodes.now) ≡ hash_map_len c.args.nodes.now =
    ap length (sym c.keys-key-items.ensures.rest) ∙ c.keys-key-items.ensures.len in
    let most = c.loop-key.invariant.bound in
    omega (arith, least, most, len)

pub returns-clause-in_order : goal.returns-clause-in_order
returns-clause-in_order g c = λ i. elim (cases_lt i (vec_len c.loop-key.numbering.names)) [
  | inl below ↦ c.loop-key.invariant.in_order i below
  | inr above ↦ let least = complete g c in
      MatchOption-from_none (slice_get (keys c.args.nodes.now) i)
      (λ key. IsNumbered g.K.PartialEq.eq c.loop-key.numbering.names.items key i)
      (slice_get_past (keys c.args.nodes.now) i (omega (arith, least, above)))
]
