use Rattle.std.proofs.Common.{◌≡◌, ◌<◌, ◌≤◌, ℕ, IfSome, Some, length, vec_len, slice_get, arith, refl, subst}
use Rattle.std.proofs.lemmas.List.{length-map}
use Rattle.std.proofs.lemmas.Option.{IfSome_then, slice_get_read}
use Rattle.std.specs.HashMap.{keys}
use Rattle.cedar_ast.proofs.Chains.{held_after, last_step}
use Rattle.cedar_graph.proofs.KeyedEdges.{step_of_keys, step_of_numbers, target_named, names_for_all}
use Rattle.cedar_graph.proofs.Numbers.{numbers_from_keys, keys_from_numbers, one_number, number_below, numbered_from_name}
use Rattle.cedar_graph.proofs.closure.closed_names.Goals as goal
use Rattle.cedar_graph.proofs.closure.closed_names.Goals.{In_ok-targets, In_ok-lists}
use Rattle.cedar_graph.specs.Words.{Chain, HasEdge, IsNumbered, IsTarget, Reaches}

-- each key of the map has the number of its place
in_order : (g : _) (c : In_ok-targets g) (i : ℕ)
    → IfSome (slice_get (keys c.args.nodes.now) i)
    (λ key. IsNumbered g.K.PartialEq.eq c.all_targets.new.numbering.names.items key i)
in_order g c i = IfSome_then (slice_get (keys c.args.nodes.now) i) (c.in_ok-numbering.ensures.in_order i)
    (λ key stands. c.in_ok-targets.ensures.kept key i stands)

-- as many targets as entries
len : (g : _) (c : In_ok-targets g) → length c.in_ok-targets.targets.items ≡ length c.args.nodes.now.entries
len g c = let same = c.in_ok-targets.ensures.len in omega (arith, same, c.in_ok-targets.targets.ok.0)

-- each target is the number of a key
named : (g : _) (c : In_ok-targets g) (i j : ℕ) → IsTarget c.in_ok-targets.targets.items i j
    → (b : g.row.K.Denot) × IsNumbered g.K.PartialEq.eq c.all_targets.new.numbering.names.items b j
named g c = target_named g.met.K.Eq.laws g.V.TCNode.has_edge g.met.V.TCNode.edges_respect_eq c.args.nodes.now
    c.in_ok-numbering.ensures.unique
    c.all_targets.new.numbering.names.items c.in_ok-targets.targets.items
    (in_order g c) c.in_ok-targets.ensures.targets (len g c)

-- each target is below the number of names
below : (g : _) (c : In_ok-targets g) (i j : ℕ) → IsTarget c.in_ok-targets.targets.items i j
    → j < vec_len c.all_targets.new.numbering.names
below g c i j edge =
    let it = named g c i j edge in
    let under = number_below g.K.PartialEq.eq c.all_targets.new.numbering.names.items it.0 j it.1 in
    omega (arith, under, c.all_targets.new.numbering.names.ok.0)

-- as many names as targets, or more
few : (g : _) (c : In_ok-targets g) → vec_len c.in_ok-targets.targets ≤ vec_len c.all_targets.new.numbering.names
few g c =
    let all = keys c.args.nodes.now in
    let names = c.all_targets.new.numbering.names in
    let entries : length all ≡ length c.args.nodes.now.entries = length-map c.args.nodes.now.entries (λ e. e.0) in
    let most = names_for_all g.K.PartialEq.eq all names.items (in_order g c) (length all) (omega arith) in
    omega (arith, entries, most, len g c, names.ok.0, c.in_ok-targets.targets.ok.0)

pub closed_lists-requires : goal.closed_lists-requires
closed_lists-requires g c = record {
  within = λ i j edge.
      let under = below g (goal.at.closed_lists-requires g c).In_ok-targets i j edge in
      omega (arith, under, c.len.ensures);
}

pub returns-clause-few : goal.returns-clause-few
returns-clause-few g c =
    let most = few g (goal.at.returns-clause-few g c).In_ok-targets in
    let same = c.in_ok-lists.ensures.len in
    omega (arith, most, same)

pub returns-clause-within : goal.returns-clause-within
returns-clause-within g c = λ i j stands.
    let d = (goal.at.returns-clause-within g c).In_ok-targets in
    held_after (λ k. k < vec_len c.all_targets.new.numbering.names) i (λ k edge. below g d i k edge)
    (λ k l _ edge. below g d k l edge)
    ((c.in_ok-lists.ensures.closed i j).0 stands)

-- a chain of numbers is one of the keys that have them
chain_of_keys : (g : _) (c : In_ok-targets g) {i j : ℕ} → Chain (IsTarget c.in_ok-targets.targets.items) i j
    → (a b : g.row.K.Denot) → IsNumbered g.K.PartialEq.eq c.all_targets.new.numbering.names.items a i
    → IsNumbered g.K.PartialEq.eq c.all_targets.new.numbering.names.items b j
    → Reaches g.K.PartialEq.eq g.V.TCNode.has_edge c.args.nodes.now a b
chain_of_keys g c chain a b first last =
    let eq = g.K.PartialEq.eq in
    let names = c.all_targets.new.numbering.names.items in
    let targets = c.in_ok-targets.targets.items in
    keys_from_numbers (IsNumbered eq names) (HasEdge eq g.V.TCNode.has_edge c.args.nodes.now) (IsTarget targets)
    (named g c)
    (step_of_numbers g.met.K.Eq.laws g.V.TCNode.has_edge g.met.V.TCNode.edges_respect_eq c.args.nodes.now
    c.in_ok-numbering.ensures.unique names targets
    (in_order g c) c.in_ok-targets.ensures.targets (len g c))
    chain a b first last

-- and a chain of keys is one of their numbers
chain_of_numbers : (g : _) (c : In_ok-targets g) {a b : g.row.K.Denot}
    → Reaches g.K.PartialEq.eq g.V.TCNode.has_edge c.args.nodes.now a b
    → (i : ℕ) × (j : ℕ) × IsNumbered g.K.PartialEq.eq c.all_targets.new.numbering.names.items a i
    × IsNumbered g.K.PartialEq.eq c.all_targets.new.numbering.names.items b j
    × Chain (IsTarget c.in_ok-targets.targets.items) i j
chain_of_numbers g c chain =
    let eq = g.K.PartialEq.eq in
    let names = c.all_targets.new.numbering.names.items in
    let targets = c.in_ok-targets.targets.items in
    numbers_from_keys (IsNumbered eq names) (HasEdge eq g.V.TCNode.has_edge c.args.nodes.now) (IsTarget targets)
    (one_number g.met.K.Eq.laws names c.all_targets.new.numbering.numbers c.in_ok-targets.ensures.numbers)
    (step_of_keys g.met.K.Eq.laws g.V.TCNode.has_edge g.met.V.TCNode.edges_respect_eq c.args.nodes.now
    c.in_ok-numbering.ensures.unique names targets
    (in_order g c) c.in_ok-targets.ensures.targets (len g c))
    chain

-- a number on a cycle is that of a name
pub swap_remove-requires : goal.swap_remove-requires
swap_remove-requires g c =
    let number = c.in-Some.number in
    let found = rw c.in-Some.is at c.in_ok-number.ensures.found in
    let last = last_step (IsTarget c.in_ok-targets.targets.items) number number found.1 in
    below g (goal.at.swap_remove-requires g c).In_ok-targets last.0 number last.1

-- which reaches itself
pub returns-in-Some-clause-fault : goal.returns-in-Some-clause-fault
returns-in-Some-clause-fault g c =
    let d = (goal.at.returns-in-Some-clause-fault g c).In_ok-targets in
    let names = c.all_targets.new.numbering.names in
    let number = c.in-Some.number in
    let key = c.swap_remove.result in
    let found = rw c.in-Some.is at c.in_ok-number.ensures.found in
    let last = last_step (IsTarget c.in_ok-targets.targets.items) number number found.1 in
    let under = below g d last.0 number last.1 in
    let within : number < length names.items = omega (arith, under, names.ok.0) in
    let read : slice_get names.items number ≡ Some key =
    slice_get_read names.items (length names.items) number key refl within c.swap_remove.ensures.value in
    let numbered = numbered_from_name g.K.PartialEq.eq names.items key key number read (g.met.K.Eq.laws.refl key) in
    (found.0, chain_of_keys g d found.1 key key numbered numbered)

-- where no number is on a cycle, no key is
pub returns-clause-acyclic : goal.returns-clause-acyclic
returns-clause-acyclic g c = λ enforced key chain.
    let d = (goal.at.returns-clause-acyclic g c).In_ok-targets in
    let it = chain_of_numbers g d chain in
    let same = one_number g.met.K.Eq.laws c.all_targets.new.numbering.names.items c.all_targets.new.numbering.numbers
    c.in_ok-targets.ensures.numbers key it.1 it.0 it.3 it.2 in
    (rw c.in_default.is at c.in_ok-number.ensures.none) enforced it.0
    (subst (λ n. Chain (IsTarget c.in_ok-targets.targets.items) it.0 n) same it.4)

pub returns-clause-sound : goal.returns-clause-sound
returns-clause-sound g c = λ from to it.
    let d = (goal.at.returns-clause-sound g c).In_ok-targets in
    chain_of_keys g d ((c.in_ok-lists.ensures.closed it.0 it.2.0).0 it.2.1) from to it.1 it.2.2

pub returns-clause-complete : goal.returns-clause-complete
returns-clause-complete g c = λ from to chain.
    let d = (goal.at.returns-clause-complete g c).In_ok-targets in
    let it = chain_of_numbers g d chain in
    (it.0, it.2, (it.1, (c.in_ok-lists.ensures.closed it.0 it.1).1 it.4, it.3))
