use Rattle.std.proofs.Common.{◌≡◌, ◌<◌, ℕ, IfSome, IsTrue, Some, ap, arith, get_or, length, refl, slice_get, subst, subst₂, sym, ◌∙◌}
use Rattle.std.proofs.lemmas.List.{length-map}
use Rattle.std.proofs.lemmas.Option.{slice_get_read}
use Rattle.std.specs.List.{IsDistinct, zip}
use Rattle.std.specs.Map.{keys_of}
use Rattle.cedar_ast.proofs.Chains.{last_step}
use Rattle.cedar_graph.proofs.Numbers.{eq_back, numbered_from_name}
use Rattle.cedar_graph.proofs.TableClosing.{distinct_keys, grown_entries}
use Rattle.cedar_graph.proofs.TableEdges.{chain_of_keys, chain_of_numbers, one_place}
use Rattle.cedar_graph.proofs.table_closing.closed_table.Goals as goal
use Rattle.cedar_graph.proofs.table_closing.closed_table.Goals.{After-into_parts-keys}
use Rattle.cedar_graph.specs.Words.{AreInTurn, Chain, IsGrown, IsTarget, ListHas, StandsIn, items_at}

pub closed_lists-requires : goal.closed_lists-requires
closed_lists-requires g c = record {
  within = λ i j edge.
      let below = c.requires.within i j edge in
      let count = ap length c.into_parts-keys.ensures.values ∙ length-map c.args.nodes.entries (λ e. e.1) in
      omega (arith, below, count, c.len.ensures);
}

-- the keys differ
distinct : (g : _) (c : After-into_parts-keys g) → IsDistinct g.K.PartialEq.eq (keys_of c.args.nodes.entries)
distinct g c = distinct_keys g.K.Ord.cmp g.met.K.Ord.matches_eq (keys_of c.args.nodes.entries) c.into_parts-keys.ensures.sorted

-- each target is the number of a key
within : (g : _) (c : After-into_parts-keys g) (i j : ℕ) → IsTarget c.args.targets.now.items i j → j < length (keys_of c.args.nodes.entries)
within g c i j edge =
    let below = c.requires.within i j edge in omega (arith, below, length-map c.args.nodes.entries (λ e. e.0))

-- and so is each that a chain of targets reaches
reached : (g : _) (c : After-into_parts-keys g) (i j : ℕ) → Chain (IsTarget c.args.targets.now.items) i j
    → j < length (keys_of c.args.nodes.entries)
reached g c i j chain = let last = last_step (IsTarget c.args.targets.now.items) i j chain in within g c last.0 j last.1

pub index-requires : goal.index-requires
index-requires g c =
    let found = rw c.in-Some.is at c.in_ok-on_cycle.ensures.found in
    let below = reached g (goal.at.index-requires g c).After-into_parts-keys c.in-Some.place c.in-Some.place found.1 in
    let count = ap length (c.as_vec.ensures.keys ∙ c.into_parts-keys.ensures.keys) in
    omega (arith, below, count, c.as_vec.result.now.ok.0)

pub returns-in-Some-clause-fault : goal.returns-in-Some-clause-fault
returns-in-Some-clause-fault g c =
    let d = (goal.at.returns-in-Some-clause-fault g c).After-into_parts-keys in
    let eq = g.K.PartialEq.eq in
    let laws = g.met.K.Eq.laws in
    let keys = keys_of c.args.nodes.entries in
    let place = c.in-Some.place in
    let name = c.index.result.now in
    let copy = c.in_ok-copy_key.field-0 in
    let found = rw c.in-Some.is at c.in_ok-on_cycle.ensures.found in
    let below = reached g d place place found.1 in
    let held = c.as_vec.ensures.keys ∙ c.into_parts-keys.ensures.keys in
    let there : slice_get keys place ≡ Some name =
    slice_get_read keys (length keys) place name refl below (c.index.ensures ∙ ap (λ ks. get_or ks place name) held) in
    let numbered = numbered_from_name eq keys name copy place there (eq_back laws name copy c.in_ok-copy_key.ensures) in (
      found.0,
      chain_of_keys laws keys (distinct g d) c.args.targets.now.items (within g d) found.1 copy copy numbered numbered,
    )

pub linked_nodes-requires : goal.linked_nodes-requires
linked_nodes-requires g c =
    let d = (goal.at.linked_nodes-requires g c).After-into_parts-keys in
    let eq = g.K.PartialEq.eq in
    let entries = c.args.nodes.entries in
    let held = c.as_vec-2.ensures.keys ∙ c.into_parts-keys.ensures.keys in
    let count = ap length c.into_parts-keys.ensures.values ∙ length-map entries (λ e. e.1) in
    record {
      lists = omega (arith, count, c.in_ok-lists.ensures.len, c.requires.len);
      known = omega (arith, count, c.requires.known);
      within = λ i j stands.
          let below = reached g d i j ((c.in_ok-lists.ensures.closed i j).0 stands) in
          omega (arith, below, ap length held, c.as_vec-2.result.now.ok.0);
      linked = subst₂ (λ values keys. (i : ℕ) → IfSome (slice_get values i)
          (λ node. (to : _) → StandsIn eq keys (items_at c.args.known.now.items i) to → IsTrue (g.V.TCNode.has_edge node to)))
          (sym c.into_parts-keys.ensures.values) (sym held) c.requires.linked;
    }

pub returns-clause-closed : goal.returns-clause-closed
returns-clause-closed g c =
    let d = (goal.at.returns-clause-closed g c).After-into_parts-keys in
    let eq = g.K.PartialEq.eq in
    let edge = g.V.TCNode.has_edge in
    let alike = g.V.TCNode.is_alike in
    let entries = c.args.nodes.entries in
    let lists = c.in_ok-lists.lists.items in
    let held = c.as_vec-2.ensures.keys ∙ c.into_parts-keys.ensures.keys in
    let linked = c.in_ok-linked.linked.items in
    let grown = subst₂ (λ values keys. AreInTurn (λ i. IsGrown edge alike (StandsIn eq keys (items_at lists i))) values linked)
    c.into_parts-keys.ensures.values held c.in_ok-linked.ensures in
    subst (λ closed. AreInTurn (λ i it other. (other.0 ≡ it.0)
    × IsGrown edge alike (Chain (ListHas eq (keys_of entries) c.args.targets.now.items) it.0) it.1 other.1) entries closed)
    (sym (c.from_parts.ensures ∙ ap (λ keys. zip keys linked) c.into_parts-keys.ensures.keys))
    (grown_entries g.met.K.Eq.laws edge alike entries (distinct g d) c.args.targets.now.items (within g d) lists
    c.in_ok-lists.ensures.closed linked grown)

pub returns-clause-acyclic : goal.returns-clause-acyclic
returns-clause-acyclic g c = λ enforced key chain.
    let d = (goal.at.returns-clause-acyclic g c).After-into_parts-keys in
    let keys = keys_of c.args.nodes.entries in
    let targets = c.args.targets.now.items in
    let it = chain_of_numbers g.met.K.Eq.laws keys (distinct g d) targets (within g d) chain in
    let same = one_place g.met.K.Eq.laws keys (distinct g d) targets (within g d) key it.1 it.0 it.3 it.2 in
    (rw c.in_default.is at c.in_ok-on_cycle.ensures.none) enforced it.0
    (subst (λ n. Chain (IsTarget targets) it.0 n) same it.4)
