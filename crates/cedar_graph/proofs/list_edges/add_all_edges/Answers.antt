use Rattle.std.proofs.Common.{◌≡◌, ◌<◌, ℕ, Some, Contains, IsTrue, HashMap, BuildHasherDefault, FoldHasher, length, slice_get, sym, ◌∙◌, ap, refl, subst, arith, inl, inr}
use Rattle.std.proofs.lemmas.Bool.{cases_lt}
use Rattle.std.proofs.lemmas.Option.{slice_get_read}
use Rattle.std.specs.HashMap.{get}
use Rattle.cedar_graph.proofs.Growing.{grows_at_onwards, grows_at_weaker, edge_kept, some_kept}
use Rattle.cedar_graph.proofs.Lists.{items_at-read, items_at-past}
use Rattle.cedar_graph.proofs.Numbers.{numbered_from_name, name_from_numbered, eq_back}
use Rattle.cedar_graph.proofs.list_edges.add_all_edges.Goals as goal
use Rattle.cedar_graph.proofs.list_edges.add_all_edges.Goals.{After-deref}
use Rattle.cedar_graph.specs.Words.{GrowsAt, IsNumbered, StandsIn, items_at}

-- the list of this turn stands at its place
read : (g : _) (c : After-deref g) → c.deref.result.now ≡ items_at c.args.lists.now.items c.loop-i.i
read g c =
    let within : c.loop-i.i < length c.args.lists.now.items = omega arith in
    c.deref.ensures.value ∙ ap (λ v. v.items) c.index-in-loop-i.ensures
    ∙ sym (items_at-read c.args.lists.now.items c.loop-i.i c.index-in-loop-i.result.now within)

-- the name of this turn stands at its place
found : (g : _) (c : After-deref g) → slice_get c.args.names.now.items c.loop-i.i ≡ Some c.index.result.now
found g c =
    let few = c.requires.few in
    let within : c.loop-i.i < length c.args.names.now.items = omega (arith, few) in
    slice_get_read c.args.names.now.items (length c.args.names.now.items) c.loop-i.i c.index.result.now refl within
    c.index.ensures

-- where the edges of a key may go
May : (g : _) (c : After-deref g) → g.row.K.Denot → g.row.K.Denot → Type 0
May g c key to = (i : ℕ) × IsNumbered g.K.PartialEq.eq c.args.names.now.items key i
    × StandsIn g.K.PartialEq.eq c.args.names.now.items (items_at c.args.lists.now.items i) to

pub add_edges_at-requires : goal.add_edges_at-requires
add_edges_at-requires g c = λ number stands.
    c.requires.within c.loop-i.i number (subst (λ xs. Contains xs number) (read g c) stands)

-- one node written makes each node grow as it may
onwards : (g : _) (c : After-deref g) (new : HashMap g.row.K.Denot g.row.V.Denot (BuildHasherDefault FoldHasher))
    → ((key : _) → GrowsAt g.V.TCNode.has_edge g.V.TCNode.is_alike (get g.K.PartialEq.eq c.loop-i.nodes key)
    (get g.K.PartialEq.eq new key)
    (λ to. IsTrue (g.K.PartialEq.eq c.index.result.now key)
    × StandsIn g.K.PartialEq.eq c.args.names.now.items c.deref.result.now to))
    → (key : _) → GrowsAt g.V.TCNode.has_edge g.V.TCNode.is_alike (get g.K.PartialEq.eq c.args.nodes.now key)
    (get g.K.PartialEq.eq new key) (May g c key)
unfolding May
onwards g c new step key =
    let eq = g.K.PartialEq.eq in
    let edge = g.V.TCNode.has_edge in
    let alike = g.V.TCNode.is_alike in
    let names = c.args.names.now.items in
    let name = c.index.result.now in
    grows_at_onwards edge alike g.met.V.TCNode.alike_onwards (May g c key) (get eq c.args.nodes.now key)
    (get eq c.loop-i.nodes key) (get eq new key) (c.loop-i.invariant.grows key)
    (grows_at_weaker edge alike (λ to. IsTrue (eq name key) × StandsIn eq names c.deref.result.now to) (May g c key)
    (λ to may. (
      c.loop-i.i,
      numbered_from_name eq names name key c.loop-i.i (found g c) (eq_back g.met.K.Eq.laws name key may.0),
      subst (λ numbers. StandsIn eq names numbers to) (read g c) may.1,
    ))
    (get eq c.loop-i.nodes key) (get eq new key) (step key))

pub returns-in_err-add_edges_at-clause-grows : goal.returns-in_err-add_edges_at-clause-grows
unfolding May
returns-in_err-add_edges_at-clause-grows g c =
    onwards g (goal.at.returns-in_err-add_edges_at-clause-grows g c).After-deref c.add_edges_at.new.nodes
    c.in_err-add_edges_at.ensures.grows

pub loop-i-preserved : goal.loop-i-preserved
unfolding May
loop-i-preserved g c =
    let eq = g.K.PartialEq.eq in
    let edge = g.V.TCNode.has_edge in
    let alike = g.V.TCNode.is_alike in
    let names = c.args.names.now.items in
    let old = c.loop-i.invariant in
    let step = c.in_ok-add_edges_at.ensures in
    let here = (goal.at.loop-i-preserved g c).After-deref in
    record {
      keys = step.keys ∙ old.keys;
      grows = onwards g here c.add_edges_at.new.nodes step.grows;
      complete = λ i key to below numbered has stands. elim (cases_lt i c.loop-i.i) [
        | inl before ↦ edge_kept edge alike (λ q. IsTrue (eq c.index.result.now key) × StandsIn eq names c.deref.result.now q)
            (get eq c.loop-i.nodes key) (get eq c.add_edges_at.new.nodes key) to (step.grows key)
            (old.complete i key to before numbered has stands)
        | inr from ↦ let same : i ≡ c.loop-i.i = omega arith in
            let alike_name = name_from_numbered eq names c.index.result.now key c.loop-i.i (found g here)
            (subst (IsNumbered eq names key) same numbered) in
            let has_now = some_kept edge alike (May g here key) (get eq c.args.nodes.now key)
            (get eq c.loop-i.nodes key) (old.grows key) has in
            step.complete key to (eq_back g.met.K.Eq.laws key c.index.result.now alike_name) has_now
            (subst (λ numbers. StandsIn eq names numbers to) (ap (items_at c.args.lists.now.items) same ∙ sym (read g here)) stands)
      ];
    }

pub returns-clause-complete : goal.returns-clause-complete
returns-clause-complete g c = λ key to it has.
    let i = it.0 in
    let numbered = it.1 in
    let stands = it.2 in
    elim (cases_lt i c.loop-i.i) [
      | inl below ↦ c.loop-i.invariant.complete i key to below numbered has stands
      | inr above ↦ let none = items_at-past c.args.lists.now.items i (omega arith) in
          let stands_nowhere = subst (λ xs. Contains xs stands.0) none stands.1 in
          absurd (omega (arith, stands_nowhere.1))
    ]
