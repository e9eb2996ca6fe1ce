use Rattle.std.proofs.Common.{◌≡◌, ◌∙◌, ◌++◌, [], ◌∷◌, List, Some, ap, inr, length, sym, true}
use Rattle.std.proofs.lemmas.Bool.{false≢true}
use Rattle.std.proofs.lemmas.List.{nil_from_length}
use Rattle.std.specs.List.{zip}
use Rattle.cedar_builder.proofs.NodesPut.{HasRoom, IsPutBehind, defined_at, empty_from_no_last, last_stands, popped_last, put_behind, put_nothing, room_behind, room_for_first, room_in_place}
use Rattle.cedar_builder.proofs.declared_node.put_node.Goals as goal
use Rattle.cedar_builder.proofs.declared_node.put_node.Goals.{In-Some-Some, In_ok-push, In_ok-push-2, in-Some-Some+then-eq+else-is_external+else-not-is_external, in-Some-Some+else-eq, in-Some+in-None-1, in-None-3}
use Rattle.cedar_builder.specs.Words.{at_key}

-- where the node is put
record Room (g : _) (c : In_ok-push g) : Type 0 where
  pub front : List g.row.K.Denot
  pub others : List g.row.V.Denot
  pub room : HasRoom g.K.Ord.cmp g.V.SchemaNode.key_name g.V.SchemaNode.node_name g.V.SchemaNode.IsExternal c.args.keys.now.items
      c.args.nodes.now.items front others c.in_ok-name.name c.args.node
  pub of_keys : c.match-last.keys.items ≡ front
  pub of_nodes : c.match-last.nodes.items ≡ others

-- the name is that of the node
its_name : (g : _) (c : In_ok-push g) → g.V.SchemaNode.key_name c.in_ok-name.name ≡ g.V.SchemaNode.node_name c.args.node
its_name g c = c.in_ok-name.ensures.name ∙ c.name.ensures.name

-- there is room for it
room_of : (g : _) (c : In_ok-push g) → Room g c
room_of g c =
    let node = g.V.SchemaNode in
    let keys = c.args.keys.now.items in
    let nodes = c.args.nodes.now.items in
    let kept : keys ≡ [] → HasRoom g.K.Ord.cmp node.key_name node.node_name node.IsExternal keys nodes keys nodes c.in_ok-name.name c.args.node =
    room_for_first g.met.K.Eq.laws g.K.Ord.cmp g.met.K.Ord.total g.met.K.Ord.matches_eq node.key_name node.node_name node.IsExternal
    g.met.V.SchemaNode.same_key keys nodes c.requires.columns c.requires.sorted c.in_ok-name.name c.args.node (its_name g c) in
    elim c.match-last.branch [
      | in-Some-Some+then-eq+else-is_external+else-not-is_external w ↦ record {
        front = w.pop.new.self.items;
        others = w.pop-then-eq.new.self.items;
        room = room_in_place g.met.K.Eq.laws g.K.Ord.cmp g.met.K.Ord.total g.met.K.Ord.matches_eq node.key_name node.node_name
            node.IsExternal g.met.V.SchemaNode.same_key keys nodes c.requires.columns c.requires.sorted c.in_ok-name.name c.args.node
            (its_name g c) w.pop.new.self.items w.pop-then-eq.new.self.items w.in-Some-Some.last.now w.in-Some-Some.old.now
            (popped_last keys w.pop.new.self.items w.pop.result c.args.keys.now.len w.in-Some-Some.last.now c.args.keys.now.ok.0
            w.pop.ensures.items w.pop.ensures.value (rw c.deref.ensures.value at w.in-Some-Some.ensures.value))
            (popped_last nodes w.pop-then-eq.new.self.items w.pop-then-eq.result c.args.nodes.now.len w.in-Some-Some.old.now
            c.args.nodes.now.ok.0 w.pop-then-eq.ensures.items w.pop-then-eq.ensures.value
            (rw c.deref-2.ensures.value at w.in-Some-Some.ensures'.value))
            (sym w.eq.ensures ∙ w.if-eq.true)
            (λ external. false≢true (sym w.if-is_external.false ∙ w.is_external.ensures.1 external))
            (w.is_external-then-eq.ensures.0 w.if-not-is_external.false);
        of_keys = ap (λ it. it.items) w.keys-is;
        of_nodes = ap (λ it. it.items) w.nodes-is;
      }
      | in-Some-Some+else-eq w ↦ record {
        front = keys;
        others = nodes;
        room = room_behind g.met.K.Eq.laws g.K.Ord.cmp g.met.K.Ord.total g.met.K.Ord.matches_eq node.key_name node.node_name
            node.IsExternal g.met.V.SchemaNode.same_key keys nodes c.requires.columns c.requires.sorted c.in_ok-name.name c.args.node
            (its_name g c) (c.requires.behind c.in_ok-name.name (its_name g c)) w.in-Some-Some.last.now
            (rw c.deref.ensures.value at w.in-Some-Some.ensures.value) (sym w.eq.ensures ∙ w.if-eq.false);
        of_keys = ap (λ it. it.items) w.keys-is;
        of_nodes = ap (λ it. it.items) w.nodes-is;
      }
      | in-Some+in-None-1 w ↦ record {
        front = keys;
        others = nodes;
        room = kept (nil_from_length keys (sym c.requires.columns
            ∙ ap length (empty_from_no_last nodes (rw c.deref-2.ensures.value at w.in-None-1.ensures.0))));
        of_keys = ap (λ it. it.items) w.keys-is;
        of_nodes = ap (λ it. it.items) w.nodes-is;
      }
      | in-None-3 w ↦ record {
        front = keys;
        others = nodes;
        room = kept (empty_from_no_last keys (rw c.deref.ensures.value at w.in-None-1.ensures.0));
        of_keys = ap (λ it. it.items) w.keys-is;
        of_nodes = ap (λ it. it.items) w.nodes-is;
      }
    ]

-- the last node stands at the name, where it stands under it
old_stands : (g : _) (c : In-Some-Some g) (tie : g.K.PartialEq.eq c.in-Some-Some.last.now c.in_ok-name.name ≡ true) (key : g.row.K.Denot)
    → g.V.SchemaNode.key_name key ≡ g.V.SchemaNode.node_name c.args.node
    → at_key g.K.PartialEq.eq (zip c.args.keys.now.items c.args.nodes.now.items) key ≡ Some c.in-Some-Some.old.now
old_stands g c tie =
    let node = g.V.SchemaNode in
    last_stands g.met.K.Eq.laws g.K.Ord.cmp g.met.K.Ord.total g.met.K.Ord.matches_eq node.key_name node.node_name node.IsExternal
    g.met.V.SchemaNode.same_key c.args.keys.now.items c.args.nodes.now.items c.requires.columns c.requires.sorted c.in_ok-name.name
    c.args.node (c.in_ok-name.ensures.name ∙ c.name.ensures.name) c.in-Some-Some.last.now c.in-Some-Some.old.now
    (rw c.deref.ensures.value at c.in-Some-Some.ensures.value) (rw c.deref-2.ensures.value at c.in-Some-Some.ensures'.value) tie

-- an external declaration of a name that is there changes nothing
pub returns-then-is_external-clause-put : goal.returns-then-is_external-clause-put
returns-then-is_external-clause-put g c = λ key same.
    put_nothing g.V.SchemaNode.IsExternal c.args.node c.in-Some-Some.old.now _
    (old_stands g (goal.at.returns-then-is_external-clause-put g c).In-Some-Some (sym c.eq.ensures ∙ c.if-eq.true) key same)
    (c.is_external.ensures.0 c.if-is_external.true)

-- two definitions of a name are a duplicate
pub returns-then-not-is_external-clause-fault : goal.returns-then-not-is_external-clause-fault
returns-then-not-is_external-clause-fault g c =
    let named = c.in_ok-name.ensures.name ∙ c.name.ensures.name in
    inr (
      c.duplicate.ensures ∙ ap g.V.SchemaNode.duplicate_fault named,
      λ is. false≢true (sym c.if-is_external.false ∙ c.is_external.ensures.1 is),
      (
        c.in_ok-name.name,
        named,
        defined_at g.V.SchemaNode.IsExternal _ c.in-Some-Some.old.now
            (old_stands g (goal.at.returns-then-not-is_external-clause-fault g c).In-Some-Some (sym c.eq.ensures ∙ c.if-eq.true)
            c.in_ok-name.name named)
            (λ is. false≢true (sym c.if-not-is_external.true ∙ c.is_external-then-eq.ensures.1 is)),
      ),
    )

-- once both are pushed the node is put
put : (g : _) (c : In_ok-push-2 g)
    → IsPutBehind g.K.PartialEq.eq g.K.Ord.cmp g.V.SchemaNode.key_name g.V.SchemaNode.node_name g.V.SchemaNode.IsExternal
    c.args.keys.now.items c.args.nodes.now.items c.in_ok-name.name c.args.node c.push.new.self.items c.push-2.new.self.items
put g c =
    let node = g.V.SchemaNode in
    let d = (goal.at.returns-clause-sorted g c).In_ok-push in
    let room = room_of g d in
    put_behind g.met.K.Eq.laws g.K.Ord.cmp g.met.K.Ord.total g.met.K.Ord.matches_eq node.key_name node.node_name node.IsExternal
    g.met.V.SchemaNode.same_key c.args.keys.now.items c.args.nodes.now.items c.requires.columns c.requires.sorted c.in_ok-name.name
    c.args.node (its_name g d) room.front room.others room.room _ _
    (c.in_ok-push.ensures.items ∙ ap (λ each. each ++ c.in_ok-name.name ∷ []) room.of_keys)
    (c.in_ok-push-2.ensures.items ∙ ap (λ each. each ++ c.args.node ∷ []) room.of_nodes)

pub returns-clause-sorted : goal.returns-clause-sorted
returns-clause-sorted g c = (put g c).sorted

pub returns-clause-keys : goal.returns-clause-keys
returns-clause-keys g c = (put g c).from

-- what stands at other names stays
pub returns-clause-other : goal.returns-clause-other
returns-clause-other g c = (put g c).other

-- a definition takes the place of an external declaration, or is the first
pub returns-clause-put : goal.returns-clause-put
returns-clause-put g c = (put g c).own

-- each node keeps the location of its name
pub returns-clause-located : goal.returns-clause-located
returns-clause-located g c = (put g c).located g.V.SchemaNode.IsLocatedAs (c.in_ok-name.ensures.located c.args.node c.name.ensures.located)
