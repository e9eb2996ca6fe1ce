use Rattle.std.proofs.Common.{◌++◌, List, sym, subst, take}
use Rattle.std.proofs.lemmas.List.{append-nil}
use Rattle.std.specs.List.{flat_map}
use Rattle.cedar_schema.proofs.InOrder.{flat_map_next, flat_map_whole}
use Rattle.cedar_schema.proofs.namespaces.with_definitions.Goals as goal
use Rattle.cedar_schema.specs.Words.{DefinedNamespace, HoldsNamespaces, definition_namespaces}

pub loop-definition-init : goal.loop-definition-init
loop-definition-init g c = λ defined holds.
    let P : List DefinedNamespace → Type 0 = λ all. HoldsNamespaces all c.args.namespaces in
    subst P (sym (append-nil defined)) holds

pub loop-definition-preserved : goal.loop-definition-preserved
loop-definition-preserved g c = λ defined holds.
    let f = definition_namespaces g.row.N.Denot g.row.A.Denot in
    let P : List DefinedNamespace → Type 0 = λ all. HoldsNamespaces all c.in_ok-namespaces.namespaces in
    subst P
    (flat_map_next f defined c.args.definitions.now c.loop-definition.definition-index c.definition-item.result
    c.loop-definition-test.true c.definition-item.is)
    (c.in_ok-namespaces.ensures (defined ++ flat_map f (take c.loop-definition.definition-index c.args.definitions.now))
    (c.loop-definition.invariant defined holds))

pub returns : goal.returns
returns g c = λ defined holds.
    let P : List DefinedNamespace → Type 0 = λ all. HoldsNamespaces all c.loop-definition.namespaces in
    subst P
    (flat_map_whole (definition_namespaces g.row.N.Denot g.row.A.Denot) defined c.args.definitions.now
    c.loop-definition.definition-index c.loop-definition-test.false)
    (c.loop-definition.invariant defined holds)
