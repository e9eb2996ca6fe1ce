use Rattle.std.proofs.Common.{◌∙◌, map, sym, subst, Contains}
use Rattle.std.proofs.lemmas.Bool.{false≢true}
use Rattle.std.proofs.lemmas.List.{take_all}
use Rattle.std.proofs.lemmas.List.Elements.{Contains-get_or}
use Rattle.cedar_fragments.proofs.UnresolvableLemmas.{resolved_by, none_reserved}
use Rattle.cedar_fragments.proofs.namespace.qualify_actions.qualify_requested.Goals as goal
use Rattle.cedar_fragments.specs.Words.{Entity, IsReserved, PlainName, Reference, ResolvesTo, held_names, name_of, namespace_name}
use Rattle.cedar_name_resolution.proofs.ResolveLemmas.{none_more}

-- a resolved name that is reserved comes from one of the references
pub returns-then-is_reserved-clause-fault : goal.returns-then-is_reserved-clause-fault
returns-then-is_reserved-clause-fault g c =
    let refer = g.N.WrittenName.refer (namespace_name c.args.namespace) in
    let names = held_names c.args.all_defs.now in
    let all = map (refer Entity) c.args.names.items in
    let items = c.in_ok-qualified.qualified.items in
    let listed = c.deref-name-items.result.now in
    let among : Contains listed c.name-item.result =
    rw c.name-item.is (Contains-get_or listed c.loop-name.name-index c.name-item.result c.loop-name-test.true) in
    let found = resolved_by names all items c.in_ok-qualified.ensures.resolved c.name-item.result
    (rw c.deref-name-items.ensures.value at among) in
    let IsReservedOne : PlainName → Type 0 = λ name. (reference : Reference) × Contains all reference
    × ResolvesTo names reference name × IsReserved name in
    subst IsReservedOne (sym c.in_ok-clone.ensures.name) (found.0, found.1, found.2, c.is_reserved.ensures.0 c.if-is_reserved.true)

-- one more name is not reserved
pub loop-name-preserved : goal.loop-name-preserved
loop-name-preserved g c =
    none_more IsReserved name_of c.deref-name-items.result.now c.loop-name.name-index c.name-item.result c.loop-name-test.true
    c.name-item.is (λ reserved. false≢true (sym c.if-is_reserved.false ∙ c.is_reserved.ensures.1 reserved)) c.loop-name.invariant

-- at the end none is
pub returns-clause-unreserved : goal.returns-clause-unreserved
returns-clause-unreserved g c =
    let refer = g.N.WrittenName.refer (namespace_name c.args.namespace) in
    let names = held_names c.args.all_defs.now in
    let all = map (refer Entity) c.args.names.items in
    let listed = c.deref-name-items.result.now in
    none_reserved names all c.in_ok-qualified.qualified.items c.in_ok-qualified.ensures.resolved
    (rw (take_all c.loop-name.name-index listed c.loop-name-test.false, c.deref-name-items.ensures.value) at c.loop-name.invariant)
