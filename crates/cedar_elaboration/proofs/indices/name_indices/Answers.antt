use Rattle.std.proofs.Common.{take, sym, ◌∙◌, inr, refl}
use Rattle.std.proofs.lemmas.Bool.{false≢true}
use Rattle.cedar_ast.proofs.Names.{internal_name_ord-Equal}
use Rattle.cedar_ast.specs.contracts.internal_name.InternalNameOrd.TheImpl as order
use Rattle.cedar_elaboration.proofs.Entries.{found_name}
use Rattle.cedar_elaboration.proofs.IndexLemmas.{NumberedSoFar-more, repeated_name, names_more, names_split}
use Rattle.cedar_elaboration.proofs.indices.name_indices.Goals as goal
use Rattle.cedar_elaboration.specs.Words.{Twice, indexed_names, item_names, name_of, written_common}

pub returns-then-contains_key-clause-fault : goal.returns-then-contains_key-clause-fault
returns-then-contains_key-clause-fault g c =
    let N = g.row.N.Denot in
    let refer = g.N.WrittenName.refer in
    let declared = c.args.declared.now in
    let item = c.index-declared-item_index.result in
    let name = name_of item.0 in
    let twice : Twice (item_names (written_common N refer declared)) name =
    rw (names_split N refer declared c.loop-item_index.item_index item c.loop-item_index-test.true c.index-declared-item_index.is)
    (repeated_name (item_names (written_common N refer (take c.loop-item_index.item_index declared))) _ name (indexed_names c.loop-item_index.indices)
    c.loop-item_index.invariant
    ((found_name ((order.ghosts).cmp) name_of internal_name_ord-Equal (λ item_index. item_index) c.loop-item_index.indices.entries item.0
    _ c.contains_key.ensures).0 c.if-contains_key.true)) in
    inr (name_of c.in_ok-clone.field-0, refl, rw c.in_ok-clone.ensures.name twice)

pub loop-item_index-preserved : goal.loop-item_index-preserved
loop-item_index-preserved g c =
    let N = g.row.N.Denot in
    let refer = g.N.WrittenName.refer in
    let declared = c.args.declared.now in
    let item = c.index-declared-item_index.result in
    let names = item_names (written_common N refer (take c.loop-item_index.item_index declared)) in
    rw ((names_more N refer declared c.loop-item_index.item_index item c.loop-item_index-test.true c.index-declared-item_index.is).0, c.in_ok-put.ensures)
    (NumberedSoFar-more names c.loop-item_index.indices.entries c.in_ok-clone-2.field-0 (name_of item.0) c.loop-item_index.item_index
    c.in_ok-clone-2.ensures.name
    (names_more N refer declared c.loop-item_index.item_index item c.loop-item_index-test.true c.index-declared-item_index.is).1
    (λ among. false≢true (sym c.if-contains_key.false
    ∙ (found_name ((order.ghosts).cmp) name_of internal_name_ord-Equal (λ item_index. item_index) c.loop-item_index.indices.entries item.0
    _ c.contains_key.ensures).1 among))
    c.loop-item_index.invariant)
