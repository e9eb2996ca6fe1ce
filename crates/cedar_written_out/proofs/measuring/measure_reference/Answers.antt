use Rattle.std.proofs.Common.{sym, ◌∙◌}
use Rattle.std.proofs.lemmas.Bool.{false≢true}
use Rattle.cedar_ast.proofs.Names.{internal_name_ord-Equal}
use Rattle.cedar_ast.specs.contracts.internal_name.InternalNameOrd.TheImpl as order
use Rattle.cedar_elaboration.proofs.Entries.{looked_up, not_found}
use Rattle.cedar_written_out.proofs.MeasureLemmas.{common_measured, entity_measured, unresolved_measured}
use Rattle.cedar_written_out.proofs.measuring.measure_reference.Goals as goal
use Rattle.cedar_written_out.specs.Words.{name_of, namespace_name, raw_reference}

-- what stands for nothing has no figure
pub returns-in_default : goal.returns-in_default
returns-in_default c defined knows =
    unresolved_measured defined c.args.scope.now (raw_reference (namespace_name c.args.namespace) c.args.kind c.args.name.now) knows
    (rw c.in_default.is at c.in_ok-full.ensures)

-- where no common type may stand, an entity type does
pub returns-then-not-may_name_common : goal.returns-then-not-may_name_common
returns-then-not-may_name_common c defined knows =
    entity_measured defined c.args.scope.now (raw_reference (namespace_name c.args.namespace) c.args.kind c.args.name.now) knows
    (name_of c.in-Some.full) c.single.result (rw c.in-Some.is at c.in_ok-full.ensures)
    (λ may. absurd (false≢true (sym c.if-not-may_name_common.true ∙ c.may_name_common.ensures.1 may)))
    c.single.ensures.depth c.single.ensures.size

-- a common type has the figure that is known of it
pub returns-in-Some-get : goal.returns-in-Some-get
returns-in-Some-get c defined knows =
    let scope = c.args.scope.now in
    rw c.figure_at.ensures
    (common_measured defined scope (raw_reference (namespace_name c.args.namespace) c.args.kind c.args.name.now) knows
    (name_of c.in-Some.full) c.in-Some-get.item_index.now (rw c.in-Some.is at c.in_ok-full.ensures)
    (c.may_name_common.ensures.0 c.if-not-may_name_common.false)
    (looked_up ((order.ghosts).cmp) name_of internal_name_ord-Equal (λ item_index. item_index) scope.indices.now.entries c.in-Some.full
    c.in-Some-get.item_index.now c.in-Some-get.ensures.value))

-- what is no common type is an entity type
pub returns : goal.returns
returns c defined knows =
    let scope = c.args.scope.now in
    entity_measured defined scope (raw_reference (namespace_name c.args.namespace) c.args.kind c.args.name.now) knows
    (name_of c.in-Some.full) c.single-in-None.result (rw c.in-Some.is at c.in_ok-full.ensures)
    (λ may. not_found ((order.ghosts).cmp) name_of internal_name_ord-Equal (λ item_index. item_index) scope.indices.now.entries
    c.in-Some.full (rw c.in-None.is at c.get.ensures.value))
    c.single-in-None.ensures.depth c.single-in-None.ensures.size
