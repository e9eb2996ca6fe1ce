use Rattle.std.proofs.lemmas.Result.{err_from_is_err_and}
use Rattle.cedar_schema_grammar.specs.Plain.{parent_of}
use Rattle.cedar_schema_text.proofs.Among.{among_at}
use Rattle.cedar_schema_text.proofs.SoFar.{listed_all, listed_more, listed_none}
use Rattle.cedar_schema_text.specs.Faults.{parent_faults}
use Rattle.cedar_schema_text.specs.Meaning.{parent_meant}
use Rattle.cedar_schema_text.specs.Shown.{parent_shown}
use Rattle.cedar_schema_text.proofs.actions.parents.Goals as goal

pub loop-one-init : goal.loop-one-init
loop-one-init c = listed_none parent_of parent_faults parent_meant parent_shown c.in_ok-groups.groups.items c.in_ok-groups.ensures.items

-- a fault of one is among those of all
pub returns-in_err-parent-clause-fault : goal.returns-in_err-parent-clause-fault
returns-in_err-parent-clause-fault c =
    let p = err_from_is_err_and c.from_residual-in_err-parent.result c.from_residual-in_err-parent.ensures.1 in
    rw (p.1, p.2) (among_at parent_faults parent_of c.args.written.now c.loop-one.one-index c.one-item.result c.in_err-parent.field-0.0 c.loop-one-test.true
    c.one-item.is c.in_err-parent.ensures.fault)

pub loop-one-preserved : goal.loop-one-preserved
loop-one-preserved c =
    listed_more parent_of parent_faults parent_meant parent_shown c.args.written.now c.loop-one.one-index c.one-item.result c.loop-one.groups.items c.push.new.self.items
    c.in_ok-parent.field-0 c.loop-one-test.true c.one-item.is c.in_ok-parent.ensures.none c.in_ok-parent.ensures.meant c.in_ok-push.ensures.items
    c.loop-one.invariant

pub returns-clause-meant : goal.returns-clause-meant
returns-clause-meant c =
    (listed_all parent_of parent_faults parent_meant parent_shown c.args.written.now c.loop-one.one-index c.loop-one.groups.items c.loop-one-test.false c.loop-one.invariant).same

pub returns-clause-none : goal.returns-clause-none
returns-clause-none c =
    (listed_all parent_of parent_faults parent_meant parent_shown c.args.written.now c.loop-one.one-index c.loop-one.groups.items c.loop-one-test.false c.loop-one.invariant).none
