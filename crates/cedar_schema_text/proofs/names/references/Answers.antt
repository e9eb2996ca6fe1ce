use Rattle.std.proofs.lemmas.Result.{err_from_is_err_and}
use Rattle.cedar_schema_grammar.specs.Plain.{path_of}
use Rattle.cedar_schema_text.proofs.Among.{among_at}
use Rattle.cedar_schema_text.proofs.SoFar.{listed_all, listed_more, listed_none}
use Rattle.cedar_schema_text.specs.Faults.{name_faults}
use Rattle.cedar_schema_text.specs.Meaning.{name_meant}
use Rattle.cedar_schema_text.specs.Shown.{name_shown}
use Rattle.cedar_schema_text.proofs.names.references.Goals as goal

pub loop-path-init : goal.loop-path-init
loop-path-init c = listed_none path_of name_faults name_meant name_shown c.in_ok-names.names.items c.in_ok-names.ensures.items

-- a fault of one is among those of all
pub returns-in_err-reference-clause-fault : goal.returns-in_err-reference-clause-fault
returns-in_err-reference-clause-fault c =
    let p = err_from_is_err_and c.from_residual-in_err-reference.result c.from_residual-in_err-reference.ensures.1 in
    rw (p.1, p.2) (among_at name_faults path_of c.args.paths.now c.loop-path.path-index c.path-item.result c.in_err-reference.field-0.0 c.loop-path-test.true
    c.path-item.is c.in_err-reference.ensures.fault)

pub loop-path-preserved : goal.loop-path-preserved
loop-path-preserved c =
    listed_more path_of name_faults name_meant name_shown c.args.paths.now c.loop-path.path-index c.path-item.result c.loop-path.names.items c.push.new.self.items
    c.in_ok-reference.field-0 c.loop-path-test.true c.path-item.is c.in_ok-reference.ensures.none c.in_ok-reference.ensures.meant c.in_ok-push.ensures.items
    c.loop-path.invariant

pub returns-clause-meant : goal.returns-clause-meant
returns-clause-meant c =
    (listed_all path_of name_faults name_meant name_shown c.args.paths.now c.loop-path.path-index c.loop-path.names.items c.loop-path-test.false c.loop-path.invariant).same

pub returns-clause-none : goal.returns-clause-none
returns-clause-none c =
    (listed_all path_of name_faults name_meant name_shown c.args.paths.now c.loop-path.path-index c.loop-path.names.items c.loop-path-test.false c.loop-path.invariant).none
