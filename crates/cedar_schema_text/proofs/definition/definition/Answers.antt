use Rattle.std.proofs.Common.{◌++◌, map}
use Rattle.std.specs.List.{flat_map}
use Rattle.std.proofs.lemmas.Result.{err_from_is_err_and}
use Rattle.cedar_schema_text.proofs.Among.{among_left, among_right}
use Rattle.cedar_schema_text.specs.Faults.{actions_faults, commons_faults, entities_faults, noted_faults}
use Rattle.cedar_schema_text.specs.Here.{lent}
use Rattle.cedar_schema_text.specs.Meaning.{actions_in, commons_in, entities_in}
use Rattle.cedar_schema_text.proofs.definition.definition.Goals as goal

pub returns-in_err-check_noted-clause-fault : goal.returns-in_err-check_noted-clause-fault
returns-in_err-check_noted-clause-fault c =
    let ds = map lent c.args.declarations.now in
    let e = c.in_err-check_noted.field-0.0 in
    let p = err_from_is_err_and c.from_residual.result c.from_residual.ensures.1 in
    rw (p.1, p.2) (among_left (((flat_map noted_faults ds) ++ (commons_faults (commons_in ds))) ++ (entities_faults (entities_in ds))) (actions_faults (actions_in ds)) e (among_left ((flat_map noted_faults ds) ++ (commons_faults (commons_in ds))) (entities_faults (entities_in ds)) e (among_left (flat_map noted_faults ds) (commons_faults (commons_in ds)) e c.in_err-check_noted.ensures.fault)))

pub returns-in_err-common_types-clause-fault : goal.returns-in_err-common_types-clause-fault
returns-in_err-common_types-clause-fault c =
    let ds = map lent c.args.declarations.now in
    let e = c.in_err-common_types.field-0.0 in
    let p = err_from_is_err_and c.from_residual-in_err-common_types.result c.from_residual-in_err-common_types.ensures.1 in
    rw (p.1, p.2) (among_left (((flat_map noted_faults ds) ++ (commons_faults (commons_in ds))) ++ (entities_faults (entities_in ds))) (actions_faults (actions_in ds)) e (among_left ((flat_map noted_faults ds) ++ (commons_faults (commons_in ds))) (entities_faults (entities_in ds)) e (among_right (flat_map noted_faults ds) (commons_faults (commons_in ds)) e c.in_err-common_types.ensures.fault)))

pub returns-in_err-entity_types-clause-fault : goal.returns-in_err-entity_types-clause-fault
returns-in_err-entity_types-clause-fault c =
    let ds = map lent c.args.declarations.now in
    let e = c.in_err-entity_types.field-0.0 in
    let p = err_from_is_err_and c.from_residual-in_err-entity_types.result c.from_residual-in_err-entity_types.ensures.1 in
    rw (p.1, p.2) (among_left (((flat_map noted_faults ds) ++ (commons_faults (commons_in ds))) ++ (entities_faults (entities_in ds))) (actions_faults (actions_in ds)) e (among_right ((flat_map noted_faults ds) ++ (commons_faults (commons_in ds))) (entities_faults (entities_in ds)) e c.in_err-entity_types.ensures.fault))

pub returns-in_err-actions_of-clause-fault : goal.returns-in_err-actions_of-clause-fault
returns-in_err-actions_of-clause-fault c =
    let ds = map lent c.args.declarations.now in
    let e = c.in_err-actions_of.field-0.0 in
    let p = err_from_is_err_and c.from_residual-in_err-actions_of.result c.from_residual-in_err-actions_of.ensures.1 in
    rw (p.1, p.2) (among_right (((flat_map noted_faults ds) ++ (commons_faults (commons_in ds))) ++ (entities_faults (entities_in ds))) (actions_faults (actions_in ds)) e c.in_err-actions_of.ensures.fault)
