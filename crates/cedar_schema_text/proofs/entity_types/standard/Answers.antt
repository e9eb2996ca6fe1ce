use Rattle.std.proofs.Common.{◌++◌, map, option_map}
use Rattle.std.specs.List.{flat_map}
use Rattle.std.proofs.lemmas.Result.{err_from_is_err_and}
use Rattle.cedar_schema_grammar.specs.Plain.{path_of, type_of}
use Rattle.cedar_schema_text.proofs.Among.{among_left, among_right}
use Rattle.cedar_schema_text.specs.Faults.{if_there, name_faults, type_faults}
use Rattle.cedar_schema_text.proofs.entity_types.standard.Goals as goal

pub returns-in_err-member_of_types-clause-fault : goal.returns-in_err-member_of_types-clause-fault
returns-in_err-member_of_types-clause-fault c =
    let parents = map path_of c.args.parents.now in
    let shape = option_map type_of c.args.of_shape.now in
    let tags = option_map type_of c.args.of_tags.now in
    let e = c.in_err-member_of_types.field-0.0 in
    let p = err_from_is_err_and c.from_residual.result c.from_residual.ensures.1 in
    rw (p.1, p.2) (among_left ((flat_map name_faults parents) ++ (if_there type_faults shape)) (if_there type_faults tags) e (among_left (flat_map name_faults parents) (if_there type_faults shape) e c.in_err-member_of_types.ensures.fault))

pub returns-in_err-shape-clause-fault : goal.returns-in_err-shape-clause-fault
returns-in_err-shape-clause-fault c =
    let parents = map path_of c.args.parents.now in
    let shape = option_map type_of c.args.of_shape.now in
    let tags = option_map type_of c.args.of_tags.now in
    let e = c.in_err-shape.field-0.0 in
    let p = err_from_is_err_and c.from_residual-in_err-shape.result c.from_residual-in_err-shape.ensures.1 in
    rw (p.1, p.2) (among_left ((flat_map name_faults parents) ++ (if_there type_faults shape)) (if_there type_faults tags) e (among_right (flat_map name_faults parents) (if_there type_faults shape) e c.in_err-shape.ensures.fault))

pub returns-in_err-tags-clause-fault : goal.returns-in_err-tags-clause-fault
returns-in_err-tags-clause-fault c =
    let parents = map path_of c.args.parents.now in
    let shape = option_map type_of c.args.of_shape.now in
    let tags = option_map type_of c.args.of_tags.now in
    let e = c.in_err-tags.field-0.0 in
    let p = err_from_is_err_and c.from_residual-in_err-tags.result c.from_residual-in_err-tags.ensures.1 in
    rw (p.1, p.2) (among_right ((flat_map name_faults parents) ++ (if_there type_faults shape)) (if_there type_faults tags) e c.in_err-tags.ensures.fault)
