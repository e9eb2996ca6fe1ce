use Rattle.std.proofs.Common.{◌++◌, map, ap, ◌∙◌}
use Rattle.std.proofs.lemmas.Result.{err_from_is_err_and}
use Rattle.cedar_schema_grammar.specs.Plain.{member_of}
use Rattle.cedar_schema_text.proofs.Among.{among_left, among_right}
use Rattle.cedar_schema_text.specs.Faults.{blocks_faults, definition_faults}
use Rattle.cedar_schema_text.specs.Meaning.{alone_in, block_meant, blocks_in, in_order, namespace_cmp}
use Rattle.cedar_schema_text.proofs.meaning.fragment_of.Goals as goal

pub returns-in_err-definitions-clause-fault : goal.returns-in_err-definitions-clause-fault
returns-in_err-definitions-clause-fault c =
    let ms = map member_of c.args.members.now in
    let e = c.in_err-definitions.field-0.0 in
    let p = err_from_is_err_and c.from_residual.result c.from_residual.ensures.1 in
    rw (p.1, p.2) (among_left (blocks_faults (blocks_in ms)) ((definition_faults (alone_in ms))) e c.in_err-definitions.ensures.fault)

pub returns-in_err-empty-clause-fault : goal.returns-in_err-empty-clause-fault
returns-in_err-empty-clause-fault c =
    let ms = map member_of c.args.members.now in
    let e = c.in_err-empty.field-0.0 in
    let p = err_from_is_err_and c.from_residual-in_err-empty.result c.from_residual-in_err-empty.ensures.1 in
    rw (p.1, p.2) (among_right (blocks_faults (blocks_in ms)) ((definition_faults (alone_in ms))) e c.in_err-empty.ensures.fault)

-- the fragment has the blocks, and the empty namespace behind them
pub returns-clause-meant : goal.returns-clause-meant
returns-clause-meant c =
    let ms = map member_of c.args.members.now in
    let before = map block_meant (blocks_in ms) in
    c.in_ok-with_empty.ensures before c.in_ok-definitions.ensures.meant
    ∙ ap (λ more. in_order namespace_cmp (before ++ more)) c.in_ok-empty.ensures.meant
