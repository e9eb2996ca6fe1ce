use Rattle.std.proofs.Common.{ap, refl}
use Rattle.std.specs.Option.{option_map}
use Rattle.cedar_ast.specs.Words.{plain_name}
use Rattle.cedar_name_resolution.specs.Words.{held_names}
use Rattle.std.proofs.lemmas.Result.{err_from_is_err_and}
use Rattle.cedar_schema_text_writer.proofs.Checked.{nothing_left, nothing_next, refused_next}
use Rattle.cedar_schema_text_writer.specs.Flaws.{definition_flaw, namespaces_flaw}
use Rattle.cedar_schema_text_writer.specs.Names.{first_standing}
use Rattle.cedar_schema_text_writer.proofs.text.check_fragment.Goals as goal

pub loop-namespace-preserved : goal.loop-namespace-preserved
loop-namespace-preserved c =
    let first = first_standing (held_names c.args.known.now) in
    let found = namespaces_flaw first in
    nothing_next found (definition_flaw first (option_map plain_name c.in-Some.namespace.now) c.in-Some.it.now) c.args.fragment.now.0.entries
    c.loop-namespace.namespace-iterator c.next.new.self (ap found c.in-Some.ensures.steps) c.loop-namespace.invariant c.in_ok-check_definition.ensures

pub returns-in_err-check_definition : goal.returns-in_err-check_definition
returns-in_err-check_definition c =
    let p = err_from_is_err_and c.from_residual.result c.from_residual.ensures.1 in
    let first = first_standing (held_names c.args.known.now) in
    let found = namespaces_flaw first in
    rw (p.1, p.2)
    (refused_next found (definition_flaw first (option_map plain_name c.in-Some.namespace.now) c.in-Some.it.now) c.args.fragment.now.0.entries
    c.loop-namespace.namespace-iterator c.next.new.self (ap found c.in-Some.ensures.steps) c.loop-namespace.invariant
    c.in_err-check_definition.field-0.0 c.in_err-check_definition.ensures)

pub returns : goal.returns
returns c =
    nothing_left (namespaces_flaw (first_standing (held_names c.args.known.now))) c.args.fragment.now.0.entries c.loop-namespace.namespace-iterator
    c.loop-namespace.invariant c.in-None.ensures.steps.0 refl
