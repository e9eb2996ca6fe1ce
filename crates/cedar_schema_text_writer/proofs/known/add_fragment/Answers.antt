use Rattle.std.proofs.Common.{Option, sym, subst}
use Rattle.cedar_name_resolution.specs.Words.{HoldsAlso, listed_names, names_together}
use Rattle.cedar_schema_ast.specs.Declaration.{raw_declarations}
use Rattle.cedar_ast.specs.Words.{PlainName}
use Rattle.cedar_schema_text_writer.proofs.NamesGiven.{also_same, bags_together, definition_bag, definition_names, fragment_names, names_all, names_more, names_none}
use Rattle.cedar_schema_text_writer.specs.Names.{names_of_bag}
use Rattle.cedar_schema_text_writer.proofs.known.add_fragment.Goals as goal

pub loop-namespace-init : goal.loop-namespace-init
loop-namespace-init c = names_none definition_names _ _ _ (sym c.into_iter-namespace-iterator.ensures.into_iter_gives.0)

pub loop-namespace-preserved : goal.loop-namespace-preserved
loop-namespace-preserved c =
    names_more definition_names (listed_names c.args.lists.now) _ _ c.next.new.self (listed_names c.loop-namespace.lists) (listed_names c.add_definition.new.lists)
    (c.in-Some.namespace.now, c.in-Some.it.now) c.in-Some.ensures.steps
    (subst (λ (namespace : Option PlainName). HoldsAlso (listed_names c.add_definition.new.lists) (listed_names c.loop-namespace.lists)
    (names_of_bag (raw_declarations namespace c.in-Some.it.now))) c.namespace_of.ensures c.in_ok-add_definition.ensures)
    c.loop-namespace.invariant

pub returns : goal.returns
returns c =
    let before = listed_names c.args.lists.now in
    let after = listed_names c.loop-namespace.lists in
    let entries = c.args.fragment.now.0.entries in
    also_same after before (names_together definition_names entries) (fragment_names c.args.fragment.now)
    (names_all definition_names before entries c.loop-namespace.namespace-iterator after c.in-None.ensures.steps.0 c.loop-namespace.invariant)
    (bags_together definition_bag entries)
