use Rattle.std.proofs.Common.{Option, sym}
use Rattle.std.proofs.lemmas.List.Elements.{All-nil}
use Rattle.std.specs.BTreeMap.{is_at}
use Rattle.std.specs.Option.{option_cmp}
use Rattle.cedar_ast.specs.contracts.name.NameOrd.TheImpl as name_ord
use Rattle.cedar_schema_writer.proofs.DefinitionLemmas.{given_removed, namespace_tie, value_found, values_left}
use Rattle.cedar_schema_writer.proofs.definitions.take_definition.Goals as goal
use Rattle.cedar_schema_writer.specs.Words.{AppliesIfDefined, IsProper, Name, NamespaceDefinition, RawName, plain_namespace, raw_declarations}

-- the definition of the namespace is taken from the others
pub returns-in-Some-clause-taken : goal.returns-in-Some-clause-taken
returns-in-Some-clause-taken c =
    let all = c.args.definitions.now.entries in
    let definition = c.in-Some.definition in
    let removed = given_removed (λ (entry : Option Name × NamespaceDefinition RawName). raw_declarations (plain_namespace entry.0) entry.1)
    (is_at (option_cmp ((name_ord.ghosts).cmp) c.args.namespace.now)) all definition (sym c.in-Some.ensures.value) in
    rw c.in-Some.ensures.entries (rw (namespace_tie c.args.namespace.now removed.0 removed.1) at removed.2)

-- it is proper, and so are those that are left
pub returns-in-Some-clause-proper : goal.returns-in-Some-clause-proper
returns-in-Some-clause-proper c = λ all.
    let test = is_at (option_cmp ((name_ord.ghosts).cmp) c.args.namespace.now) in
    let entries = c.args.definitions.now.entries in (
      (value_found IsProper test entries c.in-Some.definition (sym c.in-Some.ensures.value) all).applies,
      rw c.in-Some.ensures.entries (values_left IsProper test entries all),
    )

-- an empty definition is proper
pub returns-in-None-clause-proper : goal.returns-in-None-clause-proper
returns-in-None-clause-proper c = λ all.
    let test = is_at (option_cmp ((name_ord.ghosts).cmp) c.args.namespace.now) in
    let entries = c.args.definitions.now.entries in (
      rw c.new-in-None-2.ensures.empty (All-nil AppliesIfDefined),
      rw c.in-None.ensures.entries (values_left IsProper test entries all),
    )
