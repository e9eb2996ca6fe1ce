use Rattle.std.proofs.Common.{◌≡◌}
use Rattle.cedar_name_resolution.specs.Words.{held_names}
use Rattle.cedar_schema_text_writer.specs.Flaws.{namespaces_flaw}
use Rattle.cedar_schema_text_writer.specs.Names.{first_standing}
use Rattle.cedar_schema_text_writer.proofs.text.check_fragment.Given as goal

abbrev pub invariant-loop-namespace : goal.invariant-loop-namespace
invariant-loop-namespace l =
    let found = namespaces_flaw (first_standing (held_names l.known)) in
    found l.namespace-iterator ≡ found l.fragment.0.entries
