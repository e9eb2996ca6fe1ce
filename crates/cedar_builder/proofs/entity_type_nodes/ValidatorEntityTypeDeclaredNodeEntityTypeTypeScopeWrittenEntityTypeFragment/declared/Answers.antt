use Rattle.std.proofs.Common.{◌≡◌, rules}
use Rattle.cedar_builder.proofs.entity_type_nodes.ValidatorEntityTypeDeclaredNodeEntityTypeTypeScopeWrittenEntityTypeFragment.declared.Goals as goal
use Rattle.cedar_builder.specs.Words.{namespace_name, written_namespace}

pub returns-clause-fault : goal.returns-clause-fault
returns-clause-fault g c =
    let same : namespace_name c.as_ref.result ≡ written_namespace c.args.fragment = search (rules, c.as_ref.ensures.value) in
    rw same at c.elaborated_type.ensures.fault
