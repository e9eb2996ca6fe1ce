use Rattle.cedar_schema.proofs.Comparisons.{namespaces-Decides, namespaces-hash}
use Rattle.cedar_schema.proofs.theorems.located_namespaces_compare_by_name.Goals as goal

pub returns-clause-equality : goal.returns-clause-equality
returns-clause-equality c = namespaces-Decides

pub returns-clause-hash : goal.returns-clause-hash
returns-clause-hash c = namespaces-hash
