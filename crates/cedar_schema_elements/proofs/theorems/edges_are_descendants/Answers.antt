use Rattle.cedar_schema_elements.proofs.SetLemmas.{list_any-uids}
use Rattle.cedar_schema_elements.proofs.theorems.edges_are_descendants.Goals as goal

pub returns : goal.returns
returns c = λ node key. list_any-uids key node.parts.value.descendants.keys
