use Rattle.cedar_types.proofs.OrderLaws.{types_compare, attributes_compare, attribute_compare}
use Rattle.cedar_types.proofs.theorems.types_compare_by_what_they_stand_for.Goals as goal

pub returns-clause-types : goal.returns-clause-types
returns-clause-types c = types_compare

pub returns-clause-attributes : goal.returns-clause-attributes
returns-clause-attributes c = attributes_compare

pub returns-clause-attribute : goal.returns-clause-attribute
returns-clause-attribute c = attribute_compare
