use Rattle.cedar_schema_laws.proofs.OrderLaws.{order_is_nothing}
use Rattle.cedar_schema_laws.proofs.theorems.order_is_nothing.Goals as goal

pub returns : goal.returns
returns c = order_is_nothing
