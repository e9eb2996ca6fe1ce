use Rattle.cedar_schema_laws.proofs.SameBagLaws.{same_bags}
use Rattle.cedar_schema_laws.proofs.theorems.same_bags_declare_the_same.Goals as goal

pub returns : goal.returns
returns c = same_bags
