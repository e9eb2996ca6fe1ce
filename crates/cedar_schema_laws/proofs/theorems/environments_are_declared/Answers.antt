use Rattle.cedar_schema_laws.proofs.EnvironmentLaws.{environment_declared, declared_environment}
use Rattle.cedar_schema_laws.proofs.theorems.environments_are_declared.Goals as goal

pub returns : goal.returns
returns c bag extensions fit well schema declared it =
    (environment_declared bag extensions fit well schema declared it, declared_environment bag extensions fit well schema declared it)
