use Rattle.std.proofs.Common.{ap}
use Rattle.cedar_ast.proofs.Uids.{entity_uid_eq-same}
use Rattle.cedar_ast.proofs.entity_uid.EntityUIDQuickHash.quick_hash.Goals as goal
use Rattle.cedar_ast.specs.Words.{uid_input}

pub returns-clause-alike : goal.returns-clause-alike
returns-clause-alike g c other same = ap uid_input ((entity_uid_eq-same c.args.self.now other).0 same)
