use Rattle.cedar_ast.proofs.Ordered.{IsStrictlySortedBy-map}
use Rattle.cedar_ast.proofs.Uids.{entity_uid_ord-uid_cmp}
use Rattle.cedar_ast.proofs.entity.Entity.ancestors.Goals as goal
use Rattle.cedar_ast.specs.Words.{uid_cmp, uid_of}

pub returns-clause-ordered : goal.returns-clause-ordered
returns-clause-ordered c =
    IsStrictlySortedBy-map _ uid_cmp uid_of entity_uid_ord-uid_cmp c.args.self.now.ancestors.keys c.iter.ensures.ordered
