use Rattle.cedar_ast.proofs.ValueCopies.{uid_real}
use Rattle.cedar_counterexample.proofs.NamingLemmas.{naming_uid}
use Rattle.cedar_counterexample.proofs.naming.naming_entity.Goals as goal
use Rattle.cedar_counterexample.specs.Words.{kind_ty, uid_of}

-- the uid names itself
pub returns-in_ok-naming_here-in-Some : goal.returns-in_ok-naming_here-in-Some
returns-in_ok-naming_here-in-Some g c = λ extensions.
    rw (c.in_ok-naming_here-in-Some.ensures, c.in_ok-uid_expr-in-Some.ensures)
    (naming_uid extensions (g.S.Scope.ExistsInOld c.args.scope.now) (g.S.Scope.ExistsInNew c.args.scope.now) (kind_ty c.args.kind.now)
    (uid_of c.in-Some.uid.now) (uid_real c.in-Some.uid.now) c.in-Some.ensures.of c.in-Some.ensures.lost)
