use Rattle.std.proofs.Common.{[], ap, ◌∙◌, ◌≡◌}
use Rattle.cedar_ast.proofs.ValueCopies.{uid_real}
use Rattle.cedar_counterexample.proofs.NamingLemmas.{naming_in_set}
use Rattle.cedar_counterexample.proofs.naming.naming_any_set.Goals as goal
use Rattle.cedar_counterexample.specs.Words.{PlainNaming, naming_of, no_tree, set_value, tree, tree_of, uid_of, uid_value}

-- the set of the uid names it
pub returns-in_ok-naming_here-in-Some : goal.returns-in_ok-naming_here-in-Some
returns-in_ok-naming_here-in-Some g c = λ extensions.
    let uid = uid_of c.in-Some.uid.now in
    let set : tree_of c.in_ok-set-in-Some.set ≡ set_value (tree (uid_value uid) no_tree) =
    c.in_ok-set-in-Some.ensures ∙ ap (λ value. set_value (tree value no_tree)) c.in_ok-uid_expr-in-Some.ensures in
    rw (c.in_ok-naming_here-in-Some.ensures, set)
    (naming_in_set extensions (g.S.Scope.ExistsInOld c.args.scope.now) (g.S.Scope.ExistsInNew c.args.scope.now) uid
    (uid_real c.in-Some.uid.now) c.in-Some.ensures.some)
