use Rattle.std.proofs.Common.{◌≡◌, IfOk, None, subst}
use Rattle.cedar_compare.proofs.scope.VersionsScope.existing.Goals as goal
use Rattle.cedar_compare.specs.Words.{Exists, HasUidOf, PlainName, old_of}

-- no uid of the type exists where none is found
pub returns-clause-none : goal.returns-clause-none
returns-clause-none c =
    let P : PlainName → Type 0 = λ n. IfOk c.some_existing.result (λ found. found ≡ None → ¬ HasUidOf (Exists (old_of c.args.self.now)) n) in
    subst P c.entity_type.ensures.name c.some_existing.ensures.none
