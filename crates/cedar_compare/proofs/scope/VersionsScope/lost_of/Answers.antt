use Rattle.std.proofs.Common.{◌≡◌, Bor, IfSome, None, Option, Some, ap, sym, ◌∙◌}
use Rattle.std.specs.Option.{option_copied, option_map}
use Rattle.cedar_compare.proofs.LostUidLemmas.{found_at, ids_kept, lost_there}
use Rattle.cedar_compare.proofs.scope.VersionsScope.lost_of.Goals as goal
use Rattle.cedar_compare.specs.Words.{EntityType, EntityUID, Exists, IsLostUidOf, Versions, new_of, old_of, type_name, uid_of, upper_at}

-- where nothing is kept under the type, its ids are kept
pub returns-clause-none : goal.returns-clause-none
returns-clause-none c = λ none.
    let it = c.args.self.now in
    let name = c.args.ty.now in
    let found : upper_at it.lost name ≡ option_map uid_of (option_copied c.get.result) =
    sym (found_at it.lost name) ∙ sym (ap (option_map uid_of) c.get.ensures.value) in
    ids_kept (old_of it) (new_of it) it.lost it.lost_ones name (found ∙ ap (λ (o : Option (Bor EntityUID)). option_map uid_of (option_copied o)) none)

-- what is kept under it is lost
shown : (it : Versions) (name : EntityType) (o : Option (Bor EntityUID)) → upper_at it.lost name ≡ option_map uid_of (option_copied o)
    → IfSome o (λ uid. IsLostUidOf (Exists (old_of it)) (Exists (new_of it)) (type_name name) (uid_of uid.now))
shown it name None found = tt
shown it name (Some uid) found = lost_there (old_of it) (new_of it) it.lost it.lost_ones name (uid_of uid.now) found

pub returns-clause-some : goal.returns-clause-some
returns-clause-some c =
    let it = c.args.self.now in
    let name = c.args.ty.now in
    shown it name c.get.result (sym (found_at it.lost name) ∙ sym (ap (option_map uid_of) c.get.ensures.value))
