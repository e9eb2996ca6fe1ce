use Rattle.std.proofs.Common.{◌≡◌, None, Option, Some, ap, subst, sym, ◌∙◌}
use Rattle.std.proofs.lemmas.Bool.{false≢true}
use Rattle.std.specs.Option.{option_map}
use Rattle.cedar_compare.proofs.LostUidLemmas.{found_at, outside_there}
use Rattle.cedar_compare.proofs.requests.lost_uid.Goals as goal
use Rattle.cedar_compare.specs.Words.{IsUidOutside, PlainUid, new_of, old_of, type_name, uid_of, upper_at}

-- what is kept under the type is a uid that is lost
pub returns-in_ok-clone-in-Some : goal.returns-in_ok-clone-in-Some
returns-in_ok-clone-in-Some c =
    let versions = c.args.versions.now in
    let name = c.args.name.now in
    let P : Option PlainUid → Type 0 = IsUidOutside (old_of versions) (new_of versions) (type_name name) in
    let found : upper_at versions.lost name ≡ Some (uid_of c.in-Some.uid.now) =
    sym (found_at versions.lost name) ∙ sym (ap (option_map uid_of) c.in-Some.ensures.value) in
    let copied : Some (uid_of c.in-Some.uid.now) ≡ Some (uid_of c.in_ok-clone-in-Some.field-0) = ap (λ u. Some u) (sym c.in_ok-clone-in-Some.ensures.uid) in
    subst P (found ∙ copied) (outside_there (old_of versions) (new_of versions) versions.lost versions.lost_ones name
    (λ of_actions. false≢true (sym c.if-is_action.false ∙ c.is_action.ensures.1 of_actions)))

-- where nothing is kept, none is
pub returns-in-None : goal.returns-in-None
returns-in-None c =
    let versions = c.args.versions.now in
    let name = c.args.name.now in
    let P : Option PlainUid → Type 0 = IsUidOutside (old_of versions) (new_of versions) (type_name name) in
    let found : upper_at versions.lost name ≡ None = sym (found_at versions.lost name) ∙ sym (ap (option_map uid_of) c.in-None.ensures.value) in
    subst P found (outside_there (old_of versions) (new_of versions) versions.lost versions.lost_ones name
    (λ of_actions. false≢true (sym c.if-is_action.false ∙ c.is_action.ensures.1 of_actions)))
