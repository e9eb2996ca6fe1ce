use Rattle.std.proofs.Common.{◌≡◌, Bor, IfSome, List, [], ◌∷◌, None, Option, Some, map, refl, subst, sym}
use Rattle.std.specs.Option.{MatchOption}
use Rattle.cedar_compare.proofs.LostUidLemmas.{lost_at_first, uids_kept}
use Rattle.cedar_compare.proofs.scope.VersionsScope.lost.Goals as goal
use Rattle.cedar_compare.specs.Words.{EntityType, EntityUID, Exists, IsLostIn, KeepsUids, Versions, new_of, old_of, uid_of}

-- lists that are the same begin with the same
first_same : {A : Type 0} (one other : A) (xs ys : List A) → one ∷ xs ≡ other ∷ ys → one ≡ other
first_same one other xs ys same = cc

-- and one that has members isn't empty
not_empty : {A : Type 0} (one : A) (xs : List A) → ¬ (one ∷ xs ≡ [])
not_empty one xs same = cc

-- something isn't nothing
not_none : {A : Type 0} (one : A) → ¬ (Some one ≡ None)
not_none one same = cc

-- where nothing is kept, all uids are, and what is kept first is lost
told : (it : Versions) (o : Option (Bor EntityUID)) (entries : List (EntityType × EntityUID)) (rest : List EntityUID) → it.lost.entries ≡ entries
    → MatchOption o (map (λ (e : EntityType × EntityUID). e.1) entries ≡ [] × rest ≡ [])
    (λ uid. map (λ (e : EntityType × EntityUID). e.1) entries ≡ uid.now ∷ rest)
    → (o ≡ None → KeepsUids (Exists (old_of it)) (Exists (new_of it))) × IfSome o (λ uid. IsLostIn (old_of it) (new_of it) (uid_of uid.now))
told it None [] rest is steps = (λ _. uids_kept (old_of it) (new_of it) it.lost it.lost_ones is, tt)
told it None (first ∷ others) rest is steps =
    (λ _. absurd (not_empty first.1 (map (λ (e : EntityType × EntityUID). e.1) others) steps.0), tt)
told it (Some uid) [] rest is steps = absurd (not_empty uid.now rest (sym steps))
told it (Some uid) (first ∷ others) rest is steps = (
  λ wrong. absurd (not_none uid wrong),
  subst (λ (u : EntityUID). IsLostIn (old_of it) (new_of it) (uid_of u))
      (first_same first.1 uid.now (map (λ (e : EntityType × EntityUID). e.1) others) rest steps)
      (lost_at_first (old_of it) (new_of it) it.lost it.lost_ones first others is),
)

-- the uids that are kept are gone over
pub returns-clause-none : goal.returns-clause-none
returns-clause-none c =
    let P : List EntityUID → Type 0 = λ uids. MatchOption c.next.result (uids ≡ [] × c.next.new.self ≡ []) (λ uid. uids ≡ uid.now ∷ c.next.new.self) in
    (told c.args.self.now c.next.result c.args.self.now.lost.entries c.next.new.self refl (subst P c.values.ensures.rest c.next.ensures.steps)).0

pub returns-clause-some : goal.returns-clause-some
returns-clause-some c =
    let P : List EntityUID → Type 0 = λ uids. MatchOption c.next.result (uids ≡ [] × c.next.new.self ≡ []) (λ uid. uids ≡ uid.now ∷ c.next.new.self) in
    (told c.args.self.now c.next.result c.args.self.now.lost.entries c.next.new.self refl (subst P c.values.ensures.rest c.next.ensures.steps)).1
