-- What is listed in a table that is being made.
use Rattle.std.proofs.Common.{◌≡◌, List, [], ◌∷◌, ◌++◌, false, map, Result, Ok, Err, true, IfOk, MatchResult, append_assoc, ap, subst, sym, ◌∙◌}
use Rattle.std.proofs.lemmas.Bool.{false≢true}
use Rattle.cedar_ast.specs.declared.memory.Memory.{Memory}
use Rattle.cedar_places.proofs.InTurn.{IsListing, IsListing-done, IsListing-next}
use Rattle.cedar_places.specs.Words.{IsListed, Marked, Marks, WrittenAt, marked}
use Rattle.cedar_places.specs.declared.table.Table.{Table}

-- what is listed one after the other is listed together
pub listed_in_turn : (one other : Marks) (before between after : Table) → IsListed one before between → IsListed other between after
    → IsListed (one ++ other) before after
listed_in_turn one other before between after first second suffices =
    let later = second suffices in
    let earlier = first later.0 in
    (earlier.0, later.1 ∙ ap (λ marks. marks ++ other) earlier.1 ∙ append_assoc (map marked before.listed.items) one other)

-- what was made and listed is listed by its mark
pub listed_made : (made : Result WrittenAt Memory) (mark : Marked) (before after : Table) → IfOk made (λ it. marked it ≡ mark)
    → MatchResult made (λ it. IsListed (marked it ∷ []) before after) (λ _. after.is_refused ≡ true) → IsListed (mark ∷ []) before after
listed_made (Ok it) mark before after is listed suffices = subst (λ m. IsListed (m ∷ []) before after) is listed suffices
listed_made (Err refusal) mark before after is refused suffices = absurd (false≢true (sym suffices ∙ refused))

module _ {X : Type 0} (f : X → Marks) (before : Table) (whole : Marks) where
  -- unless memory ran out, what is listed and what the entries that are left give are what was and
  -- the whole
  abbrev pub IsUnderWay : Table → List X → Type 0
  IsUnderWay now left = now.is_refused ≡ false → (before.is_refused ≡ false)
      × IsListing f (map marked now.listed.items) left (map marked before.listed.items ++ whole)

  -- once an entry's part is listed, the others are left
  pub IsUnderWay-next : (now new : Table) (entry : X) (left rest : List X) → left ≡ entry ∷ rest → IsListed (f entry) now new
      → IsUnderWay now left → IsUnderWay new rest
  IsUnderWay-next now new entry left rest is listed so_far suffices =
      let more = listed suffices in
      let earlier = so_far more.0 in (
        earlier.0,
        IsListing-next f (map marked now.listed.items) (map marked new.listed.items) (map marked before.listed.items ++ whole) entry left rest is
            more.1 earlier.1,
      )

  -- once no entry is left, the whole is listed
  pub IsUnderWay-done : (now : Table) (left : List X) → left ≡ [] → IsUnderWay now left → IsListed whole before now
  IsUnderWay-done now left none so_far suffices =
      let all = so_far suffices in
      (all.0, IsListing-done f (map marked now.listed.items) (map marked before.listed.items ++ whole) left none all.1)
