-- A search through chains of targets, in which numbers that reach one another are grouped.
use Rattle.std.specs.Prelude.{◌≡◌, ◌≢◌, ◌⊎◌, ◌+◌, ◌++◌, ◌<◌, ◌≤◌, ℕ, Bool, true, false, List, [], ◌∷◌, Vec, Contains, length, slice_index_or}
use Rattle.cedar_ast.specs.Chain.{Chain}
use Rattle.cedar_cycles.specs.declared.search.Group.{Group}
use Rattle.cedar_cycles.specs.declared.search.Mark.{Mark}
use Rattle.cedar_cycles.specs.declared.search.Mark.TheVariants.{Fresh, OnCycle, Open, Passed}
use Rattle.cedar_cycles.specs.declared.search.Search.{Search}
use Rattle.cedar_graph.specs.Numbered.{IsTarget}

-- the mark of a number, `Fresh` where it has none
abbrev pub mark_of : List Mark → ℕ → Mark
mark_of marks number = slice_index_or marks number Fresh

-- the number is gone through
abbrev pub IsDone : Mark → Type 0
IsDone Passed = Unit {0}
IsDone OnCycle = Unit {0}
IsDone _ = ⊥

-- the number was met
abbrev pub IsMet : List Mark → ℕ → Type 0
IsMet marks number = mark_of marks number ≢ Fresh

-- each number that was met still is
abbrev pub KeepsMet : List Mark → List Mark → Type 0
KeepsMet before after = (number : ℕ) → IsMet before number → IsMet after number

-- whether the mark is that of a number on a cycle
abbrev pub is_on_cycle : Mark → Bool
is_on_cycle OnCycle = true
is_on_cycle _ = false

-- the numbers on the path from a place on are on cycles, being more than one or having one that is
-- its own target; or it is one that isn't, and is on none
abbrev pub IsMarkOf : {Z : Type 0} → List (Vec ℕ Z) → List ℕ → ℕ → Mark → Type 0
IsMarkOf targets path start mark =
    ((mark ≡ OnCycle) × ((start + 1 < length path)
    ⊎ IsTarget targets (slice_index_or path start 0) (slice_index_or path start 0)))
    ⊎ ((mark ≡ Passed) × (length path ≡ start + 1)
    × ¬ IsTarget targets (slice_index_or path start 0) (slice_index_or path start 0))

-- the numbers on the path from a place on have the mark, and others keep theirs
pub record IsMarked (mark : Mark) (start : ℕ) (before after : List Mark) : Type 0 where
  pub len : length after ≡ length before
  pub inside : (number place : ℕ) → mark_of before number ≡ Open place → start ≤ place
      → mark_of after number ≡ mark
  pub outside : (number : ℕ)
      → ((place : ℕ) → mark_of before number ≡ Open place → place < start)
      → mark_of after number ≡ mark_of before number

-- it is the last of the groups
abbrev pub IsLast : List Group → Group → Type 0
IsLast groups group = (others : List Group) × (groups ≡ others ++ group ∷ [])

-- the one group begins before the other
abbrev pub IsBefore : Group → Group → Type 0
IsBefore group other = (group.path < other.path) × (group.pending ≤ other.pending)

-- each group begins before those after it
abbrev pub AreInOrder : List Group → Type 0
AreInOrder [] = Unit {0}
AreInOrder (group ∷ others) =
    ((other : Group) → Contains others other → IsBefore group other) × AreInOrder others

-- the number stands in the list, at this place or at a later one
abbrev pub StandsFrom : List ℕ → ℕ → ℕ → Type 0
StandsFrom numbers start number = (place : ℕ) × (start ≤ place) × (place < length numbers)
    × (slice_index_or numbers place 0 ≡ number)

-- the groups part the path, in order
pub record PartPath (path pending : List ℕ) (groups : List Group) : Type 0 where
  pub within : (group : Group) → Contains groups group
      → (group.path < length path) × (group.pending ≤ length pending)
  pub in_order : AreInOrder groups
  pub whole : (place : ℕ) → place < length path
      → (group : Group) × Contains groups group × (group.path ≤ place)

module _ {Z : Type 0} (targets : List (Vec ℕ Z)) where
  -- the one number is the other or reaches it
  abbrev pub IsOrReaches : ℕ → ℕ → Type 0
  IsOrReaches from to = (from ≡ to) ⊎ Chain (IsTarget targets) from to

  -- the number is a target of one on the path whose group is the last
  abbrev pub IsNext : List ℕ → List Group → ℕ → Type 0
  IsNext path groups number = (place : ℕ) × (place < length path)
      × IsTarget targets (slice_index_or path place 0) number
      × ((group : Group) → Contains groups group → group.path ≤ place)

  -- how far the search is: numbers on the path are open, those of a group reach one another and
  -- those of later groups, what is pending are their targets, what is left over being some more,
  -- and numbers that are done lead to such numbers and are marked as what they are
  pub record IsUnderWay (left : List ℕ) (marks : List Mark) (path pending : List ℕ)
      (groups : List Group) : Type 0 where
    pub len : length marks ≡ length targets
    pub opened : (place : ℕ) → place < length path
        → mark_of marks (slice_index_or path place 0) ≡ Open place
    pub on_path : (number place : ℕ) → mark_of marks number ≡ Open place
        → (place < length path) × (slice_index_or path place 0 ≡ number)
    pub parts : PartPath path pending groups
    pub passed : (number to : ℕ) → IsDone (mark_of marks number) → IsTarget targets number to
        → IsDone (mark_of marks to)
    pub sound : (number : ℕ) → mark_of marks number ≡ OnCycle
        → Chain (IsTarget targets) number number
    pub complete : (number : ℕ) → mark_of marks number ≡ Passed
        → ¬ Chain (IsTarget targets) number number
    pub reach : (i j : ℕ) → i < length path → j < length path
        → ((group : Group) → Contains groups group → group.path ≤ i → group.path ≤ j)
        → IsOrReaches (slice_index_or path i 0) (slice_index_or path j 0)
    pub source : (k : ℕ) → k < length pending → (i : ℕ) × (i < length path)
        × IsTarget targets (slice_index_or path i 0) (slice_index_or pending k 0)
        × ((group : Group) → Contains groups group
        → ((group.pending ≤ k → group.path ≤ i) × (group.path ≤ i → group.pending ≤ k)))
    pub explored : (group : Group) → Contains groups group → (i to : ℕ) → group.path ≤ i
        → i < length path → IsTarget targets (slice_index_or path i 0) to
        → IsDone (mark_of marks to)
        ⊎ (((place : ℕ) × (group.path ≤ place) × (mark_of marks to ≡ Open place))
        ⊎ (StandsFrom pending group.pending to ⊎ Contains left to))

  -- the same of a search
  abbrev pub IsSearching : List ℕ → Search → Type 0
  IsSearching left search = IsUnderWay left search.marks.items search.path.items
      search.pending.items search.groups.items

-- what it costs to enter a number with so many targets
abbrev pub cost : Mark → ℕ → ℕ
cost Fresh count = count + 1
cost _ count = 0

-- what it costs to enter the numbers that are fresh
abbrev pub fresh_cost : {Z : Type 0} → List Mark → List (Vec ℕ Z) → ℕ
fresh_cost [] targets = 0
fresh_cost (mark ∷ marks) [] = 0
fresh_cost (mark ∷ marks) (numbers ∷ targets) =
    cost mark (length numbers.items) + fresh_cost marks targets

-- how much is left to be done in a search
abbrev pub cost_left : {Z : Type 0} → List (Vec ℕ Z) → Search → ℕ
cost_left targets search = fresh_cost search.marks.items targets
    + length search.pending.items + length search.groups.items
