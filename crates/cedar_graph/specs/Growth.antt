-- Nodes that gain edges, and stay as they were but for them.
use Rattle.std.specs.Prelude.{◌⊎◌, Bool, IsTrue, Option, None, Some}

module _ {K V : Type 0} (has_edge : V → K → Bool) (is_alike : V → V → Type 0) where
  -- the new node has each edge of the old, each other edge goes to a key to which one may go, and
  -- the two are alike but for edges
  pub record GrowsBy (old new : V) (May : K → Type 0) : Type 0 where
    pub old_stay : (to : K) → IsTrue (has_edge old to) → IsTrue (has_edge new to)
    pub sound : (to : K) → IsTrue (has_edge new to) → IsTrue (has_edge old to) ⊎ May to
    pub alike : is_alike old new

module _ {K V : Type 0} (has_edge : V → K → Bool) (is_alike : V → V → Type 0) where
  -- the same of what stands at a key before and after: a node stays a node, and none stays none
  abbrev pub GrowsAt : Option V → Option V → (K → Type 0) → Type 0
  GrowsAt None None May = Unit {0}
  GrowsAt None (Some new) May = ⊥
  GrowsAt (Some old) None May = ⊥
  GrowsAt (Some old) (Some new) May = GrowsBy has_edge is_alike old new May
