use Rattle.std.proofs.Common.{Option, drop, map}
use Rattle.cedar_places.proofs.place.first_place.Given as goal
use Rattle.cedar_places.specs.Words.{IsFirstPlace, IsSought, Loc, marked}

abbrev pub invariant-loop-it : goal.invariant-loop-it
invariant-loop-it l =
    (place : Option Loc) → IsFirstPlace (IsSought l.sought) (map marked (drop l.it-index l.places.0.items)) place
    → IsFirstPlace (IsSought l.sought) (map marked l.places.0.items) place
