use Rattle.std.specs.Iterator.{Drains}
use Rattle.std.specs.Prelude.{List, Option}

-- a value became an iterator that gave some items and then ended, and the property holds of all
-- that it gave, in order
abbrev pub HoldsOfAll : {U S T : Type 0} → (U → S → Type 0) → (S → Option T → S → Type 0) → U
    → (List T → Type 0) → Type 0
HoldsOfAll {S = S} {T = T} becomes steps value P =
    (it : S) × (xs : List T) × becomes value it × Drains steps it xs × P xs
