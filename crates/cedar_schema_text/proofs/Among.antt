-- Faults that are among others.
use Rattle.std.proofs.Common.{◌≡◌, ℕ, zero, suc, ◌+◌, ◌<◌, List, [], ◌∷◌, ◌++◌, length, map, get_or, Bool, true, false, Contains, string_bytes, refl, ap, sym, subst, ◌∙◌, arith}
use Rattle.std.specs.List.{flat_map}
use Rattle.std.proofs.lemmas.List.{get_or-map, length-map}
use Rattle.std.proofs.lemmas.List.Elements.{Contains-append_left, Contains-append_right}
use Rattle.cedar_ast.specs.declared.loc.Loc.{Loc}
use Rattle.cedar_schema_text.specs.Faults.{Fault, IsAmong, lacking, reserved, twice, unless}
use Rattle.cedar_schema_text.specs.declared.fault.MeaningFault.{MeaningFault}
use Rattle.cedar_schema_text.specs.declared.fault.MeaningFault.TheVariants as fault
use Rattle.cedar_schema_text.specs.declared.fault.Missing.{Missing}
use Rattle.cedar_schema_text.specs.declared.fault.Twice.{Twice}

-- out of memory is no fault that is named
pub memory_among : (faults : List Fault) (e : MeaningFault) → e ≡ fault.Memory → IsAmong faults e
memory_among faults e is = rw is tt

-- a name that fails a test is at fault
pub reserved_among : (b : Bool) (loc : Loc) → b ≡ false → IsAmong (unless b (reserved loc)) (fault.Reserved loc)
reserved_among true loc e = absurd cc
reserved_among false loc e = (0, omega arith, refl)

-- a part that is absent is at fault
pub lacking_among : (which : Missing) (loc : Loc) → IsAmong (lacking which loc ∷ []) (fault.Missing which loc)
lacking_among which loc = (0, omega arith, refl)

-- a name that stands again is at fault
pub twice_among : (faults : List Fault) (it : Twice) → Contains faults (twice it.what (string_bytes it.name) it.first it.second) → IsAmong faults (fault.Twice it)
twice_among faults it there = there

-- what is among some faults is among these and others
pub among_left : (xs ys : List Fault) (e : MeaningFault) → IsAmong xs e → IsAmong (xs ++ ys) e
among_left xs ys (fault.Twice it) h = Contains-append_left xs ys (twice it.what (string_bytes it.name) it.first it.second) h
among_left xs ys (fault.Missing which loc) h = Contains-append_left xs ys (lacking which loc) h
among_left xs ys (fault.Reserved loc) h = Contains-append_left xs ys (reserved loc) h
among_left xs ys fault.Memory h = tt

pub among_right : (xs ys : List Fault) (e : MeaningFault) → IsAmong ys e → IsAmong (xs ++ ys) e
among_right xs ys (fault.Twice it) h = Contains-append_right xs ys (twice it.what (string_bytes it.name) it.first it.second) h
among_right xs ys (fault.Missing which loc) h = Contains-append_right xs ys (lacking which loc) h
among_right xs ys (fault.Reserved loc) h = Contains-append_right xs ys (reserved loc) h
among_right xs ys fault.Memory h = tt

module _ {A : Type 0} (f : A → List Fault) where
  -- a fault of one thing is among those of all
  pub among_item : (ps : List A) (i : ℕ) (p : A) (e : MeaningFault) → i < length ps → p ≡ get_or ps i p → IsAmong (f p) e
      → IsAmong (flat_map f ps) e
  among_item [] i p e lt is h = absurd (omega (arith, lt))
  among_item (q ∷ qs) zero p e lt is h = among_left (f q) (flat_map f qs) e (subst (λ x. IsAmong (f x) e) is h)
  among_item (q ∷ qs) (suc i) p e lt is h = among_right (f q) (flat_map f qs) e (among_item qs i p e (omega (arith, lt)) is h)

  -- the same of things that stand for these
  pub among_at : {X : Type 0} (v : X → A) (xs : List X) (i : ℕ) (x : X) (e : MeaningFault) → i < length xs → x ≡ get_or xs i x
      → IsAmong (f (v x)) e → IsAmong (flat_map f (map v xs)) e
  among_at v xs i x e lt is h =
      let within : i < length (map v xs) = rw length-map lt in
      among_item (map v xs) i (v x) e within (ap v is ∙ sym (get_or-map v xs i x (v x) lt)) h
