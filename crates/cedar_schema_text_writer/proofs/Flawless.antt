-- Declarations in which nothing is found that can't be written.
use Rattle.std.proofs.Common.{◌≡◌, List, [], ◌∷◌, Option, Some, None, refl}
use Rattle.std.specs.List.{AllByRecursion}
use Rattle.std.specs.Option.{option_or}
use Rattle.cedar_ast.specs.Words.{PlainName}
use Rattle.cedar_schema_text_writer.specs.Flaws.{Id, declared_flaw, found_in}
use Rattle.cedar_schema_text_writer.specs.declared.stop.Flaw.{Flaw}

-- where neither of two is there, each isn't
pub neither : {A : Type 0} (one other : Option A) → option_or one other ≡ None → (one ≡ None) × (other ≡ None)
neither None other none = (refl, none)
neither (Some it) other none = absurd cc

nothing_found : (namespace : Option PlainName) (id : Id) (flaw : Option Flaw) → found_in namespace id flaw ≡ None → flaw ≡ None
nothing_found namespace id None none = refl
nothing_found namespace id (Some it) none = absurd cc

-- where nothing is found in declarations, nothing is in each
pub each_flawless : {K T : Type 0} (namespace : Option PlainName) (id : K → Id) (flaw : T → Option Flaw) (entries : List (K × T))
    → declared_flaw namespace id flaw entries ≡ None → AllByRecursion (λ entry. flaw entry.1 ≡ None) entries
each_flawless namespace id flaw [] none = tt
each_flawless namespace id flaw (entry ∷ rest) none =
    let parts = neither (found_in namespace (id entry.0) (flaw entry.1)) (declared_flaw namespace id flaw rest) none in
    (nothing_found namespace (id entry.0) (flaw entry.1) parts.0, each_flawless namespace id flaw rest parts.1)
