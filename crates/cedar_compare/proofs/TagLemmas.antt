-- Tags of two types.
use Rattle.std.proofs.Common.{◌≡◌, ◌↔◌, Bool, true, false, if◌then◌else◌, Option, Some, None, Result, Ok, Err, IfOk, IfSome, [], refl, subst, ◌∙◌, Contains}
use Rattle.std.proofs.lemmas.Option.{same_Some}
use Rattle.std.specs.Option.{option_map}
use Rattle.std.specs.Str.{bytes_eq}
use Rattle.cedar_compare.specs.Words.{AreEntries, AreTagsIn, AreTagsOf, Entries, Exists, Extensions, Has, IncludedBetween, IsOutsideBetween, IsTagOutside, IsValue, Memory, NamesOnly, OutsideBetween, PlainSchema, PlainUid, Text, Tree, Ty, ValuesKept, between_of, entry, entry_at, entry_names, map_value, no_entry, one_tag}
use Rattle.cedar_entities.specs.Naming.{EntriesNameOnly}
use Rattle.cedar_type_rules.proofs.SampleValues.{entry_here, entry_named, entry_there}

-- a value of a real record is real
pub real_at : (entries : Entries) (name : Text) (value : Tree) → AreEntries entries → entry_at name entries ≡ Some value → IsValue value
real_at no_entry name value real found = let wrong : None ≡ Some value = found in absurd cc
real_at (entry other first rest) name value real found = here (bytes_eq name other) (real_at rest name value real.2) found
  where
    here : (b : Bool) → (entry_at name rest ≡ Some value → IsValue value) → (if b then Some first else entry_at name rest) ≡ Some value → IsValue value
    here true later is = subst IsValue (same_Some first value is) real.1
    here false later is = later is

-- one tag has a type where its value has
pub one_tag_of : (extensions : Extensions) (ty : Ty) (value : Tree) → Has extensions value ty → AreTagsOf extensions (Some ty) (one_tag value)
one_tag_of extensions ty value has name found at = here (bytes_eq name []) at
  where
    here : (b : Bool) → (if b then Some value else None) ≡ Some found → Has extensions found ty
    here true is = subst (λ v. Has extensions v ty) (same_Some value found is) has
    here false is = let wrong : None ≡ Some found = is in absurd cc

-- and its value has where it has
pub of_one_tag : (extensions : Extensions) (ty : Ty) (value : Tree) → AreTagsOf extensions (Some ty) (one_tag value) → Has extensions value ty
of_one_tag extensions ty value of = of [] value refl

-- what is named at a name of a record is named in it
only_at : (Is : PlainUid → Type 0) (entries : Entries) (name : Text) (value : Tree) → EntriesNameOnly Is entries
    → entry_at name entries ≡ Some value → NamesOnly Is value
only_at Is no_entry name value only found = let wrong : None ≡ Some value = found in absurd cc
only_at Is (entry other first rest) name value only found = here (bytes_eq name other) (only_at Is rest name value only.1) found
  where
    here : (b : Bool) → (entry_at name rest ≡ Some value → NamesOnly Is value) → (if b then Some first else entry_at name rest) ≡ Some value
        → NamesOnly Is value
    here true later is = subst (NamesOnly Is) (same_Some first value is) only.0
    here false later is = later is

module _ (extensions : Extensions) (Old New : PlainUid → Type 0) (lower upper : Ty) (kept : ValuesKept extensions Old New lower upper) where
  -- where values of a type are kept, what tags of it name is
  only_kept : (part whole : Entries) → AreEntries part → ((n : Text) (v : Tree) → entry_at n part ≡ Some v → entry_at n whole ≡ Some v)
      → AreTagsOf extensions (Some lower) whole → EntriesNameOnly Old part → EntriesNameOnly New part
  only_kept no_entry whole real within of old = tt
  only_kept (entry name value rest) whole real within of old = (
    (kept value real.1 (of name value (within name value (entry_here name name value rest refl))) old.0).1,
    only_kept rest whole real.2
        (λ n v found. within n v (entry_there n name value rest (λ same. real.3 (subst (Contains (entry_names rest)) same (entry_named n rest v found))) ∙ found))
        of old.1,
  )

-- where values of a type are kept, tags of it are
tags_kept : (extensions : Extensions) (old new : PlainSchema) (lower upper : Ty) (tags : Entries) → IncludedBetween extensions old lower new upper
    → IsValue (map_value tags) → AreTagsIn extensions old (Some lower) tags → AreTagsIn extensions new (Some upper) tags
tags_kept extensions old new lower upper tags kept real of = (
  λ name value at. (kept value (real_at tags name value real at) (of.0 name value at) (only_at (Exists old) tags name value of.1 at)).0,
  only_kept extensions (Exists old) (Exists new) lower upper kept tags tags real (λ n v found. found) of.0 of.1,
)

-- what is found of two types is found of tags of them
pub tags_found : (extensions : Extensions) (old new : PlainSchema) (tags others : Option Ty) (lower upper : Ty) → Some lower ≡ tags
    → Some upper ≡ others → (found : Option OutsideBetween)
    → ((found ≡ None) ↔ IncludedBetween extensions old lower new upper)
    → IfSome found (λ it. IsOutsideBetween extensions (Exists old) (Exists new) lower upper (between_of it))
    → IsTagOutside extensions old new tags others (option_map between_of found)
tags_found extensions old new tags others lower upper is is' found none some =
    subst (λ o. IsTagOutside extensions old new o others (option_map between_of found)) is
    (subst (λ o. IsTagOutside extensions old new (Some lower) o (option_map between_of found)) is' (cases found none some))
  where
    cases : (found : Option OutsideBetween) → ((found ≡ None) ↔ IncludedBetween extensions old lower new upper)
        → IfSome found (λ it. IsOutsideBetween extensions (Exists old) (Exists new) lower upper (between_of it))
        → IsTagOutside extensions old new (Some lower) (Some upper) (option_map between_of found)
    cases None none some = λ tags real of. tags_kept extensions old new lower upper tags (none.0 refl) real of
    cases (Some it) none some = (
      some.real,
      (one_tag_of extensions lower (between_of it).value some.has, (some.exists, tt)),
      λ (of, names). some.lacks (of_one_tag extensions upper (between_of it).value of, names.0),
      some.apart,
    )

-- the same of the answer of a search
pub tags_answered : (extensions : Extensions) (old new : PlainSchema) (tags others : Option Ty) (lower upper : Ty) → Some lower ≡ tags
    → Some upper ≡ others → (answer : Result (Option OutsideBetween) Memory)
    → IfOk answer (λ found. (found ≡ None) ↔ IncludedBetween extensions old lower new upper)
    → IfOk answer (λ found. IfSome found (λ it. IsOutsideBetween extensions (Exists old) (Exists new) lower upper (between_of it)))
    → IfOk answer (λ found. IsTagOutside extensions old new tags others (option_map between_of found))
tags_answered extensions old new tags others lower upper is is' (Ok found) none some =
    tags_found extensions old new tags others lower upper is is' found none some
tags_answered extensions old new tags others lower upper is is' (Err refused) none some = tt
