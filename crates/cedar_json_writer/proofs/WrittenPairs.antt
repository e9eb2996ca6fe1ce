-- What is written of values that stand under texts.
use Rattle.std.proofs.Common.{◌≡◌, List, [], ◌∷◌, ◌++◌, map, refl, ap, sym, subst, ◌∙◌}
use Rattle.std.specs.List.Sorted.{IsStrictlySortedBy}
use Rattle.cedar_json_writer.specs.Keyed.{SoundKeyed}
use Rattle.cedar_json_writer.specs.Words.{Each, Flaw, IsFlawOf, IsFree, SoundEntries, SoundPairs, SoundValue, Text, Tree, WriteFault, declared_flaws, entries_flaws, entries_from, entry_names, keyed_members, pairs_flaws, text_cmp, value_document, value_flaws, value_members}
use Rattle.json.specs.Json.{member}

-- values that stand under their texts are a record's
pub keyed-members : (pairs : List (Text × Tree)) → keyed_members (map (λ pair. (pair.0, value_document pair.1)) pairs) ≡ value_members (entries_from pairs)
unfolding value_document
keyed-members [] = refl
keyed-members (pair ∷ rest) = ap (member pair.0 (value_document pair.1)) (keyed-members rest)

pub keyed-flaws : (pairs : List (Text × Tree)) → declared_flaws value_flaws pairs ≡ entries_flaws (entries_from pairs)
unfolding value_flaws
keyed-flaws [] = refl
keyed-flaws (pair ∷ rest) = ap (λ flaws. value_flaws pair.1 ++ flaws) (keyed-flaws rest)

keyed-names : (pairs : List (Text × Tree)) → map (λ pair. pair.0) pairs ≡ entry_names (entries_from pairs)
keyed-names [] = refl
keyed-names (pair ∷ rest) = ap (λ names. pair.0 ∷ names) (keyed-names rest)

each_sound : (pairs : List (Text × Tree)) → Each (λ pair. SoundValue pair.1) pairs → SoundEntries (entries_from pairs)
unfolding SoundValue
each_sound [] is = tt
each_sound (pair ∷ rest) is = (is.0, each_sound rest is.1)

pub keyed_values_free : (pairs : List (Text × Tree))
    → IsFree (declared_flaws value_flaws pairs) (SoundKeyed text_cmp SoundValue pairs)
    → IsFree (pairs_flaws pairs) (SoundPairs pairs)
unfolding SoundValue
keyed_values_free pairs free = record {
  flawless = sym (keyed-flaws pairs) ∙ free.flawless;
  sound = (subst (IsStrictlySortedBy text_cmp) (keyed-names pairs) free.sound.in_order, each_sound pairs free.sound.each);
}

pub keyed_values_flaw : (pairs : List (Text × Tree)) (f : WriteFault) → IsFlawOf (declared_flaws value_flaws pairs) f → IsFlawOf (pairs_flaws pairs) f
keyed_values_flaw pairs f flawed = subst (λ (flaws : List Flaw). IsFlawOf flaws f) (keyed-flaws pairs) flawed
