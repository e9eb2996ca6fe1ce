-- What names write to the hashers of tables.
use Rattle.std.proofs.Common.{◌≡◌, ◌∙◌, ◌++◌, [], ◌∷◌, ℕ, Bool, false, List, ap, cond, map, refl, sym}
use Rattle.std.proofs.Math.ListN.{length-map}
use Rattle.std.proofs.lemmas.List.Folds.{flat_map-map}
use Rattle.std.specs.Hash as fed
use Rattle.std.specs.Hash.{HashWrites, fed_then}
use Rattle.std.specs.List.{fold}
use Rattle.cedar_ast.specs.Words.{NameParts, Text, id_text, name_leading}
use Rattle.cedar_ast.specs.contracts.internal_name.NamePartsHash.TheImpl as name_parts_hash

-- the parts of a name write its base name and its path
pub parts_fed : (parts : NameParts) → (name_parts_hash.ghosts).hash_input parts
    ≡ fed.str (id_text parts.id) ++ fed.slice fed.str (map id_text parts.path.items)
parts_fed parts =
    let path = parts.path.items in
    sym (λ i. fed.str (id_text parts.id) ++ (fed.usize (length-map path id_text i) ++ flat_map-map fed.str id_text path i))

-- what a name begins with looks at no part of its path
pub name_leading-map : {X Y : Type 0} (f : X → Y) (base : Text) (path : List X) → name_leading base path ≡ name_leading base (map f path)
name_leading-map f base [] = refl
name_leading-map f base (part ∷ path) = refl

-- a number is written, and then what it doesn't tell
pub told_by_parts : {S : Type 0} (write : S → List ℕ → S) (before after last : S) (number leading : ℕ) (given rest : HashWrites)
    (whole : Bool) → after ≡ fold write before (fed.u64 number) → last ≡ fold write after given → number ≡ leading → given ≡ rest
    → whole ≡ false → last ≡ fold write before (fed.u64 leading ++ cond whole [] rest)
told_by_parts write before after last number leading given rest whole numbered hashed same parts lacks =
    fed_then write before after last (fed.u64 number) given numbered hashed
    ∙ ap (fold write before) (λ i. fed.u64 (same i) ++ (parts ∙ sym (ap (λ b. cond b [] rest) lacks)) i)
