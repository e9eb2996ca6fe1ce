-- Where the keys of every schema were written.
use Rattle.std.proofs.Common.{◌≡◌, ◌∙◌, ◌∷◌, [], Contains, IfOk, List, Result, arith, map, refl}
use Rattle.std.proofs.lemmas.List.Elements.{Contains-append_right}
use Rattle.std.proofs.lemmas.Result.{IfOk-weaker}
use Rattle.std.proofs.lemmas.Simd.{map-map}
use Rattle.cedar_schema.specs.Words.{AreKeysLocated, ValidatorSchema, action_entries, schema_entries}

-- they were written where the names and uids of their values were
pub keys_located : (schema : ValidatorSchema) → AreKeysLocated (schema_entries schema) (action_entries schema)
keys_located schema = record { of_types = schema.content.types_located; of_actions = schema.content.actions_located }

-- so of each schema that a call gives
pub keys_given : {E : Type 0} (P : ValidatorSchema → Type 0) (answer : Result ValidatorSchema E) → IfOk answer P
    → IfOk answer (λ schema. AreKeysLocated (schema_entries schema) (action_entries schema))
keys_given P answer given =
    IfOk-weaker answer P (λ schema. AreKeysLocated (schema_entries schema) (action_entries schema)) (λ schema held. keys_located schema) given

-- what two functions make of a list is the same where they agree on each item
pub agreed : {A B : Type 0} (f g : A → B) (xs : List A) → ((x : A) → Contains xs x → f x ≡ g x) → map f xs ≡ map g xs
agreed f g [] same = refl
agreed f g (x ∷ xs) same =
    let rest = agreed f g xs (λ y among. same y (Contains-append_right (x ∷ []) xs y among)) in
    λ i. same x (0, omega arith, refl) i ∷ rest i

-- the same where the one first takes something out of each item
pub agreed_on : {A K B : Type 0} (out : A → K) (f : K → B) (g : A → B) (xs : List A) → ((x : A) → Contains xs x → f (out x) ≡ g x)
    → map f (map out xs) ≡ map g xs
agreed_on out f g xs same = map-map f out xs ∙ agreed (λ x. f (out x)) g xs same
