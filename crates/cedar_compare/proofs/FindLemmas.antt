-- What is found of a name or of a uid.
use Rattle.std.proofs.Common.{◌≡◌, Bool, true, false, List, [], ◌∷◌, Option, Some, None, IsTrue, not, refl, ap, subst, ◌∙◌, map, Contains}
use Rattle.std.proofs.lemmas.Bool.{false≢true}
use Rattle.cedar_compare.specs.Words.{AreChoicesAt, DefinesAction, IsDefinedKind, IsKeyed, ListsDescendantAction, PlainName, PlainSchema, PlainUid, SchemaAction, SchemaEntityType, Text, kind_choices}

-- the keys of entries as plain data are what the keys stand for
pub plain_keys : {K V P D : Type 0} (f : K → P) (g : V → D) (entries : List (K × V))
    → map (λ (it : P × D). it.0) (map (λ (entry : K × V). (f entry.0, g entry.1)) entries) ≡ map f (map (λ (entry : K × V). entry.0) entries)
plain_keys f g [] = refl
plain_keys f g (entry ∷ rest) = ap (λ names. f entry.0 ∷ names) (plain_keys f g rest)

module _ (schema : PlainSchema) (keyed : IsKeyed schema) where
  -- the choices of an entity type are those at its name
  pub choices_there : (name : PlainName) (it : SchemaEntityType) → Contains schema.entity_types (name, it)
      → AreChoicesAt schema name (kind_choices it.kind)
  choices_there name it there = at (kind_choices it.kind) refl
    where
      at : (o : Option (List Text)) → kind_choices it.kind ≡ o → AreChoicesAt schema name o
      at None is = λ other among. ap (λ (ty : SchemaEntityType). kind_choices ty.kind) (keyed.types name other it among there) ∙ is
      at (Some choices) is = (it, there, is)

  -- an action that a schema has is defined where the one of its uid is
  pub defined_as : (uid : PlainUid) (it : SchemaAction) → Contains schema.actions (uid, it) → DefinesAction schema uid → IsDefinedKind it.kind
  defined_as uid it there (other, among, defined) =
      subst (λ (action : SchemaAction). IsDefinedKind action.kind) (keyed.actions uid other it among there) defined

  -- it is listed where the action of the uid lists it
  pub listed_by : (lower uid : PlainUid) (it : SchemaAction) → Contains schema.actions (uid, it) → ListsDescendantAction schema lower uid
      → Contains it.descendants lower
  listed_by lower uid it there (other, among, below) =
      subst (λ (action : SchemaAction). Contains action.descendants lower) (keyed.actions uid other it among there) below

-- a test that isn't met fails
pub fails : (b : Bool) → ¬ IsTrue b → IsTrue (not b)
fails true fails' = absurd (fails' refl)
fails false fails' = refl

pub not_fails : (b : Bool) → IsTrue (not b) → ¬ IsTrue b
not_fails true wrong is = false≢true wrong
not_fails false met is = false≢true is
