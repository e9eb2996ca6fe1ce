-- Entities that are put together, and those that are found of a uid.
use Rattle.std.proofs.Common.{◌≡◌, Bool, true, false, cond, List, [], ◌∷◌, Option, Some, None, inl, inr, refl, subst, sym, ◌∙◌, ⊎_elim, find, Contains}
use Rattle.std.proofs.lemmas.Bool.{false≢true}
use Rattle.std.specs.Ordering.{is_eq}
use Rattle.cedar_ast.proofs.Basics.{Contains-none}
use Rattle.cedar_ast.proofs.Lists.{Contains-cons, Contains-cons_cases, Contains-preimage}
use Rattle.cedar_ast.proofs.ValueCopies.{uid_real}
use Rattle.cedar_compare.specs.Words.{Entities, Entity, Entries, IsReal, IsValue, PlainUid, entities_of, entity_at, entity_attrs, entity_tags, entity_uid, map_value, named_values, no_entry, plain_action_entity, uid_cmp, uid_of, uid_value}
use Rattle.cedar_schema_semantics.proofs.OccurrenceLemmas.{uid_test}

-- an entity without attributes and tags is one of the language
pub real_entity : (entity : Entity) → named_values (entity_attrs entity) ≡ no_entry → named_values (entity_tags entity) ≡ no_entry
    → IsReal (plain_action_entity entity)
real_entity entity attributes tags = (
  uid_real entity.uid,
  subst (λ (e : Entries). IsValue (map_value e)) (sym attributes) tt,
  subst (λ (e : Entries). IsValue (map_value e)) (sym tags) tt,
  λ upper among. (let key = Contains-preimage uid_of entity.ancestors.keys upper among in
      subst (λ (u : PlainUid). IsValue (uid_value u)) key.2 (uid_real key.0)),
)

-- what a search finds is there and passes the test, or none does
abbrev pub IsFound : {A : Type 0} → (A → Bool) → List A → Option A → Type 0
IsFound {A = A} test xs None = (x : A) → Contains xs x → test x ≡ false
IsFound test xs (Some x) = Contains xs x × (test x ≡ true)

found_by : {A : Type 0} (test : A → Bool) (xs : List A) → IsFound test xs (find test xs)
found_by test [] = λ x among. absurd (Contains-none x among)
found_by {A} test (first ∷ rest) = cases (test first) refl (found_by test rest)
  where
    later : (o : Option A) → test first ≡ false → IsFound test rest o → IsFound test (first ∷ rest) o
    later None fails others = λ x among. ⊎_elim (λ same. subst (λ y. test y ≡ false) same fails) (λ there. others x there)
        (Contains-cons_cases first rest x among)
    later (Some x) fails others = (Contains-cons first rest x (inr others.0), others.1)

    cases : (b : Bool) → test first ≡ b → IsFound test rest (find test rest) → IsFound test (first ∷ rest) (cond b (Some first) (find test rest))
    cases true is others = (Contains-cons first rest first (inl refl), is)
    cases false is others = later (find test rest) is others

-- the entity of a uid that is found is one of them and has it, or none has
abbrev pub IsEntityAt : Entities → PlainUid → Option Entity → Type 0
IsEntityAt entities uid None = (it : Entity) → Contains (entities_of entities) it → ¬ (uid ≡ entity_uid it)
IsEntityAt entities uid (Some it) = Contains (entities_of entities) it × (uid ≡ entity_uid it)

pub entity_found : (entities : Entities) (uid : PlainUid) (o : Option Entity) → o ≡ entity_at entities uid → IsEntityAt entities uid o
entity_found entities uid o is =
    decided o (subst (IsFound (λ (it : Entity). is_eq (uid_cmp uid (entity_uid it))) (entities_of entities)) (sym is)
    (found_by (λ (it : Entity). is_eq (uid_cmp uid (entity_uid it))) (entities_of entities)))
  where
    decided : (o : Option Entity) → IsFound (λ (it : Entity). is_eq (uid_cmp uid (entity_uid it))) (entities_of entities) o → IsEntityAt entities uid o
    decided None none = λ it among same. false≢true (sym (none it among) ∙ (uid_test uid (entity_uid it)).1 same)
    decided (Some it) some = (some.0, (uid_test uid (entity_uid it)).0 some.1)
