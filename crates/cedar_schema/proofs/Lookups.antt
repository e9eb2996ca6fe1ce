-- What a schema has under a name or a uid.
use Rattle.std.proofs.Common.{◌≡◌, Bool, true, false, cond, List, [], ◌∷◌, Option, Some, None, inl, inr, refl, ap, subst, sym, ◌∙◌, ⊎_elim, map, Contains, arith}
use Rattle.std.proofs.Math.Logic.{∥∥₁_elim}
use Rattle.std.proofs.Props.{props}
use Rattle.std.proofs.lemmas.Bool.{false≢true}
use Rattle.std.specs.Bool.{Decides}
use Rattle.std.specs.Cmp.{IsTotalOrder}
use Rattle.std.specs.List.Sorted.{IsStrictlySortedBy}
use Rattle.std.specs.Map.{lookup}
use Rattle.std.specs.Option.{option_map}
use Rattle.std.specs.Ordering.{is_eq}
use Rattle.std.specs.declared.cmp.Ordering.{Ordering}
use Rattle.std.specs.declared.cmp.Ordering.TheVariants.{Less}
use Rattle.cedar_ast.proofs.Basics.{AllByRecursion-at, Contains-image}
use Rattle.cedar_ast.proofs.Lists.{Contains-cons, Contains-cons_cases}
use Rattle.cedar_ast.proofs.Ordered.{not_itself}
use Rattle.cedar_ast.proofs.PlainNames.{name_cmp-total, uid_cmp-total}
use Rattle.cedar_schema.specs.Words.{IsActionAt, IsAt, IsKeyed, IsTypeAt, PlainName, PlainUid, ValidatorActionId, ValidatorEntityType, ValidatorSchema, action_entries, action_of, action_of_uid, entity_type_named, name_cmp, plain_type, schema_entries, schema_of, type_name, uid_cmp, uid_of}
use Rattle.cedar_schema_semantics.proofs.OccurrenceLemmas.{name_test, uid_test}

-- of entries whose keys are in order there is one at each key
pub one_at : {K V : Type 0} (R : K → K → Ordering) → IsTotalOrder R → (entries : List (K × V))
    → IsStrictlySortedBy R (map (λ (it : K × V). it.0) entries) → (key : K) (it other : V) → Contains entries (key, it)
    → Contains entries (key, other) → it ≡ other
unfolding IsStrictlySortedBy
one_at R total [] sorted key it other among also = absurd (omega (arith, among.1))
one_at {K} {V} R total (first ∷ rest) sorted key it other among also =
    let not_later : (value : V) → first.0 ≡ key → ¬ Contains rest (key, value) = λ value same later.
    not_itself R total first.0 key same
    (AllByRecursion-at (λ k. R first.0 k ≡ Less) (map (λ (e : K × V). e.0) rest) key sorted.0 (Contains-image (λ (e : K × V). e.0) rest (key, value) later)) in
    ⊎_elim
    (λ (here : first ≡ (key, it)). ⊎_elim
    (λ (here' : first ≡ (key, other)). ap (λ (e : K × V). e.1) (sym here ∙ here'))
    (λ later. absurd (not_later other (ap (λ (e : K × V). e.0) here) later))
    (Contains-cons_cases first rest (key, other) also))
    (λ later. ⊎_elim
    (λ (here' : first ≡ (key, other)). absurd (not_later it (ap (λ (e : K × V). e.0) here') later))
    (λ later'. one_at R total rest sorted.1 key it other later later')
    (Contains-cons_cases first rest (key, other) also))
    (Contains-cons_cases first rest (key, it) among)

module _ {K V P D : Type 0} (f : K → P) (g : V → D) (name : P) (test : K → Bool)
    (decides : (key : K) → Decides (test key) (name ≡ f key)) where
  -- the entries as plain data
  plain : List (K × V) → List (P × D)
  plain entries = map (λ (entry : K × V). (f entry.0, g entry.1)) entries

  -- what is found among the others is found among all, where the first is of another key
  past : (first : P × D) (rest : List (P × D)) → ¬ (name ≡ first.0) → (o : Option D) → IsAt rest name o → IsAt (first ∷ rest) name o
  past first rest other None at = λ it among.
      ⊎_elim (λ (same : first ≡ (name, it)). other (sym (ap (λ (e : P × D). e.0) same))) (λ later. at it later)
      (Contains-cons_cases first rest (name, it) among)
  past first rest other (Some it) at = Contains-cons first rest (name, it) (inr at)

  -- a look-up finds what stands at the key, or nothing stands there
  pub found : (entries : List (K × V)) → IsAt (map (λ (entry : K × V). (f entry.0, g entry.1)) entries) name (option_map g (lookup test entries))
  found [] = λ it among. absurd (omega (arith, among.1))
  found (entry ∷ rest) = here (found rest) (test entry.0) refl
    where
      here : IsAt (map (λ (it : K × V). (f it.0, g it.1)) rest) name (option_map g (lookup test rest)) → (b : Bool) → test entry.0 ≡ b
          → IsAt (map (λ (it : K × V). (f it.0, g it.1)) (entry ∷ rest)) name (option_map g (cond b (Some entry.1) (lookup test rest)))
      here others true is =
          let same : name ≡ f entry.0 = (decides entry.0).0 is in
          Contains-cons (f entry.0, g entry.1) (map (λ (it : K × V). (f it.0, g it.1)) rest) (name, g entry.1)
          (inl (ap (λ (n : P). (n, g entry.1)) (sym same)))
      here others false is =
          past (f entry.0, g entry.1) (map (λ (it : K × V). (f it.0, g it.1)) rest)
          (λ same. false≢true (sym is ∙ (decides entry.0).1 same)) (option_map g (lookup test rest)) others

-- the entity type of a name, as a schema finds it
pub type_at : (schema : ValidatorSchema) (name : PlainName) (o : Option ValidatorEntityType) → o ≡ entity_type_named schema name
    → IsTypeAt (schema_of schema) name (option_map plain_type o)
type_at schema name o is =
    let P : Option ValidatorEntityType → Type 0 = λ found. IsTypeAt (schema_of schema) name (option_map plain_type found) in
    subst P (sym is) (found type_name plain_type name (λ key. is_eq (name_cmp name (type_name key))) (λ key. name_test name (type_name key))
    (schema_entries schema))

-- the action of a uid, as a schema finds it
pub action_at : (schema : ValidatorSchema) (uid : PlainUid) (o : Option ValidatorActionId) → o ≡ action_of_uid schema uid
    → IsActionAt (schema_of schema) uid (option_map action_of o)
action_at schema uid o is =
    let P : Option ValidatorActionId → Type 0 = λ found. IsActionAt (schema_of schema) uid (option_map action_of found) in
    subst P (sym is) (found uid_of action_of uid (λ key. is_eq (uid_cmp uid (uid_of key))) (λ key. uid_test uid (uid_of key))
    (action_entries schema))

-- a schema has what stands under its names and uids once, since these are in order
pub schema_keyed : (schema : ValidatorSchema) → IsKeyed (schema_of schema)
schema_keyed schema = record {
  types = one_at name_cmp name_cmp-total (schema_of schema).entity_types
      (∥∥₁_elim schema.content.in_order (Prim.hlevel props) (λ ordered. ordered.entity_types));
  actions = one_at uid_cmp uid_cmp-total (schema_of schema).actions
      (∥∥₁_elim schema.content.in_order (Prim.hlevel props) (λ ordered. ordered.actions));
}
