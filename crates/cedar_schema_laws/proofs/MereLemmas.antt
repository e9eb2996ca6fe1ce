-- What is merely known of environments is known: what it says is found by search.
use Rattle.std.proofs.Common.{◌≡◌, List, ap, inl, inr}
use Rattle.std.proofs.Math.Logic.{∥∥₁_map, ∥∥₁_elim}
use Rattle.std.proofs.Props.{props}
use Rattle.std.proofs.lemmas.Grind.{not_there}
use Rattle.cedar_schema_laws.proofs.ListDecisions.{decide_stands}
use Rattle.cedar_schema_laws.proofs.TypeDecisions.{decide_like, decide_types, decide_uids}
use Rattle.cedar_schema_laws.specs.Words.{ActionKind, AreEnvironmentsOf, Environment, IsRequestOf, PlainSchema, defined_action, external_action}
use Rattle.cedar_type_rules.proofs.AnsweredLemmas.{decide_names}
use Rattle.cedar_type_rules.proofs.Decisions.{IsDecided, decide_among, decide_both}

-- a fact that is decided is known where it is merely known
known : {A : Type 0} → IsDecided A → ∥ A ∥₁ → A
known (inl a) mere = a
known (inr none) mere = absurd (not_there mere none)

-- environments are the same or not
decide_environments : (a b : Environment) → IsDecided (a ≡ b)
decide_environments a b =
    decide_like (λ all i. record { principal = all.0 i; action = all.1.0 i; resource = all.1.1.0 i; context = all.1.1.1 i })
    (λ same. (
      ap (λ (it : Environment). it.principal) same,
      (
        ap (λ (it : Environment). it.action) same,
        (ap (λ (it : Environment). it.resource) same, ap (λ (it : Environment). it.context) same),
      ),
    )) (decide_both (decide_names a.principal b.principal) (decide_both (decide_uids a.action b.action)
    (decide_both (decide_names a.resource b.resource) (decide_types a.context b.context))))

-- an environment is of the requests that a kind of action is for, or isn't
decide_request : (kind : ActionKind) (it : Environment) → IsDecided (IsRequestOf kind it)
decide_request (defined_action principals resources context) it =
    decide_like (λ all. (all.0, all.1.0, all.1.1)) (λ all. (all.0, (all.1, all.2)))
    (decide_both (decide_among decide_names principals it.principal)
    (decide_both (decide_among decide_names resources it.resource) (decide_types context it.context)))
decide_request external_action it = inr (λ is. is)

-- the environments of a schema are known where they are merely known
pub known_environments : (schema : PlainSchema) (environments : List Environment) → ∥ AreEnvironmentsOf schema environments ∥₁
    → AreEnvironmentsOf schema environments
known_environments schema environments mere = record {
  each = λ it. (
    λ among. known (decide_stands decide_uids schema.actions (λ action. IsRequestOf action.kind it)
        (λ action. decide_request action.kind it) it.action) (∥∥₁_map mere (λ all. (all.each it).0 among)),
    λ of_schema. known (decide_among decide_environments environments it) (∥∥₁_map mere (λ all. (all.each it).1 of_schema)),
  );
  once = ∥∥₁_elim mere (Prim.hlevel props) (λ all. all.once);
}
