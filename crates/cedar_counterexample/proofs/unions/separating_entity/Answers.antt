use Rattle.std.proofs.Common.{[], refl}
use Rattle.cedar_counterexample.proofs.FillingLemmas.{entity_apart, entity_sample}
use Rattle.cedar_counterexample.proofs.unions.separating_entity.Goals as goal
use Rattle.cedar_counterexample.specs.Words.{EntityKind, HasUid, PlainName, kind_ty, type_name}

-- an entity of a name is of a kind
abbrev IsOf : PlainName → EntityKind → Type 0
IsOf name kind = HasUid (record { ty = name; eid = [] }) (kind_ty kind)

pub returns-in_ok-fresh_type-in-AnyEntity-Entity :
    goal.returns-in_ok-fresh_type-in-AnyEntity-Entity
returns-in_ok-fresh_type-in-AnyEntity-Entity c =
    let ty = c.in_ok-fresh_type-in-AnyEntity-Entity.field-0 in
    λ extensions. (
      entity_sample extensions c.args.lower.now ty (type_name ty) _ c.entity_of.ensures refl (rw c.in-AnyEntity-Entity.is-0 tt),
      entity_apart extensions c.args.upper.now ty (type_name ty) _ c.entity_of.ensures refl
          (λ has. c.in_ok-fresh_type-in-AnyEntity-Entity.ensures (rw c.in-AnyEntity-Entity.is-1 at has)),
    )

pub returns-in_ok-clone-in-Some : goal.returns-in_ok-clone-in-Some
returns-in_ok-clone-in-Some c =
    let copy = c.in_ok-clone-in-Some.field-0 in
    let name = type_name c.in-Some.ty.now in
    λ extensions. (
      entity_sample extensions c.args.lower.now copy name _ c.entity_of-in-Some.ensures c.in_ok-clone-in-Some.ensures.name
          (rw c.in-Entity-Entity.is-0 c.in-Some.ensures.has),
      entity_apart extensions c.args.upper.now copy name _ c.entity_of-in-Some.ensures c.in_ok-clone-in-Some.ensures.name
          (λ has. c.in-Some.ensures.lacks (rw c.in-Entity-Entity.is-1 at has)),
    )
