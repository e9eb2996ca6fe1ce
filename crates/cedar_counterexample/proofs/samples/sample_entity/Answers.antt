use Rattle.std.proofs.Common.{◌≡◌, ◌∷◌, [], ap, inl, map, refl, subst, sym, ◌∙◌, Contains}
use Rattle.std.specs.Slice.Iter.{iter_rest}
use Rattle.cedar_ast.proofs.Lists.{Contains-cons}
use Rattle.cedar_counterexample.proofs.FillingLemmas.{entity_sample}
use Rattle.cedar_counterexample.proofs.samples.sample_entity.Goals as goal
use Rattle.cedar_counterexample.specs.Words.{EntityKind, HasUid, PlainName, kind_ty, lub_names, type_name}

-- an entity of a name is of a kind
abbrev IsOf : PlainName → EntityKind → Type 0
IsOf name kind = HasUid (record { ty = name; eid = [] }) (kind_ty kind)

pub returns-in_ok-type_of_length-in-AnyEntity : goal.returns-in_ok-type_of_length-in-AnyEntity
returns-in_ok-type_of_length-in-AnyEntity c =
    let ty = c.in_ok-type_of_length-in-AnyEntity.field-0 in
    λ extensions. entity_sample extensions c.args.kind.now ty (type_name ty) _ c.entity_of.ensures refl (rw c.in-AnyEntity.is tt)

pub returns-in_ok-clone-in-Some : goal.returns-in_ok-clone-in-Some
returns-in_ok-clone-in-Some c =
    let ty = c.in-Some.ty.now in
    let lub = c.in-Entity.lub in
    let names : type_name ty ∷ map type_name (iter_rest c.next.new.self) ≡ lub_names lub =
    ap (map type_name) (sym c.in-Some.ensures.steps) ∙ c.iter.ensures.names in
    let among = subst (λ names. Contains names (type_name ty)) names (Contains-cons (type_name ty) _ (type_name ty) (inl refl)) in
    λ extensions. entity_sample extensions c.args.kind.now c.in_ok-clone-in-Some.field-0 (type_name ty) _ c.entity_of-in-Some.ensures
    c.in_ok-clone-in-Some.ensures.name (rw c.in-Entity.is among)
