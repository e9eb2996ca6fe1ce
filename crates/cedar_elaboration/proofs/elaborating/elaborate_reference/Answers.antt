use Rattle.cedar_elaboration.proofs.ScopeLemmas.{common_elaborated, entity_answers, entity_refuses, fault_of_reference}
use Rattle.cedar_elaboration.proofs.elaborating.elaborate_reference.Goals as goal
use Rattle.cedar_elaboration.specs.Words.{MayNameCommon, name_of, namespace_name}

-- a name that stands for nothing is refused
pub returns-in_default-clause-fault : goal.returns-in_default-clause-fault
returns-in_default-clause-fault g c =
    let reference = g.N.WrittenName.refer (namespace_name c.args.namespace) c.args.kind c.args.name.now in
    let nothing = rw c.in_default.is at c.in_ok-full.ensures in
    record {
      each = λ defined knows. fault_of_reference defined c.args.scope.now reference knows nothing _ c.in_ok-undefined_type.ensures;
    }

-- a reference to a common type is elaborated as what it stands for
pub returns-in-Some-2-clause-elaborates : goal.returns-in-Some-2-clause-elaborates
returns-in-Some-2-clause-elaborates g c defined knows =
    let reference = g.N.WrittenName.refer (namespace_name c.args.namespace) c.args.kind c.args.name.now in
    let resolved = rw c.in-Some.is at c.in_ok-full.ensures in
    let found = rw c.in-Some-2.is at c.in_ok-ty.ensures in
    let may : MayNameCommon reference.kind = rw (g.N.WrittenName.keeps_kind (namespace_name c.args.namespace) c.args.kind c.args.name.now) found.0 in
    common_elaborated defined c.args.scope.now reference knows (name_of c.in-Some.full) _ resolved may found.1

-- one to an entity type as its entities
pub returns-clause-elaborates : goal.returns-clause-elaborates
returns-clause-elaborates g c =
    let reference = g.N.WrittenName.refer (namespace_name c.args.namespace) c.args.kind c.args.name.now in
    let resolved = rw c.in-Some.is at c.in_ok-full.ensures in
    let absent = rw c.in_default-2.is at c.in_ok-ty.ensures in
    entity_answers c.args.scope.now reference (name_of c.in-Some.full) resolved
    (λ may. absent (rw (g.N.WrittenName.keeps_kind (namespace_name c.args.namespace) c.args.kind c.args.name.now) at may))
    c.entity_reference.result c.entity_reference.ensures.ty

-- and refused where that one is reserved
pub returns-clause-fault : goal.returns-clause-fault
returns-clause-fault g c =
    let reference = g.N.WrittenName.refer (namespace_name c.args.namespace) c.args.kind c.args.name.now in
    let resolved = rw c.in-Some.is at c.in_ok-full.ensures in
    let absent = rw c.in_default-2.is at c.in_ok-ty.ensures in
    entity_refuses c.args.scope.now reference (name_of c.in-Some.full) resolved
    (λ may. absent (rw (g.N.WrittenName.keeps_kind (namespace_name c.args.namespace) c.args.kind c.args.name.now) at may))
    c.entity_reference.result c.entity_reference.ensures.fault
