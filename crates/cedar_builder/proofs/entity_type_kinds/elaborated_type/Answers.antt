use Rattle.std.proofs.Common.{map, ap}
use Rattle.std.proofs.IntoIterSteps.{All-taken}
use Rattle.std.proofs.lemmas.Result.{IfErr-weaker, IfOk-weaker, on_ok_weaker}
use Rattle.cedar_builder.proofs.EntityTypesElaborated.{SameItems-none}
use Rattle.cedar_builder.proofs.entity_type_kinds.elaborated_type.Goals as goal
use Rattle.cedar_builder.specs.Words.{Entity, IsBodyFault, IsElaboratedEntity, descendant_names, fault_of, fragment_body, namespace_name, type_name}
use Rattle.cedar_fragments.specs.declared.namespace.entity_types.EntityTypeFragment.TheVariants as variant

-- what holds of the parts of a standard entity type holds of its body
pub returns-in-Standard-clause-elaborates : goal.returns-in-Standard-clause-elaborates
returns-in-Standard-clause-elaborates g c =
    let N = g.row.N.Denot in
    let refer = g.N.WrittenName.refer (namespace_name c.args.namespace) in
    let it = c.in-Standard in
    let body = fragment_body N refer (variant.Standard it.attributes it._parents it.tags) in
    rw (ap (fragment_body N refer) it.is)
    (IfOk-weaker c.standard_type.result _ (IsElaboratedEntity c.args.scope.now (type_name c.args.name) body) (λ ty elaborated. elaborated (map (refer Entity) it._parents.items))
    c.standard_type.ensures.elaborates)

-- the same of what is sound
pub returns-in-Standard-clause-sound : goal.returns-in-Standard-clause-sound
returns-in-Standard-clause-sound g c =
    let N = g.row.N.Denot in
    let refer = g.N.WrittenName.refer (namespace_name c.args.namespace) in
    let it = c.in-Standard in
    rw (ap (fragment_body N refer) it.is)
    (on_ok_weaker c.standard_type.result (λ sound. sound (map (refer Entity) it._parents.items))
    c.standard_type.ensures.sound)

-- and of a fault
pub returns-in-Standard-clause-fault : goal.returns-in-Standard-clause-fault
returns-in-Standard-clause-fault g c =
    let N = g.row.N.Denot in
    let refer = g.N.WrittenName.refer (namespace_name c.args.namespace) in
    let it = c.in-Standard in
    let body = fragment_body N refer (variant.Standard it.attributes it._parents it.tags) in
    rw (ap (fragment_body N refer) it.is)
    (IfErr-weaker c.standard_type.result _ (λ error. IsBodyFault c.args.scope.now (type_name c.args.name) body (fault_of error)) (λ error fault. fault (map (refer Entity) it._parents.items))
    c.standard_type.ensures.fault)

-- an enumerated entity type has its choices, and no descendants yet
pub returns-in_ok-new_enum-in-Enum-clause-elaborates : goal.returns-in_ok-new_enum-in-Enum-clause-elaborates
returns-in_ok-new_enum-in-Enum-clause-elaborates g c =
    let N = g.row.N.Denot in
    let refer = g.N.WrittenName.refer (namespace_name c.args.namespace) in
    let it = c.in-Enum in
    let made = c.in_ok-new_enum-in-Enum in
    let from = made.ensures.descendants in
    rw (ap (fragment_body N refer) it.is) (record {
      name = made.ensures.name;
      kind = rw made.ensures.kind;
      no_descendants = SameItems-none (descendant_names made.field-0)
          (rw (All-taken from.0 from.1 from.3, from.2.0, c.new-descendants.ensures.items) at from.4);
    })

-- an external one has no descendants either
pub returns-in_ok-new_external-in-External-clause-elaborates : goal.returns-in_ok-new_external-in-External-clause-elaborates
returns-in_ok-new_external-in-External-clause-elaborates g c =
    let N = g.row.N.Denot in
    let refer = g.N.WrittenName.refer (namespace_name c.args.namespace) in
    let it = c.in-External in
    let made = c.in_ok-new_external-in-External in
    let from = made.ensures.descendants in
    rw (ap (fragment_body N refer) it.is) (record {
      name = made.ensures.name;
      kind = rw made.ensures.kind tt;
      no_descendants = SameItems-none (descendant_names made.field-0)
          (rw (All-taken from.0 from.1 from.3, from.2.0, c.new-descendants-in-External.ensures.items) at from.4);
    })
