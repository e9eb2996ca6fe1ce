use Rattle.std.proofs.Common.{ap, refl, subst, sym}
use Rattle.cedar_builder.proofs.ReadyLemmas.{unresolved_fault}
use Rattle.cedar_builder.proofs.named_type.named_type.Goals as goal
use Rattle.cedar_builder.specs.Words.{Entity, IsReserved, ResolvesTo, held_names, name_of, namespace_name}

-- a name that stands for nothing is refused
pub returns-in_default-clause-fault : goal.returns-in_default-clause-fault
returns-in_default-clause-fault g c =
    let reference = g.N.WrittenName.refer (namespace_name c.args.namespace) Entity c.args.name.now in
    unresolved_fault (held_names c.args.defs.now) reference (rw c.in_default.is at c.in_ok-full.ensures) _ c.in_ok-undefined_type.ensures

-- so is one that stands for a reserved name
pub returns-in-Err-clause-fault : goal.returns-in-Err-clause-fault
returns-in-Err-clause-fault g c =
    let namespace = namespace_name c.args.namespace in
    let reference = g.N.WrittenName.refer namespace Entity c.args.name.now in
    let resolved = rw c.in-Some.is at c.in_ok-full.ensures in
    let refused = c.in-Err.ensures.refused in (
      reference,
      (refl, g.N.WrittenName.keeps_kind namespace Entity c.args.name.now),
      subst (ResolvesTo (held_names c.args.defs.now) reference) (sym (ap name_of refused.0)) resolved,
      subst IsReserved (sym (ap name_of refused.0)) refused.1,
    )
