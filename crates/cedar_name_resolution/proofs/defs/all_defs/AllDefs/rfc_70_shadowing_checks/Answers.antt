use Rattle.std.proofs.Common.{inl, inr}
use Rattle.std.proofs.lemmas.List.Elements.{Contains-append_right, Contains-append_cases}
use Rattle.cedar_name_resolution.proofs.defs.all_defs.AllDefs.rfc_70_shadowing_checks.Goals as goal
use Rattle.cedar_name_resolution.specs.HeldNames.{held_names}

pub check_types-requires-2 : goal.check_types-requires-2
check_types-requires-2 c =
    let held = held_names c.args.self.now in
    λ name among. Contains-append_right held.common held.entities name among

pub returns-clause-types : goal.returns-clause-types
returns-clause-types c =
    let held = held_names c.args.self.now in
    λ plain qualified here there. elim (Contains-append_cases held.common held.entities qualified there) [
      | inl common ↦ c.in_ok-check_types.ensures.none plain qualified here common
      | inr entity ↦ c.in_ok-check_types-2.ensures.none plain qualified here entity
    ]
