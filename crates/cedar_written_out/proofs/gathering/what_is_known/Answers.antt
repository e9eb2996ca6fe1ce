use Rattle.std.proofs.Common.{inl, inr}
use Rattle.cedar_name_resolution.proofs.ExitLemmas.{exit_holds}
use Rattle.cedar_name_resolution.proofs.NamesSoFar.{HoldsJust-through}
use Rattle.cedar_name_resolution.specs.Words.{held_names, listed_names, names_given}
use Rattle.cedar_written_out.proofs.gathering.what_is_known.Goals as goal
use Rattle.cedar_written_out.specs.Words.{raw_bag}

-- what fragments declare is refused for a fault of the bag
pub returns-in_err-names-clause-fault : goal.returns-in_err-names-clause-fault
returns-in_err-names-clause-fault c =
    exit_holds _ _ _ c.from_residual.ensures.1
    (elim c.in_err-names.ensures.fault [ inl memory ↦ inl memory | inr at_fault ↦ inr (at_fault c.args.extensions.now) ])

-- so are names
pub returns-in_err-defs-clause-fault : goal.returns-in_err-defs-clause-fault
returns-in_err-defs-clause-fault c =
    let bag = raw_bag c.args.fragments.now in
    let just = HoldsJust-through (held_names c.in_ok-declared.declared) (listed_names c.in_ok-names.field-0.names) (names_given bag)
    c.in_ok-declared.ensures c.in_ok-names.ensures.gathered.names in
    exit_holds _ _ _ c.from_residual-in_err-defs.ensures.1 (c.in_err-defs.ensures.fault bag just)

-- otherwise all is known
pub returns-clause-known : goal.returns-clause-known
returns-clause-known c =
    let bag = raw_bag c.args.fragments.now in
    let gathered = c.in_ok-names.ensures.gathered in
    let just = HoldsJust-through (held_names c.in_ok-declared.declared) (listed_names c.in_ok-names.field-0.names) (names_given bag)
    c.in_ok-declared.ensures gathered.names in
    let named = c.in_ok-defs.ensures in
    record {
      declarations = gathered.declarations;
      built_in = named.built_in bag just;
      names = named.names bag just;
    }
