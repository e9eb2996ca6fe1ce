use Rattle.std.proofs.Common.{Err, subst, sym, ◌∙◌}
use Rattle.std.proofs.lemmas.Result.{err_from_is_err_and, IfErr-weaker, IfOk-weaker, on_ok_weaker}
use Rattle.cedar_fragments.proofs.DeclaredNames.{written_just}
use Rattle.cedar_fragments.specs.Words.{declared_names}
use Rattle.cedar_name_resolution.proofs.NamesSoFar.{HoldsJust-through}
use Rattle.cedar_name_resolution.specs.Words.{listed_names}
use Rattle.cedar_schema.proofs.BuiltOver.{built_over}
use Rattle.cedar_schema.proofs.building.build_collected.Goals as goal
use Rattle.cedar_schema.specs.Words.{Located, AreShown, fault_of, held_names, written_bag, written_common}
use Rattle.cedar_schema_laws.proofs.BuiltFrom.{built_from}

-- a refused name is a fault of the bag
pub returns-in_err-defs-clause-built : goal.returns-in_err-defs-clause-built
returns-in_err-defs-clause-built g c = λ fragments is.
    let N = g.row.N.Denot in
    let refer = g.N.WrittenName.refer in
    let just = written_just N refer fragments c.in_ok-declared.declared
    (HoldsJust-through (held_names c.in_ok-declared.declared) (listed_names c.args.taken.gathered.names) (declared_names N N fragments)
    c.in_ok-declared.ensures is.gathered.names) in
    let refused = built_from (written_bag N refer fragments) c.args.extensions.now c.requires (Err (fault_of c.in_err-defs.field-0.0))
    (c.in_err-defs.ensures.fault (written_bag N refer fragments) just) tt tt in
    let p = err_from_is_err_and c.from_residual-in_err-defs.result c.from_residual-in_err-defs.ensures.1 in
    rw (p.1, p.2) refused

-- what is built over the names is built from the bag
pub returns-clause-built : goal.returns-clause-built
returns-clause-built g c = λ fragments is.
    let N = g.row.N.Denot in
    let refer = g.N.WrittenName.refer in
    let bag = written_bag N refer fragments in
    let just = written_just N refer fragments c.in_ok-declared.declared
    (HoldsJust-through (held_names c.in_ok-declared.declared) (listed_names c.args.taken.gathered.names) (declared_names N N fragments)
    c.in_ok-declared.ensures is.gathered.names) in
    let named = c.in_ok-defs.ensures in
    let collected = is.gathered.declarations in
    built_over bag c.args.extensions.now (held_names c.in_ok-defs.field-0.defs) (written_common N refer c.in_ok-defs.field-0.built_in.items)
    (record {
      names = named.names bag just;
      types_shadow = named.no_type_shadows bag just;
      actions_shadow = named.no_action_shadows bag just;
      built_in = named.built_in bag just;
      fit = c.requires;
    })
    c.build_named.result
    (IfErr-weaker c.build_named.result _ _ (λ error fault. fault fragments collected) c.build_named.ensures.fault)
    (on_ok_weaker c.build_named.result (λ well. well fragments collected) c.build_named.ensures.well_formed)
    (IfOk-weaker c.build_named.result _ _ (λ parts declared. declared fragments collected) c.build_named.ensures.declared)

-- and shows what was taken over
pub returns-clause-located : goal.returns-clause-located
returns-clause-located g c =
    let N = g.row.N.Denot in
    IfOk-weaker c.build_named.result _ _
    (λ parts same fragments is.
    let P : Located → Type 0 = λ located. AreShown N N fragments located in
    subst P (sym (same ∙ c.in_ok-located.ensures)) is.located)
    c.build_named.ensures.located
