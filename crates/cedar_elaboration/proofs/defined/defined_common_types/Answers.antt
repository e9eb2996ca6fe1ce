use Rattle.std.proofs.Common.{◌≡◌, ◌++◌, ap, ◌∙◌}
use Rattle.std.proofs.lemmas.List.{map-append}
use Rattle.std.proofs.lemmas.Result.{IfOk-weaker, IfErr-weaker, on_ok_weaker}
use Rattle.cedar_elaboration.proofs.CommonFaults.{common_fault, common_sound, common_elaborated, named}
use Rattle.cedar_elaboration.proofs.Results.{IfOk-both, OnOk-both}
use Rattle.cedar_elaboration.proofs.defined.defined_common_types.Goals as goal
use Rattle.cedar_elaboration.specs.Words.{elaborated_types, fault_of, held_names, written_common}

pub returns-clause-elaborates : goal.returns-clause-elaborates
returns-clause-elaborates g c =
    let all = written_common g.row.N.Denot g.N.WrittenName.refer in
    let declared = all c.args.declared.items in
    let built_in = all c.args.built_in.items in
    let names = held_names c.args.defs.now in
    let types = all c.deref.result.now in
    let whole : types ≡ declared ++ built_in = ap all (c.deref.ensures.value ∙ c.in_ok-append.ensures.items) ∙ map-append _ c.args.declared.items c.args.built_in.items in
    IfOk-weaker c.common_types.result _ _
    (λ made both bag are.
    let is_named = named bag c.args.extensions.now declared built_in names are types whole in
    common_elaborated bag c.args.extensions.now declared built_in names are types whole (elaborated_types made) (both.0 is_named) (both.1 is_named))
    (IfOk-both c.common_types.result _ _ c.common_types.ensures.names c.common_types.ensures.holds)

pub returns-clause-sound : goal.returns-clause-sound
returns-clause-sound g c =
    let all = written_common g.row.N.Denot g.N.WrittenName.refer in
    let declared = all c.args.declared.items in
    let built_in = all c.args.built_in.items in
    let names = held_names c.args.defs.now in
    let types = all c.deref.result.now in
    let whole : types ≡ declared ++ built_in = ap all (c.deref.ensures.value ∙ c.in_ok-append.ensures.items) ∙ map-append _ c.args.declared.items c.args.built_in.items in
    on_ok_weaker c.common_types.result
    (λ each bag are.
    let is_named = named bag c.args.extensions.now declared built_in names are types whole in
    common_sound bag c.args.extensions.now declared built_in names are types whole each.0 (each.1.0 is_named) (each.1.1 is_named))
    (OnOk-both c.common_types.result _ _ c.common_types.ensures.once
    (OnOk-both c.common_types.result _ _ c.common_types.ensures.no_cycle c.common_types.ensures.sound))

pub returns-clause-fault : goal.returns-clause-fault
returns-clause-fault g c =
    let all = written_common g.row.N.Denot g.N.WrittenName.refer in
    let declared = all c.args.declared.items in
    let built_in = all c.args.built_in.items in
    let names = held_names c.args.defs.now in
    let types = all c.deref.result.now in
    let whole : types ≡ declared ++ built_in = ap all (c.deref.ensures.value ∙ c.in_ok-append.ensures.items) ∙ map-append _ c.args.declared.items c.args.built_in.items in
    IfErr-weaker c.common_types.result _ _
    (λ error fault bag are.
    common_fault bag c.args.extensions.now declared built_in names are types whole (fault_of error)
    (fault (named bag c.args.extensions.now declared built_in names are types whole)))
    c.common_types.ensures.fault
