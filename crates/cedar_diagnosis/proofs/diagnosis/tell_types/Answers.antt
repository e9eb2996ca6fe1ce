use Rattle.std.proofs.Common.{◌∷◌, [], map}
use Rattle.cedar_ast.specs.Words.{type_name}
use Rattle.cedar_diagnosis.proofs.ActionCycleLemmas.{tells_action_cycles}
use Rattle.cedar_diagnosis.proofs.CommonCycles.{tells_common_type_cycles}
use Rattle.cedar_diagnosis.proofs.EnumeratedLemmas.{tells_enumerated_below}
use Rattle.cedar_diagnosis.proofs.KindLemmas.{tells_open_records, tells_undefined_types, tells_unknown_extensions}
use Rattle.cedar_diagnosis.proofs.LentLemmas.{positions_unreserved}
use Rattle.cedar_diagnosis.proofs.ReferringKinds.{tells_undeclared_types, tells_undefined_parents}
use Rattle.cedar_diagnosis.proofs.TogetherLemmas.{together_none, together_then}
use Rattle.cedar_diagnosis.proofs.diagnosis.tell_types.Goals as goal
use Rattle.cedar_diagnosis.specs.Kinds as kind
use Rattle.cedar_diagnosis.specs.Lent.{declarations_of}
use Rattle.cedar_name_resolution.specs.Words.{held_names}
use Rattle.cedar_schema_semantics.specs.Words.{fault_of}

pub returns : goal.returns
returns c =
    let bag = declarations_of c.args.bag.now in
    let extensions = c.args.extensions.now in
    let t0 = map fault_of c.args.faults.now.items in
    let t1 = map fault_of c.tell_found.new.faults.items in
    let t2 = map fault_of c.tell_found-2.new.faults.items in
    let t3 = map fault_of c.tell_found-3.new.faults.items in
    let s1 = together_then bag extensions [] kind.open_record t0 t0 t1 tt (together_none bag extensions t0)
    (tells_open_records bag extensions t0 t1 c.in_ok-tell_found.ensures) in
    let s2 = together_then bag extensions (kind.open_record ∷ []) kind.unknown_extension_type t0 t1 t2 (λ e. cc, tt) s1
    (tells_unknown_extensions bag extensions t1 t2 c.in_ok-tell_found-2.ensures) in
    let names = held_names c.args.defs.now in
    let t4 = map fault_of c.tell_found-4.new.faults.items in
    let t5 = map fault_of c.tell_found-5.new.faults.items in
    let s3 = together_then bag extensions (kind.open_record ∷ kind.unknown_extension_type ∷ []) kind.type_not_defined t0 t2 t3
    (λ e. cc, (λ e. cc, tt)) s2 (tells_undefined_types bag extensions names c.requires t2 t3 c.in_ok-tell_found-3.ensures) in
    let s4 = together_then bag extensions (kind.open_record ∷ kind.unknown_extension_type ∷ kind.type_not_defined ∷ [])
    kind.undeclared_entity_types t0 t3 t4 (λ e. cc, (λ e. cc, (λ e. cc, tt))) s3
    (tells_undeclared_types bag extensions names c.requires (positions_unreserved c.args.bag.now extensions) t3 t4 c.in_ok-tell_found-4.ensures) in
    let s5 = together_then bag extensions
    (kind.open_record ∷ kind.unknown_extension_type ∷ kind.type_not_defined ∷ kind.undeclared_entity_types ∷ [])
    kind.action_not_defined t0 t4 t5 (λ e. cc, (λ e. cc, (λ e. cc, (λ e. cc, tt)))) s4
    (tells_undefined_parents bag extensions names c.requires t4 t5 c.in_ok-tell_found-5.ensures) in
    let t6 = map fault_of c.tell_found-6.new.faults.items in
    let s6 = together_then bag extensions
    (kind.open_record ∷ kind.unknown_extension_type ∷ kind.type_not_defined ∷ kind.undeclared_entity_types ∷ kind.action_not_defined ∷ [])
    kind.enumerated_below t0 t5 t6 (λ e. cc, (λ e. cc, (λ e. cc, (λ e. cc, (λ e. cc, tt))))) s5
    (tells_enumerated_below bag extensions names (map type_name c.in_ok-enumerated.field-0.keys) c.requires c.in_ok-enumerated.ensures
    (positions_unreserved c.args.bag.now extensions) t5 t6 c.in_ok-tell_found-6.ensures) in
    let t7 = map fault_of c.tell_cycles.new.faults.items in
    let s7 = together_then bag extensions
    (kind.open_record ∷ kind.unknown_extension_type ∷ kind.type_not_defined ∷ kind.undeclared_entity_types ∷ kind.action_not_defined
    ∷ kind.enumerated_below ∷ [])
    kind.common_type_cycle t0 t6 t7 (λ e. cc, (λ e. cc, (λ e. cc, (λ e. cc, (λ e. cc, (λ e. cc, tt)))))) s6
    (tells_common_type_cycles bag extensions names c.requires t6 t7 c.in_ok-tell_cycles.ensures) in
    let t8 = map fault_of c.tell_cycles-2.new.faults.items in
    together_then bag extensions
    (kind.open_record ∷ kind.unknown_extension_type ∷ kind.type_not_defined ∷ kind.undeclared_entity_types ∷ kind.action_not_defined
    ∷ kind.enumerated_below ∷ kind.common_type_cycle ∷ [])
    kind.action_cycle t0 t7 t8 (λ e. cc, (λ e. cc, (λ e. cc, (λ e. cc, (λ e. cc, (λ e. cc, (λ e. cc, tt))))))) s7
    (tells_action_cycles bag extensions names c.requires t7 t8 c.in_ok-tell_cycles-2.ensures)
