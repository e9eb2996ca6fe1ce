use Rattle.std.proofs.Common.{◌∷◌, [], map}
use Rattle.cedar_diagnosis.proofs.KindLemmas.{tells_action_types, tells_actions, tells_attributes, tells_common_types, tells_entity_types, tells_shadowed_actions, tells_shadowed_types}
use Rattle.cedar_diagnosis.proofs.LentLemmas.{commons_unreserved}
use Rattle.cedar_diagnosis.proofs.ReservedLemmas.{tells_reserved}
use Rattle.cedar_diagnosis.proofs.TogetherLemmas.{together_none, together_then}
use Rattle.cedar_diagnosis.proofs.diagnosis.tell_declared.Goals as goal
use Rattle.cedar_diagnosis.specs.Kinds as kind
use Rattle.cedar_diagnosis.specs.Lent.{declarations_of}
use Rattle.cedar_name_resolution.specs.Words.{held_names}
use Rattle.cedar_schema_semantics.specs.Words.{fault_of}

pub returns : goal.returns
returns c extensions fit =
    let bag = declarations_of c.args.bag.now in
    let names = held_names c.args.declared.now in
    let just = c.requires in
    let t0 = map fault_of c.args.faults.now.items in
    let t1 = map fault_of c.tell_found.new.faults.items in
    let t2 = map fault_of c.tell_found-2.new.faults.items in
    let t3 = map fault_of c.tell_repeated.new.faults.items in
    let t4 = map fault_of c.tell_repeated-2.new.faults.items in
    let t5 = map fault_of c.tell_repeated-3.new.faults.items in
    let t6 = map fault_of c.tell_found-3.new.faults.items in
    let t7 = map fault_of c.tell_found-4.new.faults.items in
    let s1 = together_then bag extensions [] kind.type_shadowing t0 t0 t1 tt (together_none bag extensions t0)
    (tells_shadowed_types bag extensions names just t0 t1 c.in_ok-tell_found.ensures) in
    let s2 = together_then bag extensions (kind.type_shadowing ∷ []) kind.action_shadowing t0 t1 t2 (λ e. cc, tt) s1
    (tells_shadowed_actions bag extensions names just t1 t2 c.in_ok-tell_found-2.ensures) in
    let s3 = together_then bag extensions (kind.type_shadowing ∷ kind.action_shadowing ∷ []) kind.duplicate_common_type t0 t2 t3
    (λ e. cc, (λ e. cc, tt)) s2
    (tells_common_types bag extensions fit (commons_unreserved c.args.bag.now) t2 t3 c.in_ok-tell_repeated.ensures) in
    let s4 = together_then bag extensions (kind.type_shadowing ∷ kind.action_shadowing ∷ kind.duplicate_common_type ∷ [])
    kind.duplicate_entity_type t0 t3 t4 (λ e. cc, (λ e. cc, (λ e. cc, tt))) s3
    (tells_entity_types bag extensions t3 t4 c.in_ok-tell_repeated-2.ensures) in
    let s5 = together_then bag extensions
    (kind.type_shadowing ∷ kind.action_shadowing ∷ kind.duplicate_common_type ∷ kind.duplicate_entity_type ∷ [])
    kind.duplicate_action t0 t4 t5 (λ e. cc, (λ e. cc, (λ e. cc, (λ e. cc, tt)))) s4
    (tells_actions bag extensions t4 t5 c.in_ok-tell_repeated-3.ensures) in
    let s6 = together_then bag extensions
    (kind.type_shadowing ∷ kind.action_shadowing ∷ kind.duplicate_common_type ∷ kind.duplicate_entity_type ∷ kind.duplicate_action ∷ [])
    kind.action_entity_type t0 t5 t6 (λ e. cc, (λ e. cc, (λ e. cc, (λ e. cc, (λ e. cc, tt))))) s5
    (tells_action_types bag extensions t5 t6 c.in_ok-tell_found-3.ensures) in
    let s7 = together_then bag extensions
    (kind.type_shadowing ∷ kind.action_shadowing ∷ kind.duplicate_common_type ∷ kind.duplicate_entity_type ∷ kind.duplicate_action
    ∷ kind.action_entity_type ∷ [])
    kind.action_attributes t0 t6 t7 (λ e. cc, (λ e. cc, (λ e. cc, (λ e. cc, (λ e. cc, (λ e. cc, tt)))))) s6
    (tells_attributes bag extensions t6 t7 c.in_ok-tell_found-4.ensures) in
    together_then bag extensions
    (kind.type_shadowing ∷ kind.action_shadowing ∷ kind.duplicate_common_type ∷ kind.duplicate_entity_type ∷ kind.duplicate_action
    ∷ kind.action_entity_type ∷ kind.action_attributes ∷ [])
    kind.reserved_name t0 t7 t7 (λ e. cc, (λ e. cc, (λ e. cc, (λ e. cc, (λ e. cc, (λ e. cc, (λ e. cc, tt))))))) s7
    (tells_reserved c.args.bag.now extensions t7)
