use Rattle.std.proofs.Common.{◌≡◌, ◌++◌, List, map, Some, option_map, string_bytes, ap, ap₂, subst, sym, refl, ◌∙◌}
use Rattle.std.specs.List.{flat_map}
use Rattle.std.proofs.lemmas.Result.{err_from_is_err_and}
use Rattle.cedar_schema_grammar.specs.Plain.{name_of, type_of}
use Rattle.cedar_schema_text.proofs.Among.{among_at, among_left, among_right}
use Rattle.cedar_schema_text.proofs.SoFar.{put_more}
use Rattle.cedar_schema_text.specs.declared.fault.Repeated.TheVariants as repeated
use Rattle.cedar_ast.specs.Words.{text_cmp, unreserved_id_text}
use Rattle.cedar_ast.specs.contracts.unreserved_id.UnreservedIdOrd.TheImpl as unreserved_id_ord
use Rattle.cedar_schema_text.proofs.NameLemmas.{unless_true}
use Rattle.cedar_schema_text.specs.Faults.{Fault, body_faults, entity_faults, is_unreserved, repeats, reserved, unless}
use Rattle.cedar_schema_text.specs.Here.{entity_here}
use Rattle.cedar_schema_text.specs.Meaning.{entity_meant}
use Rattle.cedar_schema_text.specs.Shown.{entity_type_shown}
use Rattle.cedar_schema_text.proofs.definition.entity_types.Goals as goal

pub returns-in_err-id-clause-fault : goal.returns-in_err-id-clause-fault
returns-in_err-id-clause-fault c =
    let xs = c.args.entities.now in
    let x = c.entity-item.result in
    let it = entity_here x in
    let e = c.in_err-id.field-0.0 in
    let p = err_from_is_err_and c.from_residual-in_err-id.result c.from_residual-in_err-id.ensures.1 in
    rw (p.1, p.2) (among_right (repeats repeated.EntityType (map (λ it. it.name) (map entity_here xs))) (flat_map entity_faults (map entity_here xs)) e
    (among_at entity_faults entity_here xs c.loop-entity.entity-index x e c.loop-entity-test.true c.entity-item.is
    (among_left (unless (is_unreserved it.name.text) (reserved it.name.loc)) (body_faults it.name.loc it.body) e c.in_err-id.ensures.fault)))

pub returns-in_err-declared-clause-fault : goal.returns-in_err-declared-clause-fault
returns-in_err-declared-clause-fault c =
    let xs = c.args.entities.now in
    let x = c.entity-item.result in
    let it = entity_here x in
    let e = c.in_err-declared.field-0.0 in
    let p = err_from_is_err_and c.from_residual-in_err-declared.result c.from_residual-in_err-declared.ensures.1 in
    rw (p.1, p.2) (among_right (repeats repeated.EntityType (map (λ it. it.name) (map entity_here xs))) (flat_map entity_faults (map entity_here xs)) e
    (among_at entity_faults entity_here xs c.loop-entity.entity-index x e c.loop-entity-test.true c.entity-item.is
    (among_right (unless (is_unreserved it.name.text) (reserved it.name.loc)) (body_faults it.name.loc it.body) e c.in_err-declared.ensures.fault)))

pub loop-entity-preserved : goal.loop-entity-preserved
loop-entity-preserved c =
    let x = c.entity-item.result in
    let it = entity_here x in
    put_more entity_here entity_faults entity_meant (unreserved_id_ord.ghosts).cmp text_cmp unreserved_id_text entity_type_shown (λ a b. refl) c.args.entities.now c.loop-entity.entity-index x c.loop-entity.all.entries
    c.put.new.map.entries (c.in_ok-id.id) (c.in_ok-declared.declared) c.loop-entity-test.true c.entity-item.is (ap₂ (λ (a : List Fault) (b : List Fault). a ++ b) (unless_true (is_unreserved it.name.text) (reserved it.name.loc) c.in_ok-id.ensures.valid) c.in_ok-declared.ensures.none) (c.in_ok-id.ensures.text) (c.in_ok-declared.ensures.meant) c.in_ok-put.ensures c.loop-entity.invariant
