use Rattle.std.proofs.Common.{◌≡◌, ◌++◌, List, map, Some, option_map, string_bytes, ap, ap₂, subst, sym, refl, ◌∙◌}
use Rattle.std.specs.List.{flat_map}
use Rattle.std.proofs.lemmas.Result.{err_from_is_err_and}
use Rattle.cedar_schema_grammar.specs.Plain.{name_of, type_of}
use Rattle.cedar_schema_text.proofs.Among.{among_at, among_left, among_right}
use Rattle.cedar_schema_text.proofs.SoFar.{put_more}
use Rattle.cedar_schema_text.specs.declared.fault.Repeated.TheVariants as repeated
use Rattle.cedar_ast.specs.Words.{text_cmp}
use Rattle.cedar_schema_ast.specs.CommonTypeId.{common_type_text}
use Rattle.cedar_schema_ast.specs.contracts.json_schema.common_type_id.CommonTypeIdOrd.TheImpl as common_type_id_ord
use Rattle.cedar_schema_text.proofs.NameLemmas.{unless_true}
use Rattle.cedar_schema_text.proofs.TypeLemmas.{common_at}
use Rattle.cedar_schema_text.specs.Faults.{Fault, common_faults, is_common_id, repeats, reserved, type_faults, unless}
use Rattle.cedar_schema_text.specs.Here.{common_here}
use Rattle.cedar_schema_text.specs.Meaning.{common_meant}
use Rattle.cedar_schema_text.specs.Placed.{TypeAt}
use Rattle.cedar_schema_text.specs.Shown.{common_type_shown}
use Rattle.cedar_schema_text.proofs.definition.common_types.Goals as goal

pub returns-in_err-id-clause-fault : goal.returns-in_err-id-clause-fault
returns-in_err-id-clause-fault c =
    let xs = c.args.commons.now in
    let x = c.common-item.result in
    let it = common_here x in
    let e = c.in_err-id.field-0.0 in
    let p = err_from_is_err_and c.from_residual-in_err-id.result c.from_residual-in_err-id.ensures.1 in
    rw (p.1, p.2) (among_right (repeats repeated.CommonType (map (λ it. it.name) (map common_here xs))) (flat_map common_faults (map common_here xs)) e
    (among_at common_faults common_here xs c.loop-common.common-index x e c.loop-common-test.true c.common-item.is
    (among_left (unless (is_common_id it.name.text) (reserved it.name.loc)) (type_faults it.of) e c.in_err-id.ensures.fault)))

pub returns-in_err-type_of-clause-fault : goal.returns-in_err-type_of-clause-fault
returns-in_err-type_of-clause-fault c =
    let xs = c.args.commons.now in
    let x = c.common-item.result in
    let it = common_here x in
    let e = c.in_err-type_of.field-0.0 in
    let p = err_from_is_err_and c.from_residual-in_err-type_of.result c.from_residual-in_err-type_of.ensures.1 in
    rw (p.1, p.2) (among_right (repeats repeated.CommonType (map (λ it. it.name) (map common_here xs))) (flat_map common_faults (map common_here xs)) e
    (among_at common_faults common_here xs c.loop-common.common-index x e c.loop-common-test.true c.common-item.is
    (among_right (unless (is_common_id it.name.text) (reserved it.name.loc)) (type_faults it.of) e c.in_err-type_of.ensures.fault)))

pub loop-common-preserved : goal.loop-common-preserved
loop-common-preserved c =
    let x = c.common-item.result in
    let it = common_here x in
    put_more common_here common_faults common_meant (common_type_id_ord.ghosts).cmp text_cmp common_type_text common_type_shown (λ a b. refl) c.args.commons.now c.loop-common.common-index x c.loop-common.all.entries
    c.put.new.map.entries (c.in_ok-id.id) (record { ty = c.in_ok-type_of.field-0; loc = Some it.name.loc }) c.loop-common-test.true c.common-item.is (ap₂ (λ (a : List Fault) (b : List Fault). a ++ b) (unless_true (is_common_id it.name.text) (reserved it.name.loc) c.in_ok-id.ensures.valid) c.in_ok-type_of.ensures.none) (c.in_ok-id.ensures.text) (ap (λ (t : TypeAt). common_at t (Some it.name.loc)) c.in_ok-type_of.ensures.meant) c.in_ok-put.ensures c.loop-common.invariant
