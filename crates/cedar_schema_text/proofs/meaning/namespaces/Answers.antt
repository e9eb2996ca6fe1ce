use Rattle.std.proofs.Common.{◌≡◌, ◌++◌, List, map, Some, option_map, string_bytes, ap, ap₂, subst, sym, refl, ◌∙◌}
use Rattle.std.specs.List.{flat_map}
use Rattle.std.proofs.lemmas.Result.{err_from_is_err_and}
use Rattle.cedar_schema_grammar.specs.Plain.{name_of, type_of}
use Rattle.cedar_schema_text.proofs.Among.{among_at, among_left, among_right}
use Rattle.cedar_schema_text.proofs.SoFar.{put_more}
use Rattle.cedar_schema_text.specs.declared.fault.Repeated.TheVariants as repeated
use Rattle.cedar_schema_text.proofs.FragmentLemmas.{by_name, namespace_order}
use Rattle.cedar_schema_text.specs.Faults.{Fault, IsAmong, block_faults, block_name, definition_faults, namespace_faults, repeats}
use Rattle.cedar_schema_text.specs.Here.{block_here}
use Rattle.cedar_schema_text.specs.Meaning.{block_meant, namespace_cmp}
use Rattle.cedar_schema_text.specs.Shown.{definition_shown, namespace_shown}
use Rattle.cedar_schema_text.proofs.meaning.namespaces.Goals as goal

pub returns-in_err-check_annotations-clause-fault : goal.returns-in_err-check_annotations-clause-fault
returns-in_err-check_annotations-clause-fault c =
    let xs = c.args.blocks.now in
    let x = c.block-item.result in
    let it = block_here x in
    let e = c.in_err-check_annotations.field-0.0 in
    let p = err_from_is_err_and c.from_residual-in_err-check_annotations.result c.from_residual-in_err-check_annotations.ensures.1 in
    rw (p.1, p.2) (among_right (repeats repeated.Namespace (map block_name (map block_here xs))) (flat_map block_faults (map block_here xs)) e
    (among_at block_faults block_here xs c.loop-block.block-index x e c.loop-block-test.true c.block-item.is
    (among_left (repeats repeated.Annotation it.annotations ++ namespace_faults it.path) (definition_faults it.declarations) e (among_left (repeats repeated.Annotation it.annotations) (namespace_faults it.path) e (subst (λ xs. IsAmong (repeats repeated.Annotation (map name_of xs)) e) c.deref.ensures.value c.in_err-check_annotations.ensures.fault)))))

pub returns-in_err-name-clause-fault : goal.returns-in_err-name-clause-fault
returns-in_err-name-clause-fault c =
    let xs = c.args.blocks.now in
    let x = c.block-item.result in
    let it = block_here x in
    let e = c.in_err-name.field-0.0 in
    let p = err_from_is_err_and c.from_residual-in_err-name.result c.from_residual-in_err-name.ensures.1 in
    rw (p.1, p.2) (among_right (repeats repeated.Namespace (map block_name (map block_here xs))) (flat_map block_faults (map block_here xs)) e
    (among_at block_faults block_here xs c.loop-block.block-index x e c.loop-block-test.true c.block-item.is
    (among_left (repeats repeated.Annotation it.annotations ++ namespace_faults it.path) (definition_faults it.declarations) e (among_right (repeats repeated.Annotation it.annotations) (namespace_faults it.path) e c.in_err-name.ensures.fault))))

pub returns-in_err-definition-clause-fault : goal.returns-in_err-definition-clause-fault
returns-in_err-definition-clause-fault c =
    let xs = c.args.blocks.now in
    let x = c.block-item.result in
    let it = block_here x in
    let e = c.in_err-definition.field-0.0 in
    let p = err_from_is_err_and c.from_residual-in_err-definition.result c.from_residual-in_err-definition.ensures.1 in
    rw (p.1, p.2) (among_right (repeats repeated.Namespace (map block_name (map block_here xs))) (flat_map block_faults (map block_here xs)) e
    (among_at block_faults block_here xs c.loop-block.block-index x e c.loop-block-test.true c.block-item.is
    (among_right (repeats repeated.Annotation it.annotations ++ namespace_faults it.path) (definition_faults it.declarations) e c.in_err-definition.ensures.fault)))

pub loop-block-preserved : goal.loop-block-preserved
loop-block-preserved c =
    let x = c.block-item.result in
    let it = block_here x in
    put_more block_here block_faults block_meant by_name namespace_cmp (option_map namespace_shown) definition_shown namespace_order c.args.blocks.now c.loop-block.block-index x c.loop-block.all.entries
    c.put.new.map.entries (Some c.in_ok-name.name) (c.in_ok-definition.definition) c.loop-block-test.true c.block-item.is (ap₂ (λ (a : List Fault) (b : List Fault). a ++ b) (ap₂ (λ (a : List Fault) (b : List Fault). a ++ b) (ap (λ xs. repeats repeated.Annotation (map name_of xs)) (sym c.deref.ensures.value) ∙ c.in_ok-check_annotations.ensures.none) c.in_ok-name.ensures.none) c.in_ok-definition.ensures.none) (ap Some c.in_ok-name.ensures.meant) (c.in_ok-definition.ensures.meant) c.in_ok-put.ensures c.loop-block.invariant
