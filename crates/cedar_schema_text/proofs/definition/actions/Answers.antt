use Rattle.std.proofs.Common.{◌≡◌, ◌++◌, List, map, Some, option_map, string_bytes, ap, ap₂, subst, sym, refl, ◌∙◌}
use Rattle.std.specs.List.{flat_map}
use Rattle.std.proofs.lemmas.Result.{err_from_is_err_and}
use Rattle.cedar_schema_grammar.specs.Plain.{name_of, type_of}
use Rattle.cedar_schema_text.proofs.Among.{among_at, among_left, among_right}
use Rattle.cedar_schema_text.proofs.SoFar.{put_more}
use Rattle.cedar_schema_text.specs.declared.fault.Repeated.TheVariants as repeated
use Rattle.std.specs.String.{string_cmp}
use Rattle.cedar_ast.specs.Words.{text_cmp}
use Rattle.cedar_schema_text.specs.Faults.{action_faults, repeats}
use Rattle.cedar_schema_text.specs.Here.{action_here}
use Rattle.cedar_schema_text.specs.Meaning.{action_meant}
use Rattle.cedar_schema_text.specs.Shown.{action_shown}
use Rattle.cedar_schema_text.proofs.definition.actions.Goals as goal

pub returns-in_err-action-clause-fault : goal.returns-in_err-action-clause-fault
returns-in_err-action-clause-fault c =
    let xs = c.args.declared.now in
    let x = c.one-item.result in
    let it = action_here x in
    let e = c.in_err-action.field-0.0 in
    let p = err_from_is_err_and c.from_residual-in_err-action.result c.from_residual-in_err-action.ensures.1 in
    rw (p.1, p.2) (among_right (repeats repeated.Action (map (λ it. it.name) (map action_here xs))) (flat_map action_faults (map action_here xs)) e
    (among_at action_faults action_here xs c.loop-one.one-index x e c.loop-one-test.true c.one-item.is
    (c.in_err-action.ensures.fault)))

pub loop-one-preserved : goal.loop-one-preserved
loop-one-preserved c =
    let x = c.one-item.result in
    let it = action_here x in
    put_more action_here action_faults action_meant string_cmp text_cmp string_bytes action_shown (λ a b. refl) c.args.declared.now c.loop-one.one-index x c.loop-one.all.entries
    c.put.new.map.entries (c.in_ok-id.id) (c.in_ok-action.field-0) c.loop-one-test.true c.one-item.is (c.in_ok-action.ensures.none) (c.in_ok-id.ensures.ok ∙ c.as_str.ensures.value) (c.in_ok-action.ensures.meant) c.in_ok-put.ensures c.loop-one.invariant
