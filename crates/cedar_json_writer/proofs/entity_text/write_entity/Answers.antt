use Rattle.std.proofs.Common.{◌≡◌, ◌++◌, ◌∷◌, [], Global, Some, String, codes, subst}
use Rattle.std.proofs.lemmas.Result.{err_from_is_err_and}
use Rattle.std.specs.BTreeMap.{BTreeMap}
use Rattle.cedar_ast.proofs.Basics.{OnOk-map}
use Rattle.cedar_json_writer.proofs.WritingLemmas.{flaw_left, flaw_right, flawless_checked, none_both}
use Rattle.cedar_json_writer.proofs.WrittenEntityData.{entity_added}
use Rattle.cedar_json_writer.proofs.entity_text.write_entity.Goals as goal
use Rattle.cedar_json_writer.specs.Words.{AddsField, IsFlawOf, PlainUid, Value, entity_ancestors, entity_attrs, entity_flaws, entity_tags, entity_uid, pairs_document, pairs_flaws, tags_held, uid_array, uid_document, written_pairs}
use Rattle.json.specs.Token.{begin_object}

-- values by text, as an entity holds them
abbrev MaybeShared : Type 0
MaybeShared = BTreeMap (String Global) Value

pub returns-clause-written : goal.returns-clause-written
returns-clause-written c =
    let it = c.args.entity.now in
    OnOk-map c.close_object.result c.close_object.ensures.written (λ ended. entity_added c.args.out.now c.open_with_uid.new.out c.write_attribute_values.new.out
    c.token.new.self c.write_ancestors.new.out c.write_tags.new.out c.close_object.new.out (uid_document (entity_uid it))
    (pairs_document (written_pairs (entity_attrs it))) (uid_array (entity_ancestors it)) (tags_held (written_pairs (entity_tags it)))
    (subst (λ (uid : PlainUid). AddsField (c.args.out.now ++ begin_object ∷ []) c.open_with_uid.new.out (codes "uid") (Some (uid_document uid)))
    c.uid.ensures.uid c.in_ok-open_with_uid.ensures)
    (subst (λ (pairs : MaybeShared). AddsField c.open_with_uid.new.out c.write_attribute_values.new.out (codes "attrs") (Some (pairs_document (written_pairs pairs))))
    c.attrs.ensures c.in_ok-write_attribute_values.ensures.written)
    c.in_ok-token.ensures.ok c.in_ok-write_ancestors.ensures
    (subst (λ (tags : MaybeShared). AddsField c.write_ancestors.new.out c.write_tags.new.out (codes "tags") (tags_held (written_pairs tags)))
    c.tags.ensures c.in_ok-write_tags.ensures.written)
    ended)

pub returns-clause-checked : goal.returns-clause-checked
returns-clause-checked c =
    let it = c.args.entity.now in
    let none = λ (pairs : MaybeShared). pairs_flaws (written_pairs pairs) ≡ [] in
    flawless_checked (entity_flaws (written_pairs (entity_attrs it)) (written_pairs (entity_tags it))) c.close_object.result c.close_object.ensures.fault
    (none_both (pairs_flaws (written_pairs (entity_attrs it))) (pairs_flaws (written_pairs (entity_tags it)))
    (subst none c.attrs.ensures c.in_ok-write_attribute_values.ensures.checked.flawless) (subst none c.tags.ensures c.in_ok-write_tags.ensures.checked))

pub returns-in_err-write_attribute_values-clause-checked : goal.returns-in_err-write_attribute_values-clause-checked
returns-in_err-write_attribute_values-clause-checked c =
    let it = c.args.entity.now in
    let f = c.in_err-write_attribute_values.field-0.0 in
    let p = err_from_is_err_and c.from_residual-in_err-write_attribute_values.result c.from_residual-in_err-write_attribute_values.ensures.1 in
    rw (p.1, p.2) (flaw_left (pairs_flaws (written_pairs (entity_attrs it))) (pairs_flaws (written_pairs (entity_tags it))) f
    (subst (λ (pairs : MaybeShared). IsFlawOf (pairs_flaws (written_pairs pairs)) f) c.attrs.ensures c.in_err-write_attribute_values.ensures.checked))

pub returns-in_err-write_tags-clause-checked : goal.returns-in_err-write_tags-clause-checked
returns-in_err-write_tags-clause-checked c =
    let it = c.args.entity.now in
    let f = c.in_err-write_tags.field-0.0 in
    let p = err_from_is_err_and c.from_residual-in_err-write_tags.result c.from_residual-in_err-write_tags.ensures.1 in
    rw (p.1, p.2) (flaw_right (pairs_flaws (written_pairs (entity_attrs it))) (pairs_flaws (written_pairs (entity_tags it))) f
    (subst (λ (pairs : MaybeShared). IsFlawOf (pairs_flaws (written_pairs pairs)) f) c.tags.ensures c.in_err-write_tags.ensures.checked))
