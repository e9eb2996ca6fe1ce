use Rattle.std.proofs.Common.{Option, Err, ap, sym, subst, ◌∙◌}
use Rattle.std.proofs.lemmas.Result.{err_from_is_err_and}
use Rattle.cedar_schema_ast.proofs.VariantLemmas.{raw_variant-Entity}
use Rattle.cedar_schema_ast.specs.Words.{PlainName, raw_name, raw_variant, possible_names}
use Rattle.cedar_schema_ast.specs.declared.json_schema.raw_name.RawName.{RawName}
use Rattle.cedar_schema_ast.specs.declared.json_schema.type_of.TypeVariant.{TypeVariant}
use Rattle.cedar_schema_text_writer.proofs.Checked.{attribute_flaw, entries_flaw, entries_flaw-more, found_later, record_flaw, stops_first}
use Rattle.cedar_schema_text_writer.proofs.Reserved.{last_possible}
use Rattle.cedar_schema_text_writer.specs.Flaws.{Checks, entity_flaw, form_flaw}
use Rattle.cedar_schema_text_writer.specs.Scope.{first_in, namespace_in}
use Rattle.cedar_schema_text_writer.specs.declared.stop.Flaw.{Flaw}
use Rattle.cedar_schema_text_writer.proofs.check_types.+type_checking.Goals as goal

pub check_variant-returns-in-Entity : goal.check_variant-returns-in-Entity
check_variant-returns-in-Entity t c =
    let first = first_in c.args.scope in
    let namespace = namespace_in c.args.scope in
    let name = raw_name c.in-Entity.name in
    subst (λ (flaw : Option Flaw). Checks flaw c.check_entity.result)
    (ap (λ (last : PlainName). entity_flaw c.args.part last (first (possible_names namespace name))) (sym (last_possible namespace name))
    ∙ sym (ap (λ (ty : TypeVariant RawName). form_flaw first c.args.part (raw_variant namespace ty)) c.in-Entity.is
    ∙ ap (form_flaw first c.args.part) (raw_variant-Entity namespace c.in-Entity.name))) c.check_entity.ensures

pub check_record-loop-name-preserved : goal.check_record-loop-name-preserved
check_record-loop-name-preserved t c =
    let first = first_in c.args.scope in
    let namespace = namespace_in c.args.scope in
    let found = entries_flaw first c.args.part namespace in
    let one = attribute_flaw first c.args.part namespace c.in-Some.attribute.now in
    sym (found_later one (found c.next.new.self) c.in_ok-check_attribute.ensures)
    ∙ (sym (entries_flaw-more first c.args.part namespace c.in-Some._name.now c.in-Some.attribute.now c.loop-name._name-iterator c.next.new.self
    c.in-Some.ensures.steps)
    ∙ c.loop-name.invariant)

pub check_record-returns-in_err-check_attribute : goal.check_record-returns-in_err-check_attribute
check_record-returns-in_err-check_attribute t c =
    let first = first_in c.args.scope in
    let namespace = namespace_in c.args.scope in
    let found = entries_flaw first c.args.part namespace in
    let one = attribute_flaw first c.args.part namespace c.in-Some.attribute.now in
    let p = err_from_is_err_and c.from_residual.result c.from_residual.ensures.1 in
    rw (p.1, p.2)
    (subst (λ (flaw : Option Flaw). Checks flaw (Err c.in_err-check_attribute.field-0.0))
    (sym (entries_flaw-more first c.args.part namespace c.in-Some._name.now c.in-Some.attribute.now c.loop-name._name-iterator c.next.new.self
    c.in-Some.ensures.steps)
    ∙ (c.loop-name.invariant ∙ record_flaw first c.args.part namespace c.args.record_type.now c.if-record_type.false))
    (stops_first one (found c.next.new.self) c.in_err-check_attribute.field-0.0 c.in_err-check_attribute.ensures))

pub check_record-returns : goal.check_record-returns
check_record-returns t c =
    let first = first_in c.args.scope in
    let namespace = namespace_in c.args.scope in
    let found = entries_flaw first c.args.part namespace in
    sym (record_flaw first c.args.part namespace c.args.record_type.now c.if-record_type.false) ∙ (sym c.loop-name.invariant ∙ ap found c.in-None.ensures.steps.0)
