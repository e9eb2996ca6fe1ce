use Rattle.std.proofs.Common.{List, ℕ, ap, sym, ◌∙◌}
use Rattle.cedar_json_writer.proofs.WrittenValues.{keys_many, lone_flaw, lone_free}
use Rattle.cedar_json_writer.proofs.values.check_keys.Goals as goal
use Rattle.cedar_json_writer.specs.Words.{is_among, value_keys}

pub returns-then-len-ne1 : goal.returns-then-len-ne1
returns-then-len-ne1 c = keys_many c.args.values.now (λ one. c.if-len-ne1.true (c.len.ensures.len ∙ one))

pub returns-in-Some-value_key : goal.returns-in-Some-value_key
returns-in-Some-value_key c =
    lone_flaw c.args.values.now c.in-Some.name.now c.in-Some.field-0-1.now c.in-Some-value_key.key.now
    (sym c.len.ensures.len ∙ c.if-len-ne1.false) c.in-Some.ensures.first
    (sym (ap (λ (text : List ℕ). is_among text value_keys) c.as_str.ensures.value) ∙ c.in-Some-value_key.ensures.0)
    (c.in-Some-value_key.ensures.1 ∙ c.as_str.ensures.value)

pub returns-in-None-value_key : goal.returns-in-None-value_key
returns-in-None-value_key c =
    lone_free c.args.values.now c.in-Some.name.now c.in-Some.field-0-1.now (sym c.len.ensures.len ∙ c.if-len-ne1.false) c.in-Some.ensures.first
    (sym (ap (λ (text : List ℕ). is_among text value_keys) c.as_str.ensures.value) ∙ c.in-None-value_key.ensures)
