use Rattle.std.proofs.Common.{ap, ◌∙◌}
use Rattle.cedar_elaboration.proofs.shared_types.SharedTypes.new.Goals as goal
use Rattle.cedar_elaboration.specs.Words.{field_names, is_long_type, is_text_type, is_truth_type, ty_of}

pub invariant_of-result : goal.invariant_of-result
invariant_of-result c = record {
  are_strings = ap (λ ty. is_text_type (ty_of ty)) c.in_ok-new.ensures.ok ∙ ap is_text_type c.primitive_string.ensures;
  are_longs = ap (λ ty. is_long_type (ty_of ty)) c.in_ok-new-2.ensures.ok ∙ ap is_long_type c.primitive_long.ensures;
  are_booleans = ap (λ ty. is_truth_type (ty_of ty)) c.in_ok-new-3.ensures.ok ∙ ap is_truth_type c.primitive_boolean.ensures;
  without_attributes = ap field_names c.in_ok-empty.ensures;
}
