use Rattle.std.proofs.Common.{◌≡◌, [], refl, ap, ◌∙◌, sym}
use Rattle.cedar_schema_elements.proofs.entity_type.ValidatorEntityType.attributes.Goals as goal
use Rattle.cedar_schema_elements.specs.Words.{Fields, end, field, field_names, kind_fields, plain_kind}

-- attributes without names are none
end-nameless : (fields : Fields) → field_names fields ≡ [] → fields ≡ end
end-nameless end nameless = refl
end-nameless (field name required ty rest) nameless = cc

pub returns-in-Enum-clause-fields : goal.returns-in-Enum-clause-fields
returns-in-Enum-clause-fields c =
    end-nameless _ c.args.self.now.without_attributes ∙ sym (ap (λ kind. kind_fields (plain_kind kind)) c.in-Enum.is)

pub returns-in-External-clause-fields : goal.returns-in-External-clause-fields
returns-in-External-clause-fields c =
    end-nameless _ c.args.self.now.without_attributes ∙ sym (ap (λ kind. kind_fields (plain_kind kind)) c.in-External.is)
