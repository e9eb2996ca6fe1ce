use Rattle.cedar_queries.proofs.NameLemmas.{is_has_name}
use Rattle.cedar_queries.proofs.tests_of_values.HasDescendantTestValidatorEntityType.passes.Goals as goal
use Rattle.cedar_queries.specs.Words.{descendant_names, type_name}

pub returns : goal.returns
returns c =
    is_has_name c.has_descendant_entity_type.result (descendant_names c.args.ty.now) (type_name c.args.self.now.descendant.now)
    c.has_descendant_entity_type.ensures
