use Rattle.std.proofs.Common.{◌∙◌}
use Rattle.cedar_ast.specs.Words.{name_of}
use Rattle.cedar_diagnosis.proofs.defined.with_names.Goals as goal
use Rattle.cedar_name_resolution.proofs.SetLemmas.{HasAlso-all, HasAlso-next}
use Rattle.cedar_name_resolution.specs.Words.{held_names}

pub loop-name-preserved : goal.loop-name-preserved
loop-name-preserved c = (
  HasAlso-next name_of (held_names c.args.defs).common c.args.names.now _ _ c.loop-name.name-index c.name-item.result _
      c.loop-name-test.true c.name-item.is c.in_ok-clone.ensures.name c.loop-name.invariant.0
      c.in_ok-mark_as_defined_as_common_type.ensures.added,
  c.in_ok-mark_as_defined_as_common_type.ensures.entities_stay ∙ c.loop-name.invariant.1,
  c.in_ok-mark_as_defined_as_common_type.ensures.actions_stay ∙ c.loop-name.invariant.2,
)

pub returns-clause-common : goal.returns-clause-common
returns-clause-common c =
    HasAlso-all name_of (held_names c.args.defs).common c.args.names.now _ c.loop-name.name-index c.loop-name-test.false c.loop-name.invariant.0
