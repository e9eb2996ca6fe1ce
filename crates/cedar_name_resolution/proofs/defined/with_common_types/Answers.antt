use Rattle.std.proofs.Common.{◌∙◌}
use Rattle.cedar_name_resolution.proofs.SetLemmas.{HasAlso-next, HasAlso-all}
use Rattle.cedar_name_resolution.proofs.defined.with_common_types.Goals as goal
use Rattle.cedar_name_resolution.specs.Words.{InternalName, PlainName, «Type», Written, held_names, name_of}

-- the name of a common type
abbrev key : {N : Type 0} → InternalName × Written («Type» N) → PlainName
key it = name_of it.0

pub loop-it-preserved : goal.loop-it-preserved
loop-it-preserved g c = (
  HasAlso-next key (held_names c.args.defs).common c.args.types.now _ _ c.loop-it.it-index c.it-item.result _
      c.loop-it-test.true c.it-item.is c.in_ok-clone.ensures.name c.loop-it.invariant.0
      c.in_ok-mark_as_defined_as_common_type.ensures.added,
  c.in_ok-mark_as_defined_as_common_type.ensures.entities_stay ∙ c.loop-it.invariant.1,
  c.in_ok-mark_as_defined_as_common_type.ensures.actions_stay ∙ c.loop-it.invariant.2,
)

pub returns-clause-common : goal.returns-clause-common
returns-clause-common g c =
    HasAlso-all key (held_names c.args.defs).common c.args.types.now _ c.loop-it.it-index c.loop-it-test.false
    c.loop-it.invariant.0
