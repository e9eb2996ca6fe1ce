use Rattle.cedar_fragments.proofs.namespace.listed_names.ValidatorSchemaFragmentDeclaresNames.list_names.Goals as goal
use Rattle.cedar_fragments.specs.DeclaredNames.{definition_names}
use Rattle.cedar_name_resolution.proofs.NamesSoFar.{names_next}
use Rattle.cedar_name_resolution.specs.HeldNames.{listed_names}

pub loop-definition-preserved : goal.loop-definition-preserved
loop-definition-preserved g c =
    names_next (definition_names g.row.N.Denot g.row.A.Denot) (listed_names c.args.lists.now) (listed_names c.loop-definition.lists)
    (listed_names c.add_definition.new.lists) c.deref-definition-items.result.now c.loop-definition.definition-index
    c.definition-item.result c.loop-definition-test.true c.definition-item.is c.loop-definition.invariant
    c.in_ok-add_definition.ensures
