use Rattle.std.specs.Prelude.{List, Option}
use Rattle.cedar_ast.specs.Words.{PlainName}
use Rattle.cedar_fragments.specs.Words.{AreCollectedDeclarations}
use Rattle.cedar_fragments.specs.declared.namespace.fragment.ValidatorSchemaFragment.{ValidatorSchemaFragment}
use Rattle.cedar_schema.specs.Located.{AreShown}
use Rattle.cedar_schema.specs.declared.collected_fragments.CollectedFragments.{CollectedFragments}
use Rattle.cedar_schema_ast.specs.Words.{Reference}
use Rattle.cedar_schema_ast.specs.declared.json_schema.reference_type.ReferenceType.{ReferenceType}

-- what is taken over of fragments, where it is given what a name refers to in a namespace at a
-- place of each kind: what a schema shows of them, and what they declare
pub record AreCollectedFragments (N : Type 0)
    (refer : Option PlainName → ReferenceType → N → Reference)
    (fragments : List (ValidatorSchemaFragment N N)) (it : CollectedFragments N) : Type 0 where
  pub located : AreShown N N fragments it.located
  pub gathered : AreCollectedDeclarations N refer fragments it.gathered
