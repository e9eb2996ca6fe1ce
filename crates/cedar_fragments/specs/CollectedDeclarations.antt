use Rattle.std.specs.Prelude.{◌≡◌, List, Option}
use Rattle.cedar_ast.specs.Words.{PlainName}
use Rattle.cedar_fragments.specs.DeclaredNames.{declared_names}
use Rattle.cedar_fragments.specs.FragmentDeclarations.{written_bag}
use Rattle.cedar_fragments.specs.WrittenDeclarations.{written_actions, written_entities}
use Rattle.cedar_fragments.specs.declared.collected_declarations.CollectedDeclarations.{CollectedDeclarations}
use Rattle.cedar_fragments.specs.declared.declarations.Declarations.{Declarations}
use Rattle.cedar_fragments.specs.declared.namespace.fragment.ValidatorSchemaFragment.{ValidatorSchemaFragment}
use Rattle.cedar_name_resolution.specs.HeldNames.{HoldsJust, listed_names}
use Rattle.cedar_name_resolution.specs.WrittenTypes.{written_common}
use Rattle.cedar_schema_ast.specs.Words.{Reference}
use Rattle.cedar_schema_ast.specs.declared.json_schema.reference_type.ReferenceType.{ReferenceType}
use Rattle.cedar_schema_semantics.specs.Words.{Bag, declared_actions, declared_common, declared_entities}

-- over names of some form, where it is given what a name refers to in a namespace at a place of
-- each kind
module _ (N : Type 0) (refer : Option PlainName → ReferenceType → N → Reference) where
  -- the declarations are those of a bag, kind by kind, in order
  pub record Collects (bag : Bag) (it : Declarations N) : Type 0 where
    pub common : written_common N refer it.common_types.items ≡ declared_common bag
    pub entities : written_entities N refer it.entity_types.items ≡ declared_entities bag
    pub actions : written_actions N refer it.actions.items ≡ declared_actions bag

  -- what is gathered is what these fragments declare: the names, in whatever order, and the
  -- declarations
  pub record AreCollectedDeclarations (fragments : List (ValidatorSchemaFragment N N))
      (it : CollectedDeclarations N) : Type 0 where
    pub names : HoldsJust (listed_names it.names) (declared_names N N fragments)
    pub declarations : Collects (written_bag N refer fragments) it.declarations
