-- What is taken over of fragments.
use Rattle.std.specs.Prelude.{◌≡◌, ◌++◌}
use Rattle.cedar_ast.specs.declared.extension.Extensions.{Extensions}
use Rattle.cedar_fragments.specs.Words.{Collects}
use Rattle.cedar_fragments.specs.declared.collected_declarations.CollectedDeclarations.{CollectedDeclarations}
use Rattle.cedar_name_resolution.specs.Words.{HoldsJust, held_names, listed_names, names_given}
use Rattle.cedar_name_resolution.specs.WrittenTypes.{written_common}
use Rattle.cedar_schema_ast.specs.Words.{raw_reference}
use Rattle.cedar_schema_ast.specs.declared.json_schema.raw_name.RawName.{RawName}
use Rattle.cedar_schema_semantics.specs.Words.{Bag, aliases, built_ins, defined_names}
use Rattle.cedar_written_out.specs.declared.gathering.Known.{Known}

-- what is gathered is what the bag declares: the names, in whatever order, and the declarations
pub record IsGathered (bag : Bag) (gathered : CollectedDeclarations RawName) : Type 0 where
  pub names : HoldsJust (listed_names gathered.names) (names_given bag)
  pub declarations : Collects RawName raw_reference bag gathered.declarations

-- what is known is what the bag declares over the extensions: its declarations, the built-in types
-- with its aliases, and the names of what it defines
pub record IsKnown (bag : Bag) (extensions : Extensions) (known : Known) : Type 0 where
  pub declarations : Collects RawName raw_reference bag known.declarations
  pub built_in : written_common RawName raw_reference known.built_in.items
      ≡ built_ins extensions ++ aliases bag extensions
  pub names : HoldsJust (held_names known.defs) (defined_names bag extensions)
