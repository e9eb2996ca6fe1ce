use Rattle.cedar_name_resolution.specs.HeldNames.{HoldsJust, held_names, names_given}
use Rattle.cedar_name_resolution.specs.declared.defs.all_defs.AllDefs.{AllDefs}
use Rattle.cedar_schema_semantics.specs.Words.{Bag}

-- the names are just those that the declarations of the bag give
abbrev pub DeclaresJust : Bag → AllDefs → Type 0
DeclaresJust bag declared = HoldsJust (held_names declared) (names_given bag)
