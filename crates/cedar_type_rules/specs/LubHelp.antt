use Rattle.std.specs.Prelude.{◌++◌, codes}
use Rattle.cedar_ast.specs.Text.{Text}
use Rattle.cedar_type_rules.specs.declared.join_error.JoinError.{JoinError}
use Rattle.cedar_type_rules.specs.declared.join_error.JoinError.TheVariants as error
use Rattle.cedar_type_rules.specs.declared.join_error.LubHelp.{LubHelp}
use Rattle.cedar_type_rules.specs.declared.join_error.LubHelp.TheVariants as help

-- a help as it is printed
abbrev pub help_text : LubHelp → Text
help_text help.None = codes "None"
help_text help.RecordWidth = codes "RecordWidth"
help_text help.AttributeQualifier = codes "AttributeQualifier"
help_text help.EntityType = codes "EntityType"
help_text help.EntityRecord = codes "EntityRecord"

-- why a join has no answer, as it is printed: with its help
abbrev pub join_error_text : JoinError → Text
join_error_text (error.Help it) =
    codes "the types have no least upper bound (help: " ++ (help_text it ++ codes ")")
join_error_text error.Memory = codes "out of memory"
