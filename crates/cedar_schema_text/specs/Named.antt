-- The names that the code goes through.
use Rattle.cedar_schema_grammar.specs.Tree.{Name}
use Rattle.cedar_schema_text.specs.declared.once.Named as code

-- a name with its place
abbrev pub named : code.Named → Name
named it = record { text = it.text.now; loc = it.loc }
