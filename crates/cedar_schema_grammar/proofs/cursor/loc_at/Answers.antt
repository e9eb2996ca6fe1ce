use Rattle.std.proofs.Common.{rules}
use Rattle.std.proofs.lemmas.List.{drop-map, length-map}
use Rattle.cedar_schema_grammar.proofs.cursor.loc_at.Goals as goal

pub returns : goal.returns
returns c = simp (length-map, drop-map) (search rules)
