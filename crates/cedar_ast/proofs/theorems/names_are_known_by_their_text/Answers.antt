use Rattle.cedar_ast.proofs.TextsOfNames.{IsOfIdentifiers-name_of, names_by_text}
use Rattle.cedar_ast.proofs.theorems.names_are_known_by_their_text.Goals as goal
use Rattle.cedar_ast.specs.InternalName.{name_of}

pub returns : goal.returns
returns c a b alike = names_by_text (name_of a) (name_of b) (IsOfIdentifiers-name_of a) (IsOfIdentifiers-name_of b) alike
