use Rattle.cedar_ast.specs.Words.{Chain, PlainName, PlainUid}
use Rattle.cedar_ast.specs.declared.extension.Extensions.{Extensions}
use Rattle.cedar_schema_ast.specs.Reference.{Reference, ActionReference}
use Rattle.cedar_schema_semantics.specs.Bag.{Bag, action_uids, defined_names}
use Rattle.cedar_schema_semantics.specs.Names.{ResolvesTo, NamesAction}
use Rattle.cedar_schema_semantics.specs.Together.{IsParent, IsActionParent}

-- the other is a parent of the one entity type, by some declaration of it
abbrev pub HasParent : Bag → Extensions → PlainName → PlainName → Type 0
HasParent bag extensions lower upper =
    (reference : Reference) × IsParent bag lower reference
    × ResolvesTo (defined_names bag extensions) reference upper

-- the other is a parent of the one action, by some declaration of it
abbrev pub HasParentAction : Bag → PlainUid → PlainUid → Type 0
HasParentAction bag lower upper =
    (reference : ActionReference) × IsActionParent bag lower reference
    × NamesAction (action_uids bag) reference upper

-- the one entity type is a descendant of the other: a chain of parents leads from it to the other
-- (the Cedar reference on schemas)
abbrev pub IsDescendant : Bag → Extensions → PlainName → PlainName → Type 0
IsDescendant bag extensions lower upper = Chain (HasParent bag extensions) lower upper

-- the one action is a descendant of the other: a chain of parents leads from it to the other (the
-- Cedar reference on schemas)
abbrev pub IsDescendantAction : Bag → PlainUid → PlainUid → Type 0
IsDescendantAction bag lower upper = Chain (HasParentAction bag) lower upper
