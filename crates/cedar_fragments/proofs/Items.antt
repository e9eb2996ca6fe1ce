-- What the definitions of a fragment stand for, under their full names.
use Rattle.cedar_fragments.specs.Words.{ActionBody, ActionDef, CommonTypeDef, EntityBody, EntityTypeDef, Expr, PlainName, PlainUid, Reference, ReferenceType, action_fragment_body, fragment_body, name_of, type_expr, type_name, uid_of}

-- over names of some form, where it is given what a name refers to at a place of each kind
module _ (N : Type 0) (refer : ReferenceType → N → Reference) where
  -- what a common type stands for
  abbrev pub common_item : CommonTypeDef N → PlainName × Expr
  common_item def = (name_of def.name, type_expr N refer def.ty)

  -- what an entity type stands for
  abbrev pub entity_item : EntityTypeDef N → PlainName × EntityBody
  entity_item def = (type_name def.name, fragment_body N refer def.fragment)

  -- what an action stands for
  abbrev pub action_item : ActionDef N N → PlainUid × ActionBody
  action_item def = (uid_of def.uid, action_fragment_body N refer N refer def.fragment)
