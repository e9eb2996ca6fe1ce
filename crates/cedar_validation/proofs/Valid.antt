-- A schema of which all is made sure has no fault.
use Rattle.std.proofs.Common.{[], ◌∷◌, refl, inl, Contains, inr}
use Rattle.cedar_ast.proofs.Lists.{Contains-cons}
use Rattle.cedar_validation.specs.Words.{AreMentionsSound, AreNamesSound, ArePlaced, Extensions, IsClosed, IsPairSound, IsUnknownType, IsValidSchema, ListsDescendant, PlainName, PlainSchema, PlainUid, SchemaAction, action_cycle, action_entity_type, action_shadowing, enumerated_below, external_below_enumerated, invalid_action_type, type_shadowing, undeclared_action_descendant, undeclared_entity_types, unknown_extension_type}

module _ (extensions : Extensions) (schema : PlainSchema) (names : AreNamesSound schema) (mentions : AreMentionsSound extensions schema)
    (pairs : (lower upper : PlainName) → ListsDescendant schema lower upper → IsPairSound schema lower upper)
    (placed : (entry : PlainUid × SchemaAction) → Contains schema.actions entry → ArePlaced schema entry.1)
    (closed : IsClosed schema) where
  -- no entity type is unknown
  none_unknown : (name : PlainName) → ¬ IsUnknownType schema name
  none_unknown name unknown =
      elim unknown [ inl of ↦ of.3 (mentions.entities of.0 name of.1 of.2) | inr either ↦ elim either [ inl of ↦ of.2 (pairs name of.0 of.1).declared | inr of ↦ of.3 ((placed of.0 of.1).types name of.2) ] ]

  -- no refusal names a fault
  pub no_fault : IsValidSchema extensions schema
  no_fault (undeclared_entity_types []) h = h.0 refl
  no_fault (undeclared_entity_types (name ∷ rest)) h = none_unknown name (h.1 name (Contains-cons name rest name (inl refl)))
  no_fault (unknown_extension_type name) h = h.3 (mentions.extension_types h.0 name h.1 h.2)
  no_fault (action_entity_type name) h = names.types name h.0 h.1
  no_fault (invalid_action_type uid) h = h.1 (names.actions uid h.0)
  no_fault (action_cycle uid) h = closed.acyclic uid h
  no_fault (external_below_enumerated lower upper) h = (pairs lower upper (closed.types lower upper h.2)).not_external h.1 h.0
  no_fault (enumerated_below lower upper) h = (pairs lower upper (closed.types lower upper h.1)).not_enumerated h.0
  no_fault (undeclared_action_descendant uid) h = h.2 ((placed (h.0, h.1.0) h.1.1).descendants uid h.1.2)
  no_fault (type_shadowing plain qualified) h = names.no_type_shadows plain qualified h.0 h.1 h.2
  no_fault (action_shadowing plain qualified) h = names.no_action_shadows plain qualified h.0 h.1 h.2
  no_fault _ h = h
