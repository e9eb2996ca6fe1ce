use Rattle.std.specs.Prelude.{true, false, List, [], ◌∷◌, ◌++◌, Some, None, codes}
use Rattle.cedar_ast.specs.Words.{PlainName, Text, action_word}
use Rattle.cedar_schema_ast.specs.Words.{Body, Declaration, Expr, Members, Reference, action, common_type, entity_type, enumerated, external, long_expr, member, named, no_member, record_expr, reference_to, requests, set_expr, standard}
use Rattle.cedar_schema_ast.specs.declared.json_schema.reference_type.ReferenceType.{ReferenceType}
use Rattle.cedar_schema_ast.specs.declared.json_schema.reference_type.ReferenceType.TheVariants.{Entity, CommonOrEntity}
use Rattle.cedar_schema_semantics.specs.Bag.{Bag, alias_name}

-- the namespace `N`
abbrev pub sample_namespace : PlainName
sample_namespace = alias_name (codes "N")

-- a name within `N`
abbrev pub within_sample : Text → PlainName
within_sample word = record { base = word; path = codes "N" ∷ [] }

-- a reference that is written in the empty namespace, to a name without a path
abbrev pub refer_here : ReferenceType → Text → Reference
refer_here kind word = reference_to None kind (alias_name word)

-- a reference that is written in `N`, to a name without a path
abbrev pub refer_within : ReferenceType → Text → Reference
refer_within kind word = reference_to (Some sample_namespace) kind (alias_name word)

-- a common type in the empty namespace
abbrev pub common_here : Text → Expr → Declaration
common_here word definition = record { namespace = None; id = word; body = common_type definition }

-- what is declared in `N` under an id
abbrev pub declared_within : Text → Body → Declaration
declared_within word body = record { namespace = Some sample_namespace; id = word; body = body }

-- what is declared of a standard entity type without parents, attributes and tags
abbrev pub plain_entity : Body
plain_entity = entity_type (standard [] (record_expr no_member false) None)

-- a standard entity type in the empty namespace, without tags
abbrev pub entity_here : Text → List Reference → Members → Declaration
entity_here word parents members = record {
  namespace = None;
  id = word;
  body =
      entity_type (standard parents (record_expr members false) None);
}

-- an action in the empty namespace, without parents, for some principals and no resources
abbrev pub action_here : Text → List Reference → Declaration
action_here id principals =
    record {
      namespace = None;
      id = id;
      body =
          action (record {
            has_attributes = false;
            parents = [];
            applies_to = requests principals [] (record_expr no_member false);
          });
    }

-- the definition of `A` in a cycle: it refers to `B`, and to the alias of a built-in type
abbrev pub cycle_first : Expr
cycle_first =
    record_expr (member (codes "b") true (named (refer_here CommonOrEntity (codes "B")))
    (member (codes "n") true (named (refer_here CommonOrEntity (codes "Long"))) no_member)) false

-- the definition of `B` in a cycle: it refers to `A`
abbrev pub cycle_second : Expr
cycle_second = set_expr (named (refer_here CommonOrEntity (codes "A")))

-- two common types that refer to each other
abbrev pub cycle_bag : Bag
cycle_bag = common_here (codes "A") cycle_first ∷ common_here (codes "B") cycle_second ∷ []

-- in `N` a common type `T` and an entity type `T`
abbrev pub both_bag : Bag
both_bag =
    declared_within (codes "T") (common_type long_expr)
    ∷ declared_within (codes "T") plain_entity
    ∷ []

-- an entity type with the name of a built-in type
abbrev pub alias_bag : Bag
alias_bag = entity_here (codes "String") [] no_member ∷ []

-- an entity type in the empty namespace, and a common type of its base name in `N`
abbrev pub shadow_bag : Bag
shadow_bag = entity_here (codes "User") [] no_member
    ∷ declared_within (codes "User") (common_type long_expr) ∷ []

-- two actions, of the types `Action` and `N::Action`
abbrev pub actions_bag : Bag
actions_bag =
    action_here (codes "read") []
    ∷ declared_within (codes "view")
    (action (record {
      has_attributes = false;
      parents = [];
      applies_to = requests [] [] (record_expr no_member false);
    }))
    ∷ []

-- an enumerated entity type, one below it, and an external one below that
abbrev pub tint_bag : Bag
tint_bag =
    record {
      namespace = None;
      id = codes "Color";
      body = entity_type (enumerated (codes "red" ∷ []));
    }
    ∷ entity_here (codes "Shade") (refer_here Entity (codes "Color") ∷ []) no_member
    ∷ record {
      namespace = None;
      id = codes "Tint";
      body = entity_type (external (refer_here Entity (codes "Shade") ∷ []));
    }
    ∷ []

-- the same, where the lowest has a definition besides
abbrev pub known_tint_bag : Bag
known_tint_bag = tint_bag ++ entity_here (codes "Tint") [] no_member ∷ []

-- an enumerated entity type that an external declaration gives a parent
abbrev pub painted_bag : Bag
painted_bag =
    record {
      namespace = None;
      id = codes "Color";
      body = entity_type (enumerated (codes "red" ∷ []));
    }
    ∷ record {
      namespace = None;
      id = codes "Color";
      body = entity_type (external (refer_here Entity (codes "Paint") ∷ []));
    }
    ∷ entity_here (codes "Paint") [] no_member
    ∷ []

-- an entity type with an external declaration and a definition, each with a parent of its own
abbrev pub linked_bag : Bag
linked_bag =
    record {
      namespace = None;
      id = codes "User";
      body = entity_type (external (refer_here Entity (codes "Group") ∷ []));
    }
    ∷ entity_here (codes "User") (refer_here Entity (codes "Team") ∷ []) no_member
    ∷ entity_here (codes "Group") [] no_member
    ∷ entity_here (codes "Team") [] no_member
    ∷ []

-- an external declaration of `U` with these parents
abbrev pub external_here : List Reference → Declaration
external_here parents = record
    { namespace = None; id = codes "U"; body = entity_type (external parents) }

-- an external entity type that two declarations give a parent each
abbrev pub apart_bag : Bag
apart_bag = external_here (refer_here Entity (codes "A") ∷ [])
    ∷ external_here (refer_here Entity (codes "B") ∷ []) ∷ []

-- the same in one declaration
abbrev pub together_bag : Bag
together_bag = external_here (refer_here Entity (codes "B") ∷ refer_here Entity (codes "A") ∷ [])
    ∷ []

-- two entity types, each below the other
abbrev pub ring_bag : Bag
ring_bag = entity_here (codes "A") (refer_here Entity (codes "B") ∷ []) no_member
    ∷ entity_here (codes "B") (refer_here Entity (codes "A") ∷ []) no_member ∷ []

-- an action whose principal is of the action's own type
abbrev pub principal_bag : Bag
principal_bag = action_here (codes "view") (refer_here Entity action_word ∷ []) ∷ []

-- the entity types `T` and `N::T`
abbrev pub nested_bag : Bag
nested_bag = entity_here (codes "T") [] no_member ∷ declared_within (codes "T") plain_entity ∷ []

-- a common type that nothing refers to, an open record
abbrev pub open_bag : Bag
open_bag = common_here (codes "X") (record_expr no_member true) ∷ []

-- an external entity type
abbrev pub external_bag : Bag
external_bag = record { namespace = None; id = codes "U"; body = entity_type (external []) } ∷ []

-- a record type with an attribute that isn't required
abbrev pub optional_record : Expr
optional_record = record_expr (member (codes "a") false long_expr no_member) false
