use Rattle.std.specs.List.{flat_map, filter, list_any}
use Rattle.std.specs.Ordering.{is_eq}
use Rattle.std.specs.Prelude.{Bool, not, List, [], ◌∷◌, ◌++◌, map, codes}
use Rattle.cedar_ast.specs.Words.{PlainName, PlainUid, Text, action_word, extension_types, name_cmp, reserved_word}
use Rattle.cedar_ast.specs.declared.extension.Extensions.{Extensions}
use Rattle.cedar_schema_ast.specs.Words.{ActionBody, Body, Declaration, EntityBody, Expr, action, common_type, entity_type, extension_expr, long_expr, name_within, text_expr, truth_expr}
use Rattle.cedar_schema_semantics.specs.Defined.{Defined, names_of}
use Rattle.cedar_schema_semantics.specs.Names.{Names}

-- the declarations of some fragments; what is said of a bag doesn't depend on the order
abbrev pub Bag : Type 0
Bag = List Declaration

-- the full name of what is declared: its id with the namespace before it
abbrev pub declared_name : Declaration → PlainName
declared_name it = name_within it.namespace it.id

-- the uid of an action that is declared: its type is `Action` in the namespace (the Cedar reference
-- on schemas)
abbrev pub declared_uid : Declaration → PlainUid
declared_uid it = record { ty = name_within it.namespace action_word; eid = it.id }

-- a declaration of a common type gives its name and its definition
abbrev pub common_in : PlainName → Body → List (PlainName × Expr)
common_in name (common_type definition) = (name, definition) ∷ []
common_in name _ = []

-- a declaration of an entity type gives its name and what is declared of it
abbrev pub entity_in : PlainName → Body → List (PlainName × EntityBody)
entity_in name (entity_type body) = (name, body) ∷ []
entity_in name _ = []

-- a declaration of an action gives its uid and what is declared of it
abbrev pub action_in : PlainUid → Body → List (PlainUid × ActionBody)
action_in uid (action body) = (uid, body) ∷ []
action_in uid _ = []

-- the common types that are declared
abbrev pub declared_common : Bag → List (PlainName × Expr)
declared_common bag = flat_map (λ it. common_in (declared_name it) it.body) bag

-- the entity types that are declared
abbrev pub declared_entities : Bag → List (PlainName × EntityBody)
declared_entities bag = flat_map (λ it. entity_in (declared_name it) it.body) bag

-- the actions that are declared
abbrev pub declared_actions : Bag → List (PlainUid × ActionBody)
declared_actions bag = flat_map (λ it. action_in (declared_uid it) it.body) bag

-- the names of the types that are declared, common and entity
abbrev pub declared_types : Bag → List PlainName
declared_types bag = map (λ it. it.0) (declared_common bag)
    ++ map (λ it. it.0) (declared_entities bag)

-- the uids of the actions that are declared
abbrev pub action_uids : Bag → List PlainUid
action_uids bag = map (λ it. it.0) (declared_actions bag)

-- the built-in base names with what they stand for: the primitive types, and the extension types
-- that were handed in
abbrev pub built_in_types : Extensions → List (Text × Expr)
built_in_types extensions =
    (codes "Bool", truth_expr) ∷ (codes "Long", long_expr) ∷ (codes "String", text_expr)
    ∷ map (λ name. (name.base, extension_expr name.base)) (extension_types extensions)

-- the full name of a built-in type: its base name in the namespace `__cedar` (RFC 24 and RFC 52)
abbrev pub built_in_name : Text → PlainName
built_in_name word = record { base = word; path = reserved_word ∷ [] }

-- the name of an alias: the base name alone
abbrev pub alias_name : Text → PlainName
alias_name word = record { base = word; path = [] }

-- the built-in common types, each under its full name
abbrev pub built_ins : Extensions → List (PlainName × Expr)
built_ins extensions = map (λ it. (built_in_name it.0, it.1)) (built_in_types extensions)

-- a type of this base name is declared in the empty namespace
abbrev pub is_declared_here : Bag → Text → Bool
is_declared_here bag word = list_any (λ name.
    is_eq (name_cmp (alias_name word) name)) (declared_types bag)

-- the aliases: the built-in types under their base names alone, but for those of which a type is
-- declared in the empty namespace (RFC 24)
abbrev pub aliases : Bag → Extensions → List (PlainName × Expr)
aliases bag extensions = map (λ it.
    (alias_name it.0, it.1)) (filter (λ it.
    not (is_declared_here bag it.0)) (built_in_types extensions))

-- what a bag defines: the common types that are declared, the built-in ones and the aliases, each
-- with its definition; the entity types that are declared, and the types of the declared actions;
-- and the declared actions
abbrev pub definitions : Bag → Extensions → Defined
definitions bag extensions = record {
  common = declared_common bag ++ built_ins extensions ++ aliases bag extensions;
  entities = map (λ it. it.0) (declared_entities bag) ++ map (λ uid. uid.ty) (action_uids bag);
  actions = action_uids bag;
}

-- the names of what a bag defines
abbrev pub defined_names : Bag → Extensions → Names
defined_names bag extensions = names_of (definitions bag extensions)
