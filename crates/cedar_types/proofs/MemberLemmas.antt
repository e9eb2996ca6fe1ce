-- Entity types that are searched by equality.
use Rattle.std.proofs.Common.{◌≡◌, ◌<◌, List, [], ◌∷◌, length, get_or, map, sym, ◌∙◌, arith, Contains}
use Rattle.std.proofs.lemmas.List.{get_or-map, length-map}
use Rattle.std.proofs.lemmas.List.Elements.{Contains-get_or}
use Rattle.std.specs.Bool.{Decides}
use Rattle.std.specs.List.{list_any}
use Rattle.cedar_ast.proofs.Lists.{list_any-Contains}
use Rattle.cedar_ast.proofs.Names.{entity_type_eq-same}
use Rattle.cedar_ast.specs.contracts.entity_type.EntityTypePartialEq.TheImpl as entity_type_eq
use Rattle.cedar_types.specs.Words.{EntityType, PlainName, type_name}

-- whether an entity type equals a given one decides whether the two have one name
pub eq-Decides : (ty each : EntityType) → Decides ((entity_type_eq.ghosts).eq ty each) (type_name each ≡ type_name ty)
eq-Decides ty each =
    (λ equal. sym ((entity_type_eq-same ty each).0 equal), λ same. (entity_type_eq-same ty each).1 (sym same))

-- a search among entity types by equality decides whether the name is among theirs
pub list_any-names : (ty : EntityType) (types : List EntityType)
    → Decides (list_any ((entity_type_eq.ghosts).eq ty) types) (Contains (map type_name types) (type_name ty))
list_any-names ty types = list_any-Contains type_name (type_name ty) _ (eq-Decides ty) types

-- a name of a list of entity types is that of one of them
pub Contains-named : (types : List EntityType) (name : PlainName) → Contains (map type_name types) name
    → (ty : EntityType) × Contains types ty × (type_name ty ≡ name)
Contains-named [] name among = absurd (omega (arith, among.1))
Contains-named (ty ∷ types) name among =
    let first : EntityType = ty in
    let lt : among.0 < length (first ∷ types) = rw (sym (length-map (first ∷ types) type_name)) among.1 in (
      get_or (first ∷ types) among.0 first,
      Contains-get_or (first ∷ types) among.0 first lt,
      sym (get_or-map type_name (first ∷ types) among.0 first name lt) ∙ among.2,
    )
