-- The types that are declared, in order, and what is listed of them.
use Rattle.std.specs.List.{flat_map}
use Rattle.std.specs.Prelude.{◌≡◌, List, [], ◌∷◌, ◌++◌, map, Option, None, Some}
use Rattle.cedar_ast.specs.Words.{HoldsPairwise, PlainName, PlainUid, name_loc, name_of, type_loc, type_name, uid_loc, uid_of}
use Rattle.cedar_ast.specs.declared.loc.Loc.{Loc}
use Rattle.cedar_schema_ast.specs.Words.{ActionBody, EntityBody, Expr, Requests, elsewhere, enumerated, external, requests, standard}
use Rattle.cedar_schema_semantics.specs.Words.{Bag, Defined, declared_actions, declared_common, declared_entities}
use Rattle.cedar_written_out.specs.Figures.{IsMeasured}
use Rattle.cedar_written_out.specs.declared.listing.DeclaredType.{DeclaredType}
use Rattle.cedar_written_out.specs.declared.listing.DeclaredType.TheVariants as variant
use Rattle.cedar_written_out.specs.declared.listing.Measured.{Measured}

-- what a type is of that is declared: a common type, the shape or the tags of an entity type, or
-- the context of an action
pub data Owner : Type 0 where
  common : PlainName → Owner
  shape : PlainName → Owner
  tags : PlainName → Owner
  context : PlainUid → Owner

-- what the type is of
abbrev pub owner_of : DeclaredType → Owner
owner_of (variant.CommonType name) = common (name_of name)
owner_of (variant.Shape ty) = shape (type_name ty)
owner_of (variant.Tags ty) = tags (type_name ty)
owner_of (variant.Context uid) = context (uid_of uid)

-- where the declaration of what the type is of was written, if that is known
abbrev pub declared_loc : DeclaredType → Option Loc
declared_loc (variant.CommonType name) = name_loc name
declared_loc (variant.Shape ty) = type_loc ty
declared_loc (variant.Tags ty) = type_loc ty
declared_loc (variant.Context uid) = uid_loc uid

-- of a common type its definition
abbrev pub common_expr : PlainName × Expr → Owner × Expr
common_expr it = (common it.0, it.1)

-- the type of the tags of an entity type, if there is one
abbrev pub tags_exprs : PlainName → Option Expr → List (Owner × Expr)
tags_exprs name None = []
tags_exprs name (Some expr) = (tags name, expr) ∷ []

-- of an entity type the shape, and the type of its tags; of an enumerated or external one nothing
abbrev pub entity_exprs : PlainName → EntityBody → List (Owner × Expr)
entity_exprs name (standard parents expr of_tags) = (shape name, expr) ∷ tags_exprs name of_tags
entity_exprs name (enumerated choices) = []
entity_exprs name (external parents) = []

-- of the requests of an action the context; of an external one nothing
abbrev pub context_exprs : PlainUid → Requests → List (Owner × Expr)
context_exprs uid (requests principals resources expr) = (context uid, expr) ∷ []
context_exprs uid elsewhere = []

-- the types that some entity types give
abbrev pub exprs_of_entities : List (PlainName × EntityBody) → List (Owner × Expr)
exprs_of_entities items = flat_map (λ it. entity_exprs it.0 it.1) items

-- the types that some actions give
abbrev pub exprs_of_actions : List (PlainUid × ActionBody) → List (Owner × Expr)
exprs_of_actions items = flat_map (λ it. context_exprs it.0 it.1.applies_to) items

-- the types that a bag declares: those of its common types, of its entity types and of its actions,
-- each kind in the order of the bag
abbrev pub declared_exprs : Bag → List (Owner × Expr)
declared_exprs bag = map common_expr (declared_common bag)
    ++ exprs_of_entities (declared_entities bag) ++ exprs_of_actions (declared_actions bag)

-- what is listed of a type: what it is of, and what is found of its expression
pub record IsListed (defined : Defined) (it : Owner × Expr) (measured : Measured) : Type 0 where
  pub owner : owner_of measured.declared ≡ it.0
  pub figure : IsMeasured defined it.1 measured.figure

-- the types are listed in turn
abbrev pub AreListed : Defined → List (Owner × Expr) → List Measured → Type 0
AreListed defined = HoldsPairwise (IsListed defined)

-- whatever was listed in turn before, after it these are listed too
abbrev pub ListsAlso : Defined → List (Owner × Expr) → List Measured → List Measured → Type 0
ListsAlso defined more before after = (listed : List (Owner × Expr))
    → AreListed defined listed before → AreListed defined (listed ++ more) after
