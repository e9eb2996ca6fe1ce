-- What is certain of the declarations of entity types once these are built.
use Rattle.std.specs.Prelude.{Contains, map}
use Rattle.cedar_ast.specs.Words.{PlainName, Text, Twice, extension_types}
use Rattle.cedar_ast.specs.declared.extension.Extensions.{Extensions}
use Rattle.cedar_elaboration.specs.Scope.{extension_name}
use Rattle.cedar_schema_ast.specs.Words.{EntityBody, Expr, Reference}
use Rattle.cedar_schema_semantics.specs.Words.{Bag, CountsInEntity, HasOpenRecord, IsFault, IsParent, MentionsExtension, Refers, ResolvesTo, declared_entities, defined_entities, defined_names, enumerated_below, external_below_enumerated, shape_not_record}

-- no entity type has two definitions; shapes are record types; what counts has no open record, its
-- extension types are handed in, and its references resolve; parents resolve, to declared entity
-- types; no external entity type stands below an enumerated one, and no enumerated one below any
pub record EntityTypesAreSound (bag : Bag) (extensions : Extensions) : Type 0 where
  pub once : (name : PlainName) → ¬ Twice (map (λ it. it.0) (defined_entities bag)) name
  pub records : (name : PlainName) → ¬ IsFault bag extensions (shape_not_record name)
  pub closed : (name : PlainName) (body : EntityBody) (expr : Expr)
      → Contains (declared_entities bag) (name, body)
      → CountsInEntity body expr → ¬ HasOpenRecord expr
  pub extension_types : (name : PlainName) (body : EntityBody) (expr : Expr)
      → Contains (declared_entities bag) (name, body)
      → CountsInEntity body expr → (word : Text) → MentionsExtension expr word
      → Contains (extension_types extensions) (extension_name word)
  pub resolves : (name : PlainName) (body : EntityBody) (expr : Expr)
      → Contains (declared_entities bag) (name, body)
      → CountsInEntity body expr → (reference : Reference) → Refers expr reference
      → (found : PlainName) × ResolvesTo (defined_names bag extensions) reference found
  pub placed : (name : PlainName) (reference : Reference) → IsParent bag name reference
      → (upper : PlainName) × ResolvesTo (defined_names bag extensions) reference upper
  pub parents : (name upper : PlainName) (reference : Reference) → IsParent bag name reference
      → ResolvesTo (defined_names bag extensions) reference upper
      → Contains (map (λ it. it.0) (declared_entities bag)) upper
  pub external_above : (lower upper : PlainName)
      → ¬ IsFault bag extensions (external_below_enumerated lower upper)
  pub enumerated_alone : (lower upper : PlainName)
      → ¬ IsFault bag extensions (enumerated_below lower upper)
