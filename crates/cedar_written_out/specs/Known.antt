-- What is known as types are measured.
use Rattle.std.specs.Prelude.{◌≡◌, ℕ, List, Option, Some, slice_get}
use Rattle.cedar_ast.specs.Words.{PlainName, Twice}
use Rattle.cedar_elaboration.specs.Words.{AreIndices, indexed_names, item_names}
use Rattle.cedar_fragments.specs.Words.{HoldsJust, held_names}
use Rattle.cedar_schema_ast.specs.Words.{Expr, Reference}
use Rattle.cedar_schema_semantics.specs.Words.{Defined, MayNameCommon, Names, Refers, ResolvesTo, names_of}
use Rattle.cedar_written_out.specs.Figures.{IsMeasured, figure_at}
use Rattle.cedar_written_out.specs.declared.figure.Figure.{Figure}
use Rattle.cedar_written_out.specs.declared.measuring.FigureScope.{FigureScope}

-- the names are just those of what is defined, and the common types that are defined are these, in
-- this order and each once
pub record DefinesJust (items : List (PlainName × Expr)) (held : Names)
    (defined : Defined) : Type 0 where
  pub common : defined.common ≡ items
  pub names : HoldsJust held (names_of defined)
  pub once : (name : PlainName) → ¬ Twice (item_names items) name

-- at each place stands what is found of the common type there
abbrev pub AreFigures : Defined → List (Option Figure) → Type 0
AreFigures defined figures = (place : ℕ) (item : PlainName × Expr)
    → slice_get defined.common place ≡ Some item
    → IsMeasured defined item.1 (figure_at figures place)

-- of what is defined all is known: the names, the indices of the common types, and their figures
pub record KnowsAll (defined : Defined) (scope : FigureScope) : Type 0 where
  pub defines : DefinesJust defined.common (held_names scope.defs.now) defined
  pub indices : AreIndices (item_names defined.common) (indexed_names scope.indices.now)
  pub figures : AreFigures defined scope.figures.now

-- of what is defined enough is known for the expression: the names, the indices of the common
-- types, and the figures of those that it names
pub record Knows (defined : Defined) (scope : FigureScope) (expr : Expr) : Type 0 where
  pub defines : DefinesJust defined.common (held_names scope.defs.now) defined
  pub indices : AreIndices (item_names defined.common) (indexed_names scope.indices.now)
  pub figures : (reference : Reference) → Refers expr reference → MayNameCommon reference.kind
      → (item : PlainName × Expr) (place : ℕ) → ResolvesTo (names_of defined) reference item.0
      → slice_get defined.common place ≡ Some item
      → IsMeasured defined item.1 (figure_at scope.figures.now place)
