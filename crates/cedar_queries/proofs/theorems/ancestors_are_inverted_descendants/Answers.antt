use Rattle.std.proofs.Common.{Contains, subst}
use Rattle.std.specs.List.{filter}
use Rattle.cedar_ast.proofs.Basics.{Contains-image}
use Rattle.cedar_ast.proofs.Lists.{Contains-preimage}
use Rattle.cedar_queries.proofs.NameLemmas.{has_name-Decides}
use Rattle.cedar_queries.proofs.SelectedLemmas.{Contains-kept}
use Rattle.cedar_queries.proofs.theorems.ancestors_are_inverted_descendants.Goals as goal
use Rattle.cedar_queries.specs.Words.{PlainName, SchemaEntityType, has_name}
use Rattle.cedar_schema_semantics.proofs.OccurrenceLemmas.{Contains-filter}

pub returns : goal.returns
returns c schema lower upper = (
  λ among.
      let kept = filter (λ (it : PlainName × SchemaEntityType). has_name it.1.descendants lower) schema.entity_types in
      let found = Contains-preimage (λ (it : PlainName × SchemaEntityType). it.0) kept upper among in
      let both = Contains-filter (λ (it : PlainName × SchemaEntityType). has_name it.1.descendants lower) schema.entity_types found.0 found.1 in
      let Stands : PlainName → Type 0 = λ name. Contains schema.entity_types (name, found.0.1) in
      (found.0.1, subst Stands found.2 both.0, (has_name-Decides found.0.1.descendants lower).0 both.1),
  λ lists.
      Contains-image (λ (it : PlainName × SchemaEntityType). it.0)
      (filter (λ (it : PlainName × SchemaEntityType). has_name it.1.descendants lower) schema.entity_types) (upper, lists.0)
      (Contains-kept (λ (it : PlainName × SchemaEntityType). has_name it.1.descendants lower) schema.entity_types (upper, lists.0) lists.1
      ((has_name-Decides lists.0.descendants lower).1 lists.2)),
)
