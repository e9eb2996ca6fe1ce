use Rattle.std.proofs.Common.{◌≡◌, map, rules}
use Rattle.std.proofs.lemmas.Map.Iter.{iter_end}
use Rattle.std.specs.Map.Iter.{deref}
use Rattle.cedar_ast.specs.EntityType.{type_name}
use Rattle.cedar_queries.proofs.BorrowedLemmas.{borrowed_more}
use Rattle.cedar_queries.proofs.descent.add_descendants.Goals as goal
use Rattle.cedar_schema_elements.proofs.SetLemmas.{types_once}

pub returns-clause-names : goal.returns-clause-names
returns-clause-names c =
    let all : map deref c.loop-descendant.yielded ≡ c.args.entity_type.now.descendants.keys = search (rules, iter_end) in
    borrowed_more type_name c.args.names.now.items c.loop-descendant.yielded c.loop-descendant.names.items _ c.loop-descendant.invariant all

pub returns-clause-once : goal.returns-clause-once
returns-clause-once c = types_once c.args.entity_type.now.descendants.keys c.into_iter-descendant-iterator.ensures.into_iter_gives.4
