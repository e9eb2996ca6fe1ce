use Rattle.std.proofs.Common.{ap, map, refl, ◌∙◌}
use Rattle.std.proofs.lemmas.Bool.{false≢true}
use Rattle.cedar_queries.proofs.LookupLemmas.{plain_type, type_known}
use Rattle.cedar_queries.proofs.SelectedLemmas.{keys_where-map}
use Rattle.cedar_queries.proofs.descent.ancestors.Goals as goal
use Rattle.cedar_queries.specs.Words.{has_name, type_name}

pub returns-then-not-contains_key-clause-known : goal.returns-then-not-contains_key-clause-known
returns-then-not-contains_key-clause-known c =
    let known = type_known c.args.types.now c.args.ty.now in
    let found = c.contains_key.ensures in
    let unknown = c.if-not-contains_key.true in (
      λ wrong. absurd (false≢true wrong),
      λ among. let yes = known.1 among in cc,
    )

pub returns-clause-known : goal.returns-clause-known
returns-clause-known c =
    let known = type_known c.args.types.now c.args.ty.now in
    let found = c.contains_key.ensures in
    let there = c.if-not-contains_key.false in (
      λ _. known.0 (cc),
      λ _. refl,
    )

pub returns-clause-names : goal.returns-clause-names
returns-clause-names c =
    ap (map type_name) c.new.ensures
    ∙ keys_where-map type_name plain_type (λ it. has_name it.descendants (type_name c.args.ty.now)) c.args.types.now.entries
