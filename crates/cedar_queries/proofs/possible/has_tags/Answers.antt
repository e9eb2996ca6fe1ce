use Rattle.std.proofs.Common.{None, Some, sym, ◌∙◌}
use Rattle.std.proofs.lemmas.Bool.{false≢true}
use Rattle.cedar_queries.proofs.DeclaredLemmas.{some_shown, tags_found}
use Rattle.cedar_queries.proofs.possible.has_tags.Goals as goal
use Rattle.cedar_types.specs.Meaning.{ty_of}

pub returns-in-Some : goal.returns-in-Some
returns-in-Some c =
    let tags = tags_found c.args.types.now c.args.ty.now (Some c.in-Some.entity_type.now) (sym c.in-Some.ensures.value) in
    some_shown ty_of c.tag_type.result _ c.is_some.result c.is_some.ensures (c.tag_type.ensures.ty ∙ sym tags)

pub returns-in-None : goal.returns-in-None
returns-in-None c =
    let tags = tags_found c.args.types.now c.args.ty.now None (sym c.in-None.ensures.value) in (
      λ wrong. absurd (false≢true wrong),
      λ some. (let none = sym tags ∙ some.1 in absurd cc),
    )
