use Rattle.std.proofs.Common.{ap, map, refl, sym, ◌∙◌}
use Rattle.std.proofs.lemmas.Bool.{false≢true}
use Rattle.std.specs.Slice.Iter.{iter_rest}
use Rattle.cedar_queries.proofs.AnyLemmas.{any_finds, any_skips}
use Rattle.cedar_queries.proofs.possible.any_has_tags.Goals as goal
use Rattle.cedar_queries.specs.Words.{HasTags, plain_entry, type_name}

pub returns-then-has_tags : goal.returns-then-has_tags
returns-then-has_tags c =
    let test = (HasTags (map plain_entry c.args.types.now.entries)) in
    let so_far = rw (ap (map type_name) c.in-Some.ensures.steps) at c.loop-member.invariant in (
      λ _. any_finds test (type_name c.in-Some.member.now) (map type_name (iter_rest c.next.new.self)) so_far
          (c.has_tags.ensures.0 c.if-has_tags.true),
      λ _. refl,
    )

pub loop-member-preserved : goal.loop-member-preserved
loop-member-preserved c =
    let test = (HasTags (map plain_entry c.args.types.now.entries)) in
    let so_far = rw (ap (map type_name) c.in-Some.ensures.steps) at c.loop-member.invariant in
    any_skips test (type_name c.in-Some.member.now) (map type_name (iter_rest c.next.new.self)) so_far
    (λ may. false≢true (sym c.if-has_tags.false ∙ c.has_tags.ensures.1 may))
