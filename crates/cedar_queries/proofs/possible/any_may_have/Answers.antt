use Rattle.std.proofs.Common.{ap, map, refl, sym, ◌∙◌}
use Rattle.std.proofs.lemmas.Bool.{false≢true}
use Rattle.std.specs.Slice.Iter.{iter_rest}
use Rattle.cedar_queries.proofs.AnyLemmas.{any_finds, any_skips}
use Rattle.cedar_queries.proofs.possible.any_may_have.Goals as goal
use Rattle.cedar_queries.specs.Words.{MemberMayHave, plain_entry, type_name}

pub returns-then-member_may_have : goal.returns-then-member_may_have
returns-then-member_may_have c =
    let test = (MemberMayHave (map plain_entry c.args.types.now.entries) c.args.name.now) in
    let so_far = rw (ap (map type_name) c.in-Some.ensures.steps) at c.loop-member.invariant in (
      λ _. any_finds test (type_name c.in-Some.member.now) (map type_name (iter_rest c.next.new.self)) so_far
          (c.member_may_have.ensures.0 c.if-member_may_have.true),
      λ _. refl,
    )

pub loop-member-preserved : goal.loop-member-preserved
loop-member-preserved c =
    let test = (MemberMayHave (map plain_entry c.args.types.now.entries) c.args.name.now) in
    let so_far = rw (ap (map type_name) c.in-Some.ensures.steps) at c.loop-member.invariant in
    any_skips test (type_name c.in-Some.member.now) (map type_name (iter_rest c.next.new.self)) so_far
    (λ may. false≢true (sym c.if-member_may_have.false ∙ c.member_may_have.ensures.1 may))
