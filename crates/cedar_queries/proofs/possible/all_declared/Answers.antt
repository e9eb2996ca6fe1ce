use Rattle.std.proofs.Common.{ap, map, refl, ◌∙◌}
use Rattle.std.proofs.lemmas.Bool.{false≢true}
use Rattle.std.specs.Slice.Iter.{iter_rest}
use Rattle.cedar_queries.proofs.AllLemmas.{all_cons, all_none}
use Rattle.cedar_queries.proofs.LookupLemmas.{type_known}
use Rattle.cedar_queries.proofs.possible.all_declared.Goals as goal
use Rattle.cedar_queries.specs.Words.{IsDeclared, plain_entry, type_name}

-- at first all members are left
pub loop-member-init : goal.loop-member-init
loop-member-init c =
    let same = ap (λ it. map type_name (iter_rest it)) c.into_iter-member-iterator.ensures.into_iter_gives ∙ c.iter-member-items.ensures.names in (
      λ all. rw same all,
      λ all. rw same at all,
    )

-- a member that is not declared refutes it
pub returns-then-not-contains_key : goal.returns-then-not-contains_key
returns-then-not-contains_key c =
    let test = IsDeclared (map plain_entry c.args.types.now.entries) in
    let member = c.in-Some.member.now in
    let so_far = rw (ap (map type_name) c.in-Some.ensures.steps) at c.loop-member.invariant in
    let unknown = c.if-not-contains_key.true in
    let found = c.contains_key.ensures in (
      λ wrong. absurd (false≢true wrong),
      λ all.
          let declared = (all_cons test (type_name member) (map type_name (iter_rest c.next.new.self))).0 (so_far.0 all) in
          let there = (type_known c.args.types.now member).1 declared.0 in cc,
    )

-- one more member is declared
pub loop-member-preserved : goal.loop-member-preserved
loop-member-preserved c =
    let test = IsDeclared (map plain_entry c.args.types.now.entries) in
    let member = c.in-Some.member.now in
    let rest = map type_name (iter_rest c.next.new.self) in
    let so_far = rw (ap (map type_name) c.in-Some.ensures.steps) at c.loop-member.invariant in
    let known = c.if-not-contains_key.false in
    let found = c.contains_key.ensures in
    let declared = (type_known c.args.types.now member).0 cc in (
      λ all. ((all_cons test (type_name member) rest).0 (so_far.0 all)).1,
      λ others. so_far.1 ((all_cons test (type_name member) rest).1 (declared, others)),
    )

-- at the end none is left
pub returns : goal.returns
returns c = (
  λ _. c.loop-member.invariant.1 (all_none (IsDeclared (map plain_entry c.args.types.now.entries)) type_name
      (iter_rest c.loop-member.member-iterator) c.in-None.ensures.steps.0),
  λ _. refl,
)
