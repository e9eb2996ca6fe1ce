use Rattle.std.proofs.Common.{[], map, ap, refl, sym}
use Rattle.cedar_schema_elements.proofs.AncestorLemmas.{none_above, some_above}
use Rattle.cedar_schema_elements.specs.Ancestors.{upper_set}
use Rattle.cedar_schema_writer.proofs.Answered.{ok_to, on_to}
use Rattle.cedar_schema_writer.proofs.Refusals.{refusal_weaker}
use Rattle.cedar_schema_writer.proofs.Written.{none_there}
use Rattle.cedar_schema_writer.proofs.parents.write_parents.Goals as goal

-- the names written are those of the keys in the set above the node, and these are its uppers
pub returns-in-Some-clause-names : goal.returns-in-Some-clause-names
returns-in-Some-clause-names g c =
    let above = some_above g.K.WrittenKey.named _ c.in-Some.above.now (sym c.in-Some.ensures.value) in
    ok_to _ _ (λ parents names upper. (
      λ among. (above upper).1 (rw names at among),
      λ stands. rw names ((above upper).0 stands),
    ))
    c.write_keys.result c.write_keys.ensures.names

-- each upper is in that set, and all keys in it were written without ambiguity
pub returns-in-Some-clause-no_other : goal.returns-in-Some-clause-no_other
returns-in-Some-clause-no_other g c =
    let above = some_above g.K.WrittenKey.named _ c.in-Some.above.now (sym c.in-Some.ensures.value) in
    on_to _ _ (λ clear upper stands. clear upper ((above upper).0 stands)) c.write_keys.result c.write_keys.ensures.no_other

-- the ambiguous key for which the set was refused is an upper of the node
pub returns-in-Some-clause-refusal : goal.returns-in-Some-clause-refusal
returns-in-Some-clause-refusal g c =
    let above = some_above g.K.WrittenKey.named _ c.in-Some.above.now (sym c.in-Some.ensures.value) in
    refusal_weaker _ _ (λ some. (some.0, (above some.0).1 some.1, some.2)) c.write_keys.result c.write_keys.ensures.refusal

-- nothing stands above the node, and nothing is written
pub returns-in-None-clause-names : goal.returns-in-None-clause-names
returns-in-None-clause-names g c = λ upper.
    let above = none_above g.K.WrittenKey.named (upper_set g.K.Ord.cmp c.args.ancestors.now c.args.lower.now) []
    (sym c.in-None.ensures.value) refl upper in (
      λ among. absurd (none_there _ upper (ap (map g.K.WrittenKey.written) c.new.ensures.items) among),
      λ stands. absurd (none_there [] upper refl (above.0 stands)),
    )

-- nothing stands above the node, so no upper is ambiguous
pub returns-in-None-clause-no_other : goal.returns-in-None-clause-no_other
returns-in-None-clause-no_other g c = λ upper stands.
    let above = none_above g.K.WrittenKey.named (upper_set g.K.Ord.cmp c.args.ancestors.now c.args.lower.now) []
    (sym c.in-None.ensures.value) refl upper in
    absurd (none_there [] upper refl (above.0 stands))
