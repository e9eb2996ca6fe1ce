use Rattle.std.proofs.Common.{refl, sym, ◌∙◌}
use Rattle.std.proofs.lemmas.Bool.{false≢true}
use Rattle.cedar_ast.proofs.Basics.{OnOk-map}
use Rattle.cedar_json_writer.proofs.WritingLemmas.{flawless_as}
use Rattle.cedar_json_writer.proofs.WrittenEntityData.{some_tags, tags_absent, tags_free}
use Rattle.cedar_json_writer.proofs.entity_text.write_tags.Goals as goal
use Rattle.cedar_json_writer.specs.Words.{SoundPairs, pairs_flaws, written_pairs}

pub returns-then-is_empty-clause-written : goal.returns-then-is_empty-clause-written
returns-then-is_empty-clause-written c =
    tags_absent c.args.out.now c.args.out.now c.args.tags.now (c.is_empty.ensures.0 c.if-is_empty.true) refl

pub returns-then-is_empty-clause-checked : goal.returns-then-is_empty-clause-checked
returns-then-is_empty-clause-checked c = tags_free c.args.tags.now (c.is_empty.ensures.0 c.if-is_empty.true)

pub returns-clause-written : goal.returns-clause-written
returns-clause-written c =
    OnOk-map c.write_attribute_values.result c.write_attribute_values.ensures.written
    (some_tags c.args.out.now c.write_attribute_values.new.out c.args.tags.now
    (λ none. false≢true (sym c.if-is_empty.false ∙ c.is_empty.ensures.1 none)))

pub returns-clause-checked : goal.returns-clause-checked
returns-clause-checked c =
    let pairs = written_pairs c.args.tags.now in
    flawless_as (pairs_flaws pairs) (SoundPairs pairs) c.write_attribute_values.result c.write_attribute_values.ensures.checked
