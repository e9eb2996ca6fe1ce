use Rattle.std.proofs.Common.{◌≡◌, ◌∙◌, ◌++◌, refl, sym, ap, codes, take}
use Rattle.std.proofs.Output.{has_written_append, has_written_of_eq}
use Rattle.std.proofs.lemmas.List.{take_all}
use Rattle.std.specs.List.{flat_map}
use Rattle.cedar_types.proofs.+show.Goals as goal
use Rattle.cedar_types.proofs.TextLemmas.{entry_text, fields_text-pairs}
use Rattle.cedar_types.specs.Words.{fields_of, fields_text}

pub attributes::AttributesDisplay::fmt-returns-clause-writes : goal.attributes::AttributesDisplay::fmt-returns-clause-writes
attributes::AttributesDisplay::fmt-returns-clause-writes g t c plain ok =
    let items = c.as_slice-name-items.result.now in
    let before = c.in_ok-write_str.ensures.writes plain refl in
    let written = c.loop-name.invariant before.plain in
    let behind = c.write_str-2.ensures.writes written.plain ok in
    let same : flat_map entry_text (take c.loop-name.name-index items) ≡ fields_text (fields_of c.args.self.now) =
    ap (flat_map entry_text) (take_all c.loop-name.name-index items c.loop-name-test.false)
    ∙ sym (fields_text-pairs c.args.self.now items (c.as_slice-name-items.ensures ∙ ap (λ all. all.entries.items) c.deref.ensures)) in
    has_written_of_eq _ _ _ _ _ (ap (λ text. codes "{" ++ text ++ codes "}") same)
    (has_written_append _ _ _ _ _ _ (has_written_append _ _ _ _ _ _ before written) behind)
