use Rattle.std.proofs.Common.{◌≡◌, ◌<◌, get_or, map, [], subst, sym, ◌∙◌, Some}
use Rattle.std.proofs.lemmas.List.{get_or_default, length-map}
use Rattle.std.proofs.lemmas.Map.Text.{btree_map_updates_str}
use Rattle.cedar_schema_text.proofs.RepeatLemmas.{few_once, once_again, once_more}
use Rattle.cedar_schema_text.specs.Faults.{repeats}
use Rattle.cedar_schema_text.specs.Named.{named}
use Rattle.cedar_schema_text.specs.declared.once.Named.{Named}
use Rattle.cedar_schema_text.proofs.once.check_once.Goals as goal

-- what stands for no name
abbrev none : Named
none = record {
  text = record { ref_ptr = (0, 0); now = [] };
  loc = record { source = 0; start = 0; stop = 0 };
}

pub returns-then-names-lt2-clause-none : goal.returns-then-names-lt2-clause-none
returns-then-names-lt2-clause-none c =
    let names = c.args.names.now in
    few_once c.args.what (map named names) (subst (λ n. n < 2) (sym (length-map names named)) c.if-names-lt2.true)

pub returns-in-Some-clause-fault : goal.returns-in-Some-clause-fault
returns-in-Some-clause-fault c =
    let names = c.args.names.now in
    let i = c.loop-name.name-index in
    let x = get_or names i none in
    c.again.ensures (repeats c.args.what (map named names))
    (once_again c.args.what names i x c.loop-name.places c.in-Some.first c.loop-name-test.true (get_or_default names i none x c.loop-name-test.true)
    (sym c.in_ok-first.ensures.old ∙ c.in-Some.is) c.loop-name.invariant)

pub loop-name-preserved : goal.loop-name-preserved
loop-name-preserved c =
    let names = c.args.names.now in
    let i = c.loop-name.name-index in
    let x = get_or names i none in
    once_more c.args.what names i x c.loop-name.places c.insert.new.self c.loop-name-test.true (get_or_default names i none x c.loop-name-test.true)
    (sym c.in_ok-first.ensures.old ∙ c.in_default.is)
    (btree_map_updates_str x.text.now c.loop-name.places c.insert.new.self (Some x.loc) c.in_ok-first.ensures.updates) c.loop-name.invariant
