use Rattle.std.proofs.Common.{◌≡◌, Err, map, ap, sym, ◌∙◌}
use Rattle.std.proofs.lemmas.Result.{IfOk-weaker}
use Rattle.cedar_queries.proofs.JoinedLemmas.{fields_in, joined_open, joined_type}
use Rattle.cedar_queries.proofs.known.joined_attributes.Goals as goal
use Rattle.cedar_queries.specs.Words.{AreKnownOfAll, fields_of, lub_names, plain_entry, ty_of}

pub attributes_of-requires : goal.attributes_of-requires
attributes_of-requires c =
    let types = map plain_entry c.args.types.now.entries in
    let reduced = rw (ap (map ty_of) c.deref.ensures.value, c.in_ok-records.ensures.records) at c.in-Ok.ensures in
    rw (joined_type types (lub_names c.args.lub.now) c.in_ok-records.ensures.members (ty_of c.in-Ok.join) reduced).1 tt

pub returns-in-Ok : goal.returns-in-Ok
returns-in-Ok c =
    let types = map plain_entry c.args.types.now.entries in
    let names = lub_names c.args.lub.now in
    let reduced = rw (ap (map ty_of) c.deref.ensures.value, c.in_ok-records.ensures.records) at c.in-Ok.ensures in
    let joined = joined_type types names c.in_ok-records.ensures.members (ty_of c.in-Ok.join) reduced in
    let known : AreKnownOfAll types names joined.0 = rw joined.1 at reduced in
    let same : joined.0 ≡ fields_of c.attributes_of.result = ap fields_in (sym joined.1 ∙ c.attributes_of.ensures.1) in
    IfOk-weaker c.without_locations.result _ (λ attrs. AreKnownOfAll types names (fields_of attrs))
    (λ attrs bare. rw (same, ← bare) at known) c.without_locations.ensures

pub unreachable-requires : goal.unreachable-requires
unreachable-requires c =
    let types = map plain_entry c.args.types.now.entries in
    let answer = Err c.in-Err-Help.field-0-0 in
    let reduced = rw (c.in-Err-Help.field-0-is, ap (map ty_of) c.deref.ensures.value, c.in_ok-records.ensures.records) at c.in-Err-Help.ensures in
    let wrong = (joined_open types (lub_names c.args.lub.now) c.in_ok-records.ensures.members answer reduced).1 in
    absurd cc
