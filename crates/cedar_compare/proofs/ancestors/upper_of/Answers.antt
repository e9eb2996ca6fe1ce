use Rattle.std.proofs.Common.{Option, subst, sym}
use Rattle.std.specs.Option.{option_copied, option_map}
use Rattle.cedar_compare.proofs.ancestors.upper_of.Goals as goal
use Rattle.cedar_compare.specs.Words.{Eid, IsIdOutside, MayHave, SchemaEntityType, choice_texts, eid_text, kind_choices, plain_type, type_name}

pub returns-in-Some-2-clause-kept : goal.returns-in-Some-2-clause-kept
returns-in-Some-2-clause-kept c = λ it among may.
    let id = eid_text c.in-Some-2.eid in
    let old = option_map choice_texts (option_copied c.choices_of-choices.result) in
    let new = option_map choice_texts (option_copied c.choices_of.result) in
    let found = subst (λ (o : Option Eid). IsIdOutside old new (option_map eid_text o)) c.in-Some-2.is c.in_ok-eid-2.ensures in
    let same = c.requires.new_keyed.types (type_name c.args.name.now) it (plain_type c.in-Some.new.now) among c.in-Some.ensures in
    found.1 (subst (λ choices. MayHave choices id) (sym c.choices_of.ensures)
    (subst (λ (t : SchemaEntityType). MayHave (kind_choices t.kind) id) same may))
