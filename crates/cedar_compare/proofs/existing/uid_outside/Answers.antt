use Rattle.std.proofs.Common.{◌≡◌, Option, None, subst, sym, ◌∙◌}
use Rattle.std.specs.Option.{option_copied, option_map}
use Rattle.cedar_compare.proofs.RequestLemmas.{lacks_choice, may_have_id, uid_found}
use Rattle.cedar_schema.proofs.Lookups.{schema_keyed}
use Rattle.cedar_compare.proofs.existing.uid_outside.Goals as goal
use Rattle.cedar_compare.specs.Words.{Eid, IsIdOutside, MayHave, Text, choice_texts, eid_text, schema_of, type_name, uid_of}

-- the id is one that the old version's choices have and the new version's lack
pub returns-in_ok-clone-in-Some : goal.returns-in_ok-clone-in-Some
returns-in_ok-clone-in-Some c =
    let name = type_name c.args.name.now in
    let old = option_map choice_texts (option_copied c.choices_at-choices.result) in
    let new = option_map choice_texts (option_copied c.choices_at.result) in
    let uid = uid_of c.new.result in
    let named : uid.ty ≡ name = c.new.ensures.ty ∙ c.in_ok-clone-in-Some.ensures.name in
    let P : Option Eid → Type 0 = λ found. IsIdOutside old new (option_map eid_text found) in
    let outside = subst P c.in-Some.is c.in_ok-eid.ensures in
    let Q : Text → Type 0 = MayHave old in
    let R : Text → Type 0 = λ id. ¬ MayHave new id in (
      (
        named,
        may_have_id (schema_of c.args.old.now) (schema_keyed c.args.old.now) name old uid c.choices_at-choices.ensures named
            (subst Q (sym c.new.ensures.eid) outside.0),
      ),
      lacks_choice (schema_of c.args.new.now) (schema_keyed c.args.new.now) name new uid c.choices_at.ensures named
          (subst R (sym c.new.ensures.eid) outside.1),
    )

-- no id is
pub returns-in-None : goal.returns-in-None
returns-in-None c =
    let name = type_name c.args.name.now in
    let old = option_map choice_texts (option_copied c.choices_at-choices.result) in
    let new = option_map choice_texts (option_copied c.choices_at.result) in
    let P : Option Eid → Type 0 = λ found. IsIdOutside old new (option_map eid_text found) in
    let within = subst P c.in-None.is c.in_ok-eid.ensures in
    uid_found (schema_of c.args.old.now) (schema_of c.args.new.now) (schema_keyed c.args.old.now) (schema_keyed c.args.new.now) name old new c.choices_at-choices.ensures
    c.choices_at.ensures None (λ uid wrong. absurd cc) (λ same id may. within id may)
