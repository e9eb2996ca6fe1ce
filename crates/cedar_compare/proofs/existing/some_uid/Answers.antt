use Rattle.std.proofs.Common.{◌≡◌, subst, sym, ◌∙◌}
use Rattle.std.specs.Option.{option_copied, option_map}
use Rattle.cedar_compare.proofs.RequestLemmas.{may_have_id}
use Rattle.cedar_schema.proofs.Lookups.{schema_keyed}
use Rattle.cedar_compare.proofs.existing.some_uid.Goals as goal
use Rattle.cedar_compare.specs.Words.{MayHave, Text, choice_texts, schema_of, type_name, uid_of}

-- the id is one of the choices of the type, if it has some
pub returns : goal.returns
returns c =
    let name = type_name c.args.name.now in
    let choices = option_map choice_texts (option_copied c.choices_at.result) in
    let uid = uid_of c.new.result in
    let named : uid.ty ≡ name = c.new.ensures.ty ∙ c.in_ok-clone.ensures.name in
    let P : Text → Type 0 = MayHave choices in (
      named,
      may_have_id (schema_of c.args.schema.now) (schema_keyed c.args.schema.now) name choices uid c.choices_at.ensures named
          (subst P (sym c.new.ensures.eid) c.in_ok-eid.ensures),
    )
