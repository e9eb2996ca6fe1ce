use Rattle.std.proofs.Common.{List, refl, subst, sym, ◌∙◌, codes}
use Rattle.std.proofs.Common.{None as nothing}
use Rattle.std.proofs.lemmas.Bool.{false≢true}
use Rattle.cedar_ast.proofs.Basics.{OnOk-map}
use Rattle.cedar_json.proofs.NameLemmas.{common_key-read}
use Rattle.cedar_json_writer.proofs.WritingLemmas.{checked_as, field_absent}
use Rattle.cedar_json_writer.proofs.WrittenDefinitions.{declarations_free, no_common_types, none_free, some_common_types}
use Rattle.cedar_json_writer.proofs.definitions.write_common_types.Goals as goal
use Rattle.cedar_json_writer.specs.Words.{AddsField, CommonType, Expr, RawName, SoundType, Text, common_key, common_type_text, common_types_held, raw_expr, type_flaws, written_common_types}

-- where there are some, the object holds them all
pub returns-clause-written : goal.returns-clause-written
returns-clause-written c =
    OnOk-map c.write_field.result c.write_field.ensures.written (some_common_types c.args.out.now c.write_field.new.out c.args.all.now
    (λ none. false≢true (sym c.if-is_empty.false ∙ c.is_empty.ensures.1 none)))

-- and they are declarations
pub returns-clause-checked : goal.returns-clause-checked
returns-clause-checked c =
    checked_as c.write_field.result c.write_field.ensures.checked
    (declarations_free common_type_text (λ (it : CommonType RawName). raw_expr nothing it.ty) common_key (λ id. common_key-read id (common_type_text id) refl)
    type_flaws SoundType c.args.all.now.entries) (λ f flawed. flawed)

-- where there are none, none has a flaw
pub returns-then-is_empty-clause-checked : goal.returns-then-is_empty-clause-checked
returns-then-is_empty-clause-checked c =
    none_free (written_common_types c.args.all.now) (no_common_types c.args.all.now (c.is_empty.ensures.0 c.if-is_empty.true))

-- and the field is left out
pub returns-then-is_empty-clause-written : goal.returns-then-is_empty-clause-written
returns-then-is_empty-clause-written c =
    subst (λ (it : List (Text × Expr)). AddsField c.args.out.now c.args.out.now (codes "commonTypes") (common_types_held it))
    (sym (no_common_types c.args.all.now (c.is_empty.ensures.0 c.if-is_empty.true)))
    (field_absent c.args.out.now c.args.out.now (codes "commonTypes") refl)
