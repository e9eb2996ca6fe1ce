use Rattle.std.proofs.Common.{List, subst, ◌∙◌, Global}
use Rattle.std.proofs.IntoIterSteps.{All-taken}
use Rattle.std.proofs.lemmas.Result.{IfOk-weaker}
use Rattle.std.specs.declared.rc.Rc.{Rc}
use Rattle.std.specs.declared.string.String.{String}
use Rattle.cedar_type_rules.specs.Fields.{IsRecordOf}
use Rattle.cedar_type_rules.specs.declared.open_tag.OpenTag.TheVariants.{ClosedAttributes}
use Rattle.cedar_types.specs.Words.{plain_required, ty_of}
use Rattle.cedar_types.specs.declared.types.Type.{«Type»}
use Rattle.schema_lines.proofs.StatedRecords.{stated_record}
use Rattle.schema_lines.proofs.joined.closed.Goals as goal
use Rattle.schema_lines.specs.Samples.{IsStatedAlone}

pub returns : goal.returns
returns c =
    IfOk-weaker c.record_with_required_attributes.result _ (λ ty. IsStatedAlone (ty_of ty))
    (λ ty made. let P : List (String Global × Rc «Type» Global) → Type 0 = λ items. IsRecordOf (plain_required items) ClosedAttributes (ty_of ty) in
    stated_record c.args.items.items ClosedAttributes (ty_of ty) c.requires
    (subst P (All-taken made.0 made.1 made.3 ∙ made.2.0) made.4)) c.record_with_required_attributes.ensures
