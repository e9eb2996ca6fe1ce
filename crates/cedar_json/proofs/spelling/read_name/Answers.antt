use Rattle.std.proofs.Common.{IsSomeAnd, Some, ap, subst, sym, ◌∙◌}
use Rattle.cedar_ast.specs.NameText.{IsNameText}
use Rattle.cedar_json.proofs.NameLemmas.{no_name, spelled_name-none, spelled_raw}
use Rattle.cedar_json.proofs.spelling.read_name.Goals as goal

pub returns-in-Ok : goal.returns-in-Ok
returns-in-Ok c =
    spelled_raw c.in-Ok.name c.args.text.now c.in-Ok.ensures.name
    ∙ ap Some (sym (c.new.ensures.name ∙ c.with_loc.ensures.name ∙ c.into_internal.ensures.name))

pub returns-in-NotAName : goal.returns-in-NotAName
returns-in-NotAName c =
    let none = no_name c.args.text.now c.in-Err.fault c.in-Err.ensures.fault c.in-NotAName.is in (
      λ _. spelled_name-none c.args.text.now none,
      λ j e. c.here.ensures.place j (subst (λ text. IsSomeAnd text (λ t. ¬ IsNameText t)) (sym e) none),
    )
