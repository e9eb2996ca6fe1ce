use Rattle.std.proofs.Common.{IsSomeAnd, subst, sym}
use Rattle.cedar_ast.specs.NameText.{IsNameText, IsReservedNameText}
use Rattle.cedar_json.proofs.NameLemmas.{no_plain_name, plain_name_in-none, plain_name_in-read, plain_name_in-reserved, reserved_name}
use Rattle.cedar_json.proofs.spelling.read_plain_name.Goals as goal

pub returns-in-Ok : goal.returns-in-Ok
returns-in-Ok c = plain_name_in-read c.in-Ok.name c.args.text.now c.in-Ok.ensures.name

pub returns-in-Reserved : goal.returns-in-Reserved
returns-in-Reserved c =
    let text = c.args.text.now in
    let reserved = reserved_name text c.in-Err.fault c.in-Err.ensures.fault c.in-Reserved.is in (
      λ _. plain_name_in-reserved text reserved,
      λ j e. c.here.ensures.place j (subst (λ held. IsSomeAnd held IsReservedNameText) (sym e) reserved),
    )

pub returns-in-NotAName : goal.returns-in-NotAName
returns-in-NotAName c =
    let text = c.args.text.now in
    let none = no_plain_name text c.in-Err.fault c.in-Err.ensures.fault c.in-NotAName.is in (
      λ _. plain_name_in-none text none,
      λ j e. c.here-in-NotAName.ensures.place j (subst (λ held. IsSomeAnd held (λ t. ¬ IsNameText t)) (sym e) none),
    )
