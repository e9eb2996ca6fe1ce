use Rattle.std.proofs.Common.{◌≢◌, IsSomeAnd, Some, ap, arith, length, option_map, subst, sym, ◌∙◌}
use Rattle.cedar_ast.specs.NameText.{IsNameText, IsReservedNameText}
use Rattle.cedar_json.proofs.NameLemmas.{namespace_key-name, no_plain_name, plain_name_in-none, plain_name_in-read, plain_name_in-reserved, reserved_name}
use Rattle.cedar_json.proofs.definition_reading.OptionNameKey.read_key.Goals as goal

pub returns-in-Ok : goal.returns-in-Ok
returns-in-Ok c =
    let key = c.args.key.now in
    let some : length key ≢ 0 = grind arith in
    namespace_key-name key some ∙ ap (option_map Some) (plain_name_in-read c.in-Ok.name key c.in-Ok.ensures.name)
    ∙ ap (λ name. Some (Some name)) (sym c.with_loc.ensures.name)

pub returns-in-Reserved : goal.returns-in-Reserved
returns-in-Reserved c =
    let key = c.args.key.now in
    let some : length key ≢ 0 = grind arith in
    let reserved = reserved_name key c.in-Err.fault c.in-Err.ensures.fault c.in-Reserved.is in (
      λ _. namespace_key-name key some ∙ ap (option_map Some) (plain_name_in-reserved key reserved),
      λ j held e. c.here.ensures.place j (subst (λ m. IsSomeAnd m (λ n. IsReservedNameText n.0)) (sym e) reserved),
    )

pub returns-in-NotAName : goal.returns-in-NotAName
returns-in-NotAName c =
    let key = c.args.key.now in
    let some : length key ≢ 0 = grind arith in
    let none = no_plain_name key c.in-Err.fault c.in-Err.ensures.fault c.in-NotAName.is in (
      λ _. namespace_key-name key some ∙ ap (option_map Some) (plain_name_in-none key none),
      λ j held e. c.here-in-NotAName.ensures.place j (subst (λ m. IsSomeAnd m (λ n. ¬ IsNameText n.0)) (sym e) none),
    )
