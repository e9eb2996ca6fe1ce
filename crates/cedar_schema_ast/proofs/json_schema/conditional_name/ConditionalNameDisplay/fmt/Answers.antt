use Rattle.std.proofs.Common.{◌≡◌, ◌-◌, Some, length, slice_get, ap, sym, subst}
use Rattle.std.specs.Fmt.{DisplaysOnOk}
use Rattle.std.specs.Option.{option_map}
use Rattle.cedar_schema_ast.proofs.Lasts.{last-image}
use Rattle.cedar_schema_ast.proofs.json_schema.conditional_name.ConditionalNameDisplay.fmt.Goals as goal
use Rattle.cedar_schema_ast.specs.Words.{last_possibility, name_of, name_text}

pub returns-in-Some-clause-writes : goal.returns-in-Some-clause-writes
returns-in-Some-clause-writes g c =
    let others = c.args.self.now.possibilities.tail.items in
    let is-last : slice_get others (length others - 1) ≡ Some c.in-Some.name.now =
    subst (λ items. slice_get items (length items - 1) ≡ Some c.in-Some.name.now) c.deref.ensures.value
    (sym c.in-Some.ensures.value) in
    let printed : last_possibility c.args.self.now ≡ Some (name_of c.in-Some.name.now) =
    last-image name_of (name_of c.args.self.now.possibilities.head) others c.in-Some.name.now is-last in
    subst (λ text. DisplaysOnOk g.W.Write.write_str_gives c.args.f.now c.fmt.result text c.fmt.new.f)
    (ap (option_map name_text) (sym printed)) c.fmt.ensures.writes
