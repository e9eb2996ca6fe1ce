use Rattle.std.proofs.Common.{◌≡◌, IfOk, None, Option, Result, Some, refl, subst, sym}
use Rattle.std.proofs.lemmas.Result.{IfOk-weaker}
use Rattle.std.specs.Option.{option_cmp}
use Rattle.std.specs.declared.cmp.Ordering.TheVariants.{Equal}
use Rattle.cedar_ast.proofs.Names.{name_ord-Equal}
use Rattle.cedar_ast.proofs.TurnLemmas.{turn_weaker}
use Rattle.cedar_ast.specs.contracts.name.NameOrd.TheImpl as name_ord
use Rattle.cedar_schema_ast.proofs.json_schema.fragment.Fragment.clone.Goals as goal
use Rattle.cedar_schema_ast.specs.Words.{IsDefinitionCopy, IsNamespaceCopy, Memory, Name}

-- the copy of the name of a namespace ties with it
ties : (namespace copy : Option Name) → IsNamespaceCopy namespace copy → option_cmp ((name_ord.ghosts).cmp) namespace copy ≡ Equal
ties None None same = refl
ties (Some name) (Some copy) same = (name_ord-Equal name copy).1 (sym same.0)
ties _ _ same = absurd same

pub copied_entries-requires-clause-ties : goal.copied_entries-requires-clause-ties
copied_entries-requires-clause-ties g c key answer ran =
    let P : Option Name → Type 0 = λ it. IfOk answer (IsNamespaceCopy it) in
    IfOk-weaker answer (IsNamespaceCopy key) (λ copy. option_cmp ((name_ord.ghosts).cmp) key copy ≡ Equal) (λ copy same. ties key copy same)
    (subst P ran.shows ran.says.met)

pub returns : goal.returns
returns g c =
    let N = g.row.N.Denot in
    let alike = g.N.FragmentName.is_alike in
    turn_weaker _ (λ entry other. IsNamespaceCopy entry.0 other.0 × IsDefinitionCopy N alike entry.1 other.1)
    (λ entry copy ran. (
      subst (λ it. IsNamespaceCopy it copy.0) ran.0.shows ran.0.says.met,
      subst (λ it. IsDefinitionCopy N alike it copy.1) ran.1.shows ran.1.says.met,
    )) _ _ c.in_ok-definitions.ensures
