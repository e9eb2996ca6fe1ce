use Rattle.std.proofs.Common.{◌≡◌, ◌++◌, [], None, Some, map, ap, ap₂, sym, subst, ◌∙◌, option_map}
use Rattle.std.proofs.lemmas.List.{append-nil}
use Rattle.std.specs.BTreeMap.{insert_entry}
use Rattle.cedar_schema_text.proofs.FragmentLemmas.{by_name, empty_behind, namespace_order}
use Rattle.cedar_schema_text.specs.Here.{empty_shown}
use Rattle.cedar_schema_text.specs.Meaning.{in_order, namespace_cmp}
use Rattle.cedar_schema_text.specs.Shown.{definition_shown, namespaces_shown}
use Rattle.cedar_schema_text.proofs.meaning.with_empty.Goals as goal

pub returns-in-None : goal.returns-in-None
returns-in-None c =
    λ before same. same ∙ ap (in_order namespace_cmp) (sym (ap (λ it. before ++ empty_shown it) c.in-None.is ∙ append-nil before))

pub returns-in_ok-put-in-Some : goal.returns-in_ok-put-in-Some
returns-in_ok-put-in-Some c =
    λ before same. empty_behind c.args.definitions.entries c.put.new.map.entries before c.in-Some.it same c.in_ok-put-in-Some.ensures
    ∙ ap (λ it. in_order namespace_cmp (before ++ empty_shown it)) (sym c.in-Some.is)
