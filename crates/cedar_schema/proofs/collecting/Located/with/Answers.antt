use Rattle.std.proofs.Common.{◌≡◌, [], ◌∷◌, ◌++◌, List, ap, map, subst, ◌∙◌}
use Rattle.std.proofs.lemmas.List.{flat_map_more}
use Rattle.std.specs.List.{flat_map}
use Rattle.cedar_schema.proofs.ShownLemmas.{names_shown, shown_more}
use Rattle.cedar_schema.proofs.collecting.Located.with.Goals as goal
use Rattle.cedar_schema.specs.Words.{DefinedNamespace, HoldsNamespaces, built_in_namespace, common_types_to_show, definition_common_types, definition_namespaces, fragment_common_types, named_namespaces, shown_common_type}

pub returns : goal.returns
returns g c = λ fragments so_far.
    let N = g.row.N.Denot in
    let A = g.row.A.Denot in
    let fragment = c.args.fragment.now in
    let types : map shown_common_type c.in_ok-with_definitions.field-0.items
    ≡ common_types_to_show N (flat_map (fragment_common_types N A) (fragments ++ fragment ∷ [])) =
    c.in_ok-with_definitions.ensures
    ∙ ((λ i. so_far.types i ++ common_types_to_show N (flat_map (definition_common_types N A) (c.definitions-definitions.ensures i)))
    ∙ shown_more N A fragments fragment) in
    let P : List DefinedNamespace → Type 0 = λ all. HoldsNamespaces all c.in_ok-with_definitions-2.field-0 in
    let before = built_in_namespace ∷ flat_map (named_namespaces N A) fragments in
    record {
      shown = record {
        common_types = names_shown N A (fragments ++ fragment ∷ []) _ types;
        namespaces = subst P
            (ap (λ definitions. before ++ flat_map (definition_namespaces N A) definitions) c.definitions-definitions.ensures
            ∙ flat_map_more (named_namespaces N A) (built_in_namespace ∷ []) fragments fragment)
            (c.in_ok-with_definitions-2.ensures before so_far.shown.namespaces);
      };
      types = types;
    }
