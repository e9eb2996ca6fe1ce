use Rattle.std.proofs.Common.{ap, ◌∙◌}
use Rattle.cedar_ast.proofs.Names.{internal_name_ord-Equal}
use Rattle.cedar_ast.proofs.ShownLemmas.{copy_ties, same_shown}
use Rattle.cedar_ast.specs.contracts.internal_name.InternalNameOrd.TheImpl as internal_name_ord
use Rattle.cedar_schema.proofs.collecting.Located.clone.Goals as goal
use Rattle.cedar_schema.specs.Words.{name_of, shown_common_type, shown_entry, shown_namespace}

pub copied_entries-requires-clause-ties : goal.copied_entries-requires-clause-ties
copied_entries-requires-clause-ties c key answer ran =
    copy_ties (internal_name_ord.ghosts).cmp name_of internal_name_ord-Equal key ran.shown.now answer ran.shows ran.says.met.0

pub returns-clause-common_types : goal.returns-clause-common_types
returns-clause-common_types c =
    same_shown _ shown_common_type
    (λ item copy ran i. record {
      base = (ran.says.met.0 ∙ ap (λ it. (shown_common_type it).base) ran.shows) i;
      at = record {
        name = (ran.says.met.1.0 ∙ ap (λ it. (shown_common_type it).at.name) ran.shows) i;
        loc = (ran.says.met.1.1.0 ∙ ap (λ it. (shown_common_type it).at.loc) ran.shows) i;
      };
      type_loc = (ran.says.met.1.1.1 ∙ ap (λ it. (shown_common_type it).type_loc) ran.shows) i;
    })
    c.args.self.now.common_types.items c.in_ok-copied_items.field-0.items c.in_ok-copied_items.ensures

pub returns-clause-namespaces : goal.returns-clause-namespaces
returns-clause-namespaces c =
    same_shown _ shown_entry
    (λ entry copy ran i. (
      (ran.0.says.met.0 ∙ ap name_of ran.0.shows) i,
      (ran.1.says.met ∙ ap shown_namespace ran.1.shows) i,
    ))
    c.args.self.now.namespaces.entries c.in_ok-copied_entries.field-0.entries c.in_ok-copied_entries.ensures
