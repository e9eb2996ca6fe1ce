use Rattle.std.proofs.Common.{◌++◌, sym, ◌∙◌}
use Rattle.std.proofs.lemmas.List.Folds.{list_any-append}
use Rattle.cedar_ast.specs.contracts.entity_type.EntityTypePartialEq.TheImpl as entity_type_eq
use Rattle.cedar_schema_elements.proofs.SetLemmas.{tied-type, type_search}
use Rattle.cedar_schema_elements.proofs.entity_type_node.ValidatorEntityTypeTCNodeEntityType.add_edges_to.Goals as goal

pub joined-requires-clause-equal : goal.joined-requires-clause-equal
joined-requires-clause-equal c item answer ran = tied-type item ran.shown.now answer ran.shows ran.says.met.0

pub returns-clause-added : goal.returns-clause-added
returns-clause-added c other =
    let keys = c.args.keys.items in
    let old = c.args.self.now.descendants.keys in
    sym (type_search other c.in_ok-self.field-0.keys) ∙ c.in_ok-self.ensures.keys other ∙ type_search other (keys ++ old)
    ∙ list_any-append ((entity_type_eq.ghosts).eq other) keys old
