use Rattle.std.proofs.Common.{◌≡◌, ◌++◌, List, [], map, take, drop, length, sym, subst, refl, rules, inl, inr}
use Rattle.cedar_name_resolution.proofs.ExitLemmas.{exit_holds}
use Rattle.cedar_written_out.proofs.WholeLemmas.{declared_first, defines_just, fault_of_twice, knows_all, others_after}
use Rattle.cedar_written_out.proofs.written.written_out.Goals as goal
use Rattle.cedar_written_out.specs.Words.{AreFigures, AreListed, Expr, Owner, RawName, common_expr, declared_exprs, definitions, exprs_of_actions, exprs_of_entities, raw_bag, raw_reference, written_actions, written_common, written_entities}
use Rattle.cedar_written_out.specs.declared.listing.Measured.{Measured}

-- a common type that is declared twice is a fault of the bag
pub returns-in_err-indices-clause-fault : goal.returns-in_err-indices-clause-fault
returns-in_err-indices-clause-fault c =
    let bag = raw_bag c.args.fragments.now in
    let known = c.in_ok-declarations.field-0 in
    exit_holds _ _ _ c.from_residual-in_err-indices.ensures.1
    (elim (rw c.deref.ensures.value at c.in_err-indices.ensures.fault) [
      | inl memory ↦ inl memory
      | inr twice ↦ inr (λ fit. fault_of_twice bag c.args.extensions.now known c.append.new.self.items c.in_ok-declarations.ensures.known
          c.in_ok-append.ensures.items fit _ twice)
    ])

-- all that is declared is listed
pub returns-clause-listed : goal.returns-clause-listed
returns-clause-listed c =
    let bag = raw_bag c.args.fragments.now in
    let given = c.args.extensions.now in
    let defined = definitions bag given in
    let types = c.append.new.self.items in
    let known = c.in_ok-declarations.field-0 in
    let is = c.in_ok-declarations.ensures.known in
    let are : types ≡ known.declarations.common_types.items ++ known.built_in.items = c.in_ok-append.ensures.items in
    let once = rw c.deref.ensures.value at c.in_ok-indices.ensures.once in
    let numbered = rw c.deref.ensures.value at c.in_ok-indices.ensures.indices in
    let figures = (rw c.deref-2.ensures.value at c.in_ok-figures.ensures) defined (defines_just bag given known types is are once) in
    let Found : _ → Type 0 = λ list. AreFigures defined list in
    let found = subst Found (sym c.deref-3.ensures.value) figures in
    let count = c.len-declared.result in
    let all : count ≡ length known.declarations.common_types.items = search rules in
    let Listed : List Measured → Type 0 = λ list. AreListed defined [] list in
    let first = (rw c.deref-4.ensures.value at c.in_ok-list_common_types.ensures) defined (knows_all bag given known types is are _ once refl numbered found)
    (written_common RawName raw_reference (drop count types)) (others_after bag given known types is are count) [] (subst Listed (sym c.new-listed.ensures.items) tt) in
    let second = (rw c.deref-5.ensures.value at c.in_ok-list_entity_types.ensures) defined (knows_all bag given known types is are _ once refl numbered found) _ first in
    let third = (rw c.deref-6.ensures.value at c.in_ok-list_actions.ensures) defined (knows_all bag given known types is are _ once refl numbered found) _ second in
    let commons = declared_first bag given known types is are count all in
    let entities = is.declarations.entities in
    let actions = is.declarations.actions in
    let whole : map common_expr (written_common RawName raw_reference (take count types))
    ++ exprs_of_entities (written_entities RawName raw_reference known.declarations.entity_types.items)
    ++ exprs_of_actions (written_actions RawName raw_reference known.declarations.actions.items) ≡ declared_exprs bag =
    λ i. map common_expr (commons i) ++ exprs_of_entities (entities i) ++ exprs_of_actions (actions i) in
    let P : List (Owner × Expr) → Type 0 = λ list. AreListed defined list c.list_actions.new.listed.items in
    subst P whole third
