use Rattle.std.proofs.Common.{◌≡◌, ◌⊎◌, ◌++◌, ap, ◌∙◌, inl, inr}
use Rattle.std.proofs.lemmas.Result.{err_from_is_err_and}
use Rattle.std.proofs.lemmas.Simd.{map-map}
use Rattle.cedar_name_resolution.proofs.NamesDefined.{shadowing_fault, no_type_fault, no_action_fault, same_aliases, same_common, same_entities}
use Rattle.cedar_name_resolution.proofs.defined.defined_names.Goals as goal
use Rattle.cedar_name_resolution.specs.Words.{Bag, DeclaresJust, Expr, InternalName, IsFault, PlainName, «Type», Written, built_ins, fault_of, held_names, name_of, out_of_memory, written_common, written_expr}

pub returns-in_err-rfc_70_shadowing_checks-clause-fault :
    goal.returns-in_err-rfc_70_shadowing_checks-clause-fault
returns-in_err-rfc_70_shadowing_checks-clause-fault g c =
    let extensions = c.args.extensions.now in
    let found = fault_of c.in_err-rfc_70_shadowing_checks.field-0.0 in
    let at_fault : (bag : Bag) → DeclaresJust bag c.args.declared → (found ≡ out_of_memory) ⊎ IsFault bag extensions found =
    λ bag just. elim c.in_err-rfc_70_shadowing_checks.ensures.fault [
      | inl memory ↦ inl memory
      | inr shadowing ↦ inr (shadowing_fault bag extensions (held_names c.args.declared) just found shadowing)
    ] in
    let p = err_from_is_err_and c.from_residual.result c.from_residual.ensures.1 in
    rw (p.1, p.2) at_fault

-- the built-in types and aliases are those of the bag
pub returns-clause-built_in : goal.returns-clause-built_in
returns-clause-built_in g c bag just =
    c.in_ok-built_in.ensures
    ∙ ap (λ others. built_ins c.args.extensions.now ++ others)
    (same_aliases bag c.args.extensions.now (held_names c.args.declared) just)

pub returns-clause-names : goal.returns-clause-names
returns-clause-names g c bag just =
    let N = g.row.N.Denot in
    let refer = g.N.WrittenName.refer in
    let extensions = c.args.extensions.now in
    let held = held_names c.args.declared in
    let marked = held_names c.in_ok-defined.defined in
    let all = held_names c.in_ok-defs.defs in
    let built_in = c.in_ok-built_in.built_in.items in
    record {
      common = rw c.in_ok-defs.ensures.common_stay
          (same_common bag extensions held just (written_common N refer built_in) marked.common
          (c.in_ok-built_in.ensures
          ∙ ap (λ others. built_ins c.args.extensions.now ++ others)
          (same_aliases bag c.args.extensions.now (held_names c.args.declared) just))
          (rw (map-map (λ (it : PlainName × Expr). it.0) (λ (it : InternalName × Written («Type» N)). (name_of it.0, written_expr N refer it.1)) built_in)
          (rw c.deref.ensures.value at c.in_ok-defined.ensures.common)));
      entities = same_entities bag extensions held just all.entities
          (rw (c.in_ok-defined.ensures.entities_stay, c.in_ok-defined.ensures.actions_stay) at c.in_ok-defs.ensures.entities);
      actions = rw (c.in_ok-defs.ensures.actions_stay, c.in_ok-defined.ensures.actions_stay) just.actions;
    }

pub returns-clause-no_type_shadows : goal.returns-clause-no_type_shadows
returns-clause-no_type_shadows g c bag just =
    no_type_fault bag c.args.extensions.now (held_names c.args.declared) just c.in_ok-rfc_70_shadowing_checks.ensures.types

pub returns-clause-no_action_shadows : goal.returns-clause-no_action_shadows
returns-clause-no_action_shadows g c bag just =
    no_action_fault bag c.args.extensions.now (held_names c.args.declared) just c.in_ok-rfc_70_shadowing_checks.ensures.actions
