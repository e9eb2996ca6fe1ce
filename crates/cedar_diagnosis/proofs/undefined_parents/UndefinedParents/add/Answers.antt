use Rattle.std.proofs.Common.{◌≡◌, [], ◌∷◌, Some, ap, map, sym, subst, ◌∙◌}
use Rattle.cedar_diagnosis.proofs.ActionCycleLemmas.{found_named, found_unnamed}
use Rattle.cedar_diagnosis.proofs.AddingLemmas.{adds_found, adds_nothing}
use Rattle.cedar_diagnosis.proofs.undefined_parents.UndefinedParents.add.Goals as goal
use Rattle.cedar_diagnosis.specs.Finding.{IsUndefinedParent}
use Rattle.cedar_diagnosis.specs.ReferenceKeys.{key_parent, parent_told}
use Rattle.cedar_name_resolution.specs.Words.{held_names}
use Rattle.cedar_schema_ast.specs.Words.{ActionReference, namespace_name, parent_action, raw_reference}
use Rattle.cedar_schema_ast.specs.declared.json_schema.raw_name.RawName.{RawName}
use Rattle.cedar_schema_semantics.specs.Words.{Fault, NamesNoAction, action_not_defined}

-- what is told of a parent that names no action
abbrev told : ActionReference → Fault
told parent = action_not_defined ((parent.id, Some parent.ty) ∷ [])

-- one that names an action isn't added
pub returns-then-is_some : goal.returns-then-is_some
returns-then-is_some c =
    let actions = (held_names c.args.self.now.defs.now).actions in
    let namespace = namespace_name c.args.namespace in
    let parent = parent_action RawName (raw_reference namespace) namespace c.args.parent.now in
    adds_nothing (IsUndefinedParent actions parent) (map parent_told c.args.keys.now.keys)
    (λ fault found.
    found_named actions (key_parent c.in_ok-key.key) c.in_ok-named_action.field-0 (sym c.is_some.ensures ∙ c.if-is_some.true) c.in_ok-named_action.ensures
    (subst (NamesNoAction actions) (sym c.in_ok-key.ensures) found.0))

-- any other is
pub returns : goal.returns
returns c =
    let actions = (held_names c.args.self.now.defs.now).actions in
    let namespace = namespace_name c.args.namespace in
    let parent = parent_action RawName (raw_reference namespace) namespace c.args.parent.now in
    let same : told (key_parent c.in_ok-key.key) ≡ told parent = ap told c.in_ok-key.ensures in
    let none = found_unnamed actions (key_parent c.in_ok-key.key) c.in_ok-named_action.field-0 (sym c.is_some.ensures ∙ c.if-is_some.false) c.in_ok-named_action.ensures in
    adds_found c.add_key.result (IsUndefinedParent actions parent) (map parent_told c.args.keys.now.keys) (map parent_told c.add_key.new.keys.keys)
    (parent_told c.in_ok-key.key) (subst (NamesNoAction actions) c.in_ok-key.ensures none, sym same) (λ fault found. same ∙ found.1) c.add_key.ensures
