use Rattle.std.proofs.Common.{[], ◌∷◌, map}
use Rattle.cedar_ast.specs.Words.{name_of, type_name}
use Rattle.cedar_diagnosis.proofs.AddingLemmas.{adds_nothing}
use Rattle.cedar_diagnosis.proofs.ReferenceLemmas.{undeclared_named, unresolved_names_none}
use Rattle.cedar_diagnosis.proofs.undeclared_types.UndeclaredTypes.add.Goals as goal
use Rattle.cedar_diagnosis.specs.Finding.{IsUndeclaredType}
use Rattle.cedar_diagnosis.specs.Mentioned.{reference_of}
use Rattle.cedar_name_resolution.specs.Words.{held_names}
use Rattle.cedar_schema_semantics.specs.Words.{undeclared_entity_types}

pub returns-in-Some : goal.returns-in-Some
returns-in-Some c =
    undeclared_named c.add_action_type.result (held_names c.args.self.now.defs.now) (reference_of c.args.it.now) (name_of c.in-Some.name)
    (map (λ key. undeclared_entity_types (type_name key ∷ [])) c.args.keys.now.keys) (map (λ key. undeclared_entity_types (type_name key ∷ [])) c.add_action_type.new.keys.keys) (rw c.in-Some.is at c.in_ok-name.ensures) c.add_action_type.ensures

pub returns-in-None : goal.returns-in-None
returns-in-None c =
    let names = held_names c.args.self.now.defs.now in
    let reference = reference_of c.args.it.now in
    adds_nothing (IsUndeclaredType names reference) (map (λ key. undeclared_entity_types (type_name key ∷ [])) c.args.keys.now.keys)
    (λ fault found. unresolved_names_none names reference (rw c.in-None.is at c.in_ok-name.ensures) found.0 found.1)
