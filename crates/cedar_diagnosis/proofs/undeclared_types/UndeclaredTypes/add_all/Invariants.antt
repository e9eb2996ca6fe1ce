use Rattle.std.proofs.Common.{[], ◌∷◌, map, take}
use Rattle.cedar_ast.specs.Words.{type_name}
use Rattle.cedar_diagnosis.proofs.undeclared_types.UndeclaredTypes.add_all.Given as goal
use Rattle.cedar_diagnosis.specs.Adding.{Adds, SomeGives}
use Rattle.cedar_diagnosis.specs.Finding.{IsUndeclaredType}
use Rattle.cedar_diagnosis.specs.Mentioned.{reference_of}
use Rattle.cedar_name_resolution.specs.Words.{held_names}
use Rattle.cedar_schema_semantics.specs.Words.{undeclared_entity_types}

abbrev pub invariant-loop-it : goal.invariant-loop-it
invariant-loop-it l =
    Adds (SomeGives (IsUndeclaredType (held_names l.self.defs.now)) (map reference_of (take l.it-index l.references)))
    (map (λ key. undeclared_entity_types (type_name key ∷ [])) l.fn.keys.keys) (map (λ key. undeclared_entity_types (type_name key ∷ [])) l.keys.keys)
