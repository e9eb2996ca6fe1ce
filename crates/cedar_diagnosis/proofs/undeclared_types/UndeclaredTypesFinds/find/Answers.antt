use Rattle.std.proofs.Common.{[], ◌∷◌, map}
use Rattle.cedar_ast.specs.Words.{type_name}
use Rattle.cedar_diagnosis.proofs.AddingLemmas.{members_give}
use Rattle.cedar_diagnosis.proofs.undeclared_types.UndeclaredTypesFinds.find.Goals as goal
use Rattle.cedar_diagnosis.specs.Finding.{IsUndeclaredType}
use Rattle.cedar_diagnosis.specs.Lent.{declaration_of}
use Rattle.cedar_diagnosis.specs.Mentioned.{reference_of}
use Rattle.cedar_name_resolution.specs.Words.{held_names}
use Rattle.cedar_schema_semantics.specs.Words.{IsEntityTypePosition, undeclared_entity_types}

pub returns : goal.returns
returns c =
    members_give c.add_all.result (IsUndeclaredType (held_names c.args.self.now.defs.now)) (IsEntityTypePosition (declaration_of c.args.it.now).body)
    (map reference_of c.in_ok-positions.positions.items) (map (λ key. undeclared_entity_types (type_name key ∷ [])) c.args.keys.now.keys) (map (λ key. undeclared_entity_types (type_name key ∷ [])) c.add_all.new.keys.keys)
    c.in_ok-positions.ensures (rw c.deref.ensures.value at c.add_all.ensures)
