use Rattle.std.proofs.Common.{[], ◌∷◌, map}
use Rattle.cedar_ast.specs.Words.{type_name}
use Rattle.cedar_diagnosis.proofs.AddingLemmas.{gives_all, gives_next, none_give}
use Rattle.cedar_diagnosis.proofs.undeclared_types.UndeclaredTypes.add_all.Goals as goal
use Rattle.cedar_diagnosis.specs.Finding.{IsUndeclaredType}
use Rattle.cedar_diagnosis.specs.Mentioned.{reference_of}
use Rattle.cedar_name_resolution.specs.Words.{held_names}
use Rattle.cedar_schema_semantics.specs.Words.{undeclared_entity_types}

pub loop-it-init : goal.loop-it-init
loop-it-init c = none_give (IsUndeclaredType (held_names c.args.self.now.defs.now)) (map (λ key. undeclared_entity_types (type_name key ∷ [])) c.args.keys.now.keys)

pub loop-it-preserved : goal.loop-it-preserved
loop-it-preserved c =
    gives_next (IsUndeclaredType (held_names c.args.self.now.defs.now)) reference_of c.args.references.now (map (λ key. undeclared_entity_types (type_name key ∷ [])) c.args.keys.now.keys)
    c.loop-it.it-index c.it-item.result (map (λ key. undeclared_entity_types (type_name key ∷ [])) c.loop-it.keys.keys) (map (λ key. undeclared_entity_types (type_name key ∷ [])) c.add.new.keys.keys) c.loop-it-test.true c.it-item.is
    c.loop-it.invariant c.in_ok-add.ensures

pub returns : goal.returns
returns c =
    gives_all (IsUndeclaredType (held_names c.args.self.now.defs.now)) reference_of c.args.references.now (map (λ key. undeclared_entity_types (type_name key ∷ [])) c.args.keys.now.keys)
    c.loop-it.it-index (map (λ key. undeclared_entity_types (type_name key ∷ [])) c.loop-it.keys.keys) c.loop-it-test.false c.loop-it.invariant
