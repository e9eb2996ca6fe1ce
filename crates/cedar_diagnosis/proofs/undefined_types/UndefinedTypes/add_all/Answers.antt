use Rattle.std.proofs.Common.{[], ◌∷◌, map}
use Rattle.cedar_diagnosis.proofs.AddingLemmas.{gives_all, gives_next, none_give}
use Rattle.cedar_diagnosis.proofs.undefined_types.UndefinedTypes.add_all.Goals as goal
use Rattle.cedar_diagnosis.specs.Finding.{IsUndefinedType}
use Rattle.cedar_diagnosis.specs.Mentioned.{reference_of}
use Rattle.cedar_diagnosis.specs.ReferenceKeys.{key_reference}
use Rattle.cedar_name_resolution.specs.Words.{held_names}
use Rattle.cedar_schema_semantics.specs.Words.{type_not_defined}

pub loop-it-init : goal.loop-it-init
loop-it-init c = none_give (IsUndefinedType (held_names c.args.self.now.defs.now)) (map (λ key. type_not_defined (key_reference key ∷ [])) c.args.keys.now.keys)

pub loop-it-preserved : goal.loop-it-preserved
loop-it-preserved c =
    gives_next (IsUndefinedType (held_names c.args.self.now.defs.now)) reference_of c.args.references.now (map (λ key. type_not_defined (key_reference key ∷ [])) c.args.keys.now.keys)
    c.loop-it.it-index c.it-item.result (map (λ key. type_not_defined (key_reference key ∷ [])) c.loop-it.keys.keys) (map (λ key. type_not_defined (key_reference key ∷ [])) c.add.new.keys.keys) c.loop-it-test.true c.it-item.is
    c.loop-it.invariant c.in_ok-add.ensures

pub returns : goal.returns
returns c =
    gives_all (IsUndefinedType (held_names c.args.self.now.defs.now)) reference_of c.args.references.now (map (λ key. type_not_defined (key_reference key ∷ [])) c.args.keys.now.keys)
    c.loop-it.it-index (map (λ key. type_not_defined (key_reference key ∷ [])) c.loop-it.keys.keys) c.loop-it-test.false c.loop-it.invariant
