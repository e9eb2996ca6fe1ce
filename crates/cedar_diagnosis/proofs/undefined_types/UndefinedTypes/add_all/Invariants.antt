use Rattle.std.proofs.Common.{[], ◌∷◌, map, take}
use Rattle.cedar_diagnosis.proofs.undefined_types.UndefinedTypes.add_all.Given as goal
use Rattle.cedar_diagnosis.specs.Adding.{Adds, SomeGives}
use Rattle.cedar_diagnosis.specs.Finding.{IsUndefinedType}
use Rattle.cedar_diagnosis.specs.Mentioned.{reference_of}
use Rattle.cedar_diagnosis.specs.ReferenceKeys.{key_reference}
use Rattle.cedar_name_resolution.specs.Words.{held_names}
use Rattle.cedar_schema_semantics.specs.Words.{type_not_defined}

abbrev pub invariant-loop-it : goal.invariant-loop-it
invariant-loop-it l =
    Adds (SomeGives (IsUndefinedType (held_names l.self.defs.now)) (map reference_of (take l.it-index l.references)))
    (map (λ key. type_not_defined (key_reference key ∷ [])) l.fn.keys.keys) (map (λ key. type_not_defined (key_reference key ∷ [])) l.keys.keys)
