use Rattle.std.proofs.Common.{[], ◌∷◌, map}
use Rattle.cedar_diagnosis.proofs.AddingLemmas.{both_give}
use Rattle.cedar_diagnosis.proofs.undefined_types.UndefinedTypesFinds.find.Goals as goal
use Rattle.cedar_diagnosis.specs.Finding.{IsUndefinedType}
use Rattle.cedar_diagnosis.specs.Lent.{declaration_of}
use Rattle.cedar_diagnosis.specs.Mentioned.{RefersIn, reference_of, references_in}
use Rattle.cedar_diagnosis.specs.ReferenceKeys.{key_reference}
use Rattle.cedar_name_resolution.specs.Words.{held_names}
use Rattle.cedar_schema_semantics.specs.Words.{IsEntityTypePosition, type_not_defined}

pub returns : goal.returns
returns c =
    let body = (declaration_of c.args.it.now).body in
    both_give c.add_all-2.result (IsUndefinedType (held_names c.args.self.now.defs.now)) (RefersIn body) (IsEntityTypePosition body)
    (references_in c.in_ok-mentions.mentions) (map reference_of c.in_ok-positions.positions.items)
    (map (λ key. type_not_defined (key_reference key ∷ [])) c.args.keys.now.keys) (map (λ key. type_not_defined (key_reference key ∷ [])) c.add_all.new.keys.keys) (map (λ key. type_not_defined (key_reference key ∷ [])) c.add_all-2.new.keys.keys)
    c.in_ok-mentions.ensures.references c.in_ok-positions.ensures
    (rw c.deref.ensures.value at c.in_ok-add_all.ensures) (rw c.deref-2.ensures.value at c.add_all-2.ensures)
