use Rattle.std.proofs.Common.{[], ◌∷◌, map, sym, ap, ◌∙◌}
use Rattle.cedar_diagnosis.proofs.AddingLemmas.{adds_found, adds_nothing}
use Rattle.cedar_diagnosis.proofs.ReferenceLemmas.{resolved_not, unresolved_is}
use Rattle.cedar_diagnosis.proofs.undefined_types.UndefinedTypes.add.Goals as goal
use Rattle.cedar_diagnosis.specs.Finding.{IsUndefinedType}
use Rattle.cedar_diagnosis.specs.Mentioned.{reference_of}
use Rattle.cedar_diagnosis.specs.ReferenceKeys.{key_reference}
use Rattle.cedar_name_resolution.specs.Words.{held_names}
use Rattle.cedar_schema_semantics.specs.Words.{type_not_defined}

-- one that names something isn't added
pub returns-then-is_some : goal.returns-then-is_some
returns-then-is_some c =
    let names = held_names c.args.self.now.defs.now in
    let reference = reference_of c.args.it.now in
    adds_nothing (IsUndefinedType names reference) (map (λ key. type_not_defined (key_reference key ∷ [])) c.args.keys.now.keys)
    (λ fault found. resolved_not names reference c.in_ok-found.found c.in_ok-found.ensures (sym c.is_some.ensures ∙ c.if-is_some.true) found.0)

-- any other is
pub returns : goal.returns
returns c =
    let names = held_names c.args.self.now.defs.now in
    let reference = reference_of c.args.it.now in
    let key = c.in_ok-reference_key.field-0 in
    adds_found c.add_key.result (IsUndefinedType names reference) (map (λ key. type_not_defined (key_reference key ∷ [])) c.args.keys.now.keys) (map (λ key. type_not_defined (key_reference key ∷ [])) c.add_key.new.keys.keys)
    (type_not_defined (key_reference key ∷ [])) (
      unresolved_is names reference c.in_ok-found.found c.in_ok-found.ensures (sym c.is_some.ensures ∙ c.if-is_some.false),
      ap (λ each. type_not_defined (each ∷ [])) (sym c.in_ok-reference_key.ensures),
    )
    (λ fault found. ap (λ each. type_not_defined (each ∷ [])) c.in_ok-reference_key.ensures ∙ found.1) c.add_key.ensures
