-- References that resolve, and those that don't.
use Rattle.std.proofs.Common.{◌≡◌, true, false, List, [], ◌∷◌, Option, None, Some, MatchOption, OnOk, Result, Ok, Err, ap, sym, ◌∙◌, subst}
use Rattle.std.proofs.lemmas.Bool.{false≢true}
use Rattle.std.specs.Option.{is_some}
use Rattle.cedar_ast.specs.Words.{IsActionType, IsReserved, PlainName, name_of}
use Rattle.cedar_ast.specs.declared.internal_name.InternalName.{InternalName}
use Rattle.cedar_diagnosis.proofs.AddingLemmas.{adds_like}
use Rattle.cedar_diagnosis.specs.Adding.{Adds}
use Rattle.cedar_diagnosis.specs.Finding.{IsUndeclaredType}
use Rattle.cedar_schema_ast.specs.Words.{Reference}
use Rattle.cedar_schema_semantics.proofs.ResolutionLemmas.{IsFirst-same, first_defined}
use Rattle.cedar_schema_semantics.specs.Words.{Fault, IsDefined, IsUnresolved, Names, ResolvesTo, undeclared_entity_types}

-- what was found of a reference
abbrev pub IsFound : Names → Reference → Option InternalName → Type 0
IsFound names reference found =
    MatchOption found (IsUnresolved names reference) (λ name. ResolvesTo names reference (name_of name))

-- a reference of which something was found isn't unresolved
pub resolved_not : (names : Names) (reference : Reference) (found : Option InternalName) → IsFound names reference found
    → is_some found ≡ true → ¬ IsUnresolved names reference
resolved_not names reference None is some unresolved = false≢true some
resolved_not names reference (Some name) is some unresolved =
    let it = first_defined names reference.kind reference.possibilities (name_of name) is in unresolved (name_of name) it.0 it.1

-- one of which nothing was found is
pub unresolved_is : (names : Names) (reference : Reference) (found : Option InternalName) → IsFound names reference found
    → is_some found ≡ false → IsUnresolved names reference
unresolved_is names reference None is none = is
unresolved_is names reference (Some name) is none = cc

-- a reference that is unresolved names nothing
pub unresolved_names_none : (names : Names) (reference : Reference) → IsUnresolved names reference → (name : PlainName)
    → ¬ ResolvesTo names reference name
unresolved_names_none names reference none name resolves =
    let it = first_defined names reference.kind reference.possibilities name resolves in none name it.0 it.1

-- what is told of the name that a reference has is told of the reference
pub undeclared_named : {E : Type 0} (result : Result Unit E) (names : Names) (reference : Reference) (name : PlainName) (before after : List Fault)
    → ResolvesTo names reference name
    → OnOk result (Adds (λ fault. IsActionType name × (¬ IsReserved name) × (undeclared_entity_types (name ∷ []) ≡ fault)) before after)
    → OnOk result (Adds (IsUndeclaredType names reference) before after)
undeclared_named (Ok x) names reference name before after resolves adds =
    adds_like (λ fault. IsActionType name × (¬ IsReserved name) × (undeclared_entity_types (name ∷ []) ≡ fault)) (IsUndeclaredType names reference)
    before after
    (λ fault tells. (name, resolves, tells.0, tells.1, tells.2))
    (λ fault found.
    let same : name ≡ found.0 = IsFirst-same (IsDefined names reference.kind) reference.possibilities name found.0 resolves found.1 in (
      subst IsActionType (sym same) found.2,
      (λ reserved. found.3 (subst IsReserved same reserved)),
      ap (λ each. undeclared_entity_types (each ∷ [])) same ∙ found.4,
    )) adds
undeclared_named (Err x) names reference name before after resolves adds = tt
