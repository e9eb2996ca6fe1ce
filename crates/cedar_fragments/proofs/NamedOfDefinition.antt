-- Refusals that name the actions with attributes of a definition.
use Rattle.std.proofs.Common.{◌≡◌, ◌⊎◌, List, [], ◌∷◌, Option, Contains, inl, inr}
use Rattle.std.specs.Option.{option_map}
use Rattle.cedar_ast.proofs.Basics.{Contains-single}
use Rattle.cedar_fragments.specs.Words.{Bag, Extensions, Fault, Fragment, HasNoDefinitionFault, Included, IsFault, Name, NamesAllOfADefinition, NamesAllWithAttributes, NamespaceDefinition, RawName, action_attributes, entry_declarations, out_of_memory, plain_name}

-- what names all of a definition of one of the fragments names all of a definition
pub named_of_definition : (fragments : List (Fragment RawName)) (fragment : Fragment RawName)
    (entry : Option Name × NamespaceDefinition RawName) → Contains fragments fragment → Contains fragment.0.entries entry
    → (fault : Fault) → NamesAllWithAttributes (entry_declarations entry) (option_map plain_name entry.0) fault
    → NamesAllOfADefinition fragments fault
named_of_definition fragments fragment entry among within (action_attributes ids) named = (fragment, entry, among, within, named)
named_of_definition fragments fragment entry among within _ named = tt

-- what names all of a definition of some fragments does so of more
pub named_included : (part whole : List (Fragment RawName)) → Included part whole → (fault : Fault)
    → NamesAllOfADefinition part fault → NamesAllOfADefinition whole fault
named_included part whole included (action_attributes ids) named =
    (named.0, named.1, included named.0 named.2, named.3, named.4)
named_included part whole included _ named = tt

-- a fault of a bag that has none of a definition names no actions with attributes
pub none_named : (fragments : List (Fragment RawName)) (bag : Bag) (extensions : Extensions) → HasNoDefinitionFault bag
    → (fault : Fault) → (fault ≡ out_of_memory) ⊎ IsFault bag extensions fault → NamesAllOfADefinition fragments fault
none_named fragments bag extensions none (action_attributes ids) =
    elim [ inl memory ↦ cc | inr at_fault ↦ absurd (none extensions (action_attributes ids) tt at_fault) ]
none_named fragments bag extensions none _ = λ either. tt

-- what names all of a definition of one fragment does so of fragments that it is among
pub named_among : (fragments : List (Fragment RawName)) (fragment : Fragment RawName) → Contains fragments fragment
    → (fault : Fault) → NamesAllOfADefinition (fragment ∷ []) fault → NamesAllOfADefinition fragments fault
named_among fragments fragment among =
    named_included (fragment ∷ []) fragments
    (λ other there. rw (Contains-single fragment other there) at among)

-- what names all of a definition of one fragment with a single definition names all of that
pub named_of_only : (fragment : Fragment RawName) (entry : Option Name × NamespaceDefinition RawName)
    → fragment.0.entries ≡ entry ∷ [] → (fault : Fault) → NamesAllOfADefinition (fragment ∷ []) fault
    → NamesAllWithAttributes (entry_declarations entry) (option_map plain_name entry.0) fault
named_of_only fragment entry alone (action_attributes ids) named =
    let within = rw (← Contains-single fragment named.0 named.2, alone) at named.3 in
    rw (Contains-single entry named.1 within) named.4
named_of_only fragment entry alone _ named = tt
