-- Fragments that are taken over one after another from copies.
use Rattle.std.proofs.Common.{◌≡◌, ◌⊎◌, ◌+◌, ◌<◌, ℕ, length, get_or, take, List, [], ◌∷◌, ◌++◌, map, ap, sym, subst, ◌∙◌, inl, inr, Contains}
use Rattle.std.proofs.lemmas.List.{map-append, take_more}
use Rattle.cedar_fragments.proofs.FragmentLemmas.{flat_map-included, refusal_included}
use Rattle.cedar_fragments.specs.Words.{IsDefinitionFault, written_fragment}
use Rattle.cedar_fragments.specs.declared.namespace.fragment.ValidatorSchemaFragment.{ValidatorSchemaFragment}
use Rattle.cedar_written_out.specs.Words.{Bag, Extensions, Fault, Fragment, IsFault, RawName, out_of_memory, raw_bag, raw_fragment, raw_reference}

-- the fragments up to an index declare what those made of them do, and so do those up to the next
pub maps_more : (made : List (ValidatorSchemaFragment RawName RawName)) (all : List (Fragment RawName)) (index : ℕ)
    (one : ValidatorSchemaFragment RawName RawName) (fragment : Fragment RawName) → index < length all
    → fragment ≡ get_or all index fragment
    → map (written_fragment RawName raw_reference) made ≡ map raw_fragment (take index all)
    → written_fragment RawName raw_reference one ≡ raw_fragment fragment
    → map (written_fragment RawName raw_reference) (made ++ one ∷ []) ≡ map raw_fragment (take (index + 1) all)
maps_more made all index one fragment within is same this =
    map-append (written_fragment RawName raw_reference) made (one ∷ [])
    ∙ ((λ i. same i ++ this i ∷ [])
    ∙ (sym (map-append raw_fragment (take index all) (fragment ∷ []))
    ∙ ap (map raw_fragment) (sym (take_more all index fragment within ∙ ap (λ it. take index all ++ it ∷ []) (sym is)))))

-- the fragment at an index is among all
pub among_all : (all : List (Fragment RawName)) (index : ℕ) (fragment : Fragment RawName) → index < length all
    → fragment ≡ get_or all index fragment → Contains all fragment
among_all all index fragment within is = (index, within, sym is)

-- the refusal of a copy is one of all fragments
pub fault_of_copy : (all : List (Fragment RawName)) (fragment copy : Fragment RawName) (fault : Fault) → Contains all fragment
    → raw_fragment copy ≡ raw_fragment fragment
    → (fault ≡ out_of_memory) ⊎ IsDefinitionFault (raw_fragment copy) fault
    → (fault ≡ out_of_memory) ⊎ ((extensions : Extensions) → IsFault (raw_bag all) extensions fault)
fault_of_copy all fragment copy fault among same at_fault =
    let P : Bag → Type 0 = λ bag. (fault ≡ out_of_memory) ⊎ IsDefinitionFault bag fault in
    elim (refusal_included (raw_fragment fragment) (raw_bag all) (flat_map-included raw_fragment all fragment among) fault
    (subst P same at_fault)) [
      | inl memory ↦ inl memory
      | inr is ↦ inr (λ extensions. is.1 extensions)
    ]
