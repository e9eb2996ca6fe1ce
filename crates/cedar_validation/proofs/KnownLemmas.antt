-- What is known of the types of a schema, where the types of its actions are collected.
use Rattle.std.proofs.Common.{◌≡◌, ◌⊎◌, ◌↔◌, [], ◌∷◌, List, inl, inr, subst, sym, Contains}
use Rattle.cedar_validation.proofs.RequestTypeLemmas.{one_unknown}
use Rattle.cedar_validation.specs.Words.{AreMentionsSound, Extensions, Fault, HasAction, HasEntityType, IsSchemaFault, IsTypeIn, MentionsEntity, MentionsExtensionType, PlainName, PlainSchema, PlainUid, Ty, extension_types, out_of_memory, undeclared_entity_types, unknown_extension_type}

module _ (extensions : Extensions) (schema : PlainSchema) (names : List PlainName)
    (exact : (name : PlainName) → Contains names name ↔ ((uid : PlainUid) × HasAction schema uid × (uid.ty ≡ name))) where
  -- where what stands in each type is known, it is sound
  pub mentions_sound : ((of : Ty) → IsTypeIn schema of
      → ((name : PlainName) → MentionsEntity of name → HasEntityType schema name ⊎ Contains names name)
      × ((name : PlainName) → MentionsExtensionType of name → Contains (extension_types extensions) name))
      → AreMentionsSound extensions schema
  mentions_sound each = record {
    entities = λ ty name there mentions. elim ((each ty there).0 name mentions) [ inl has ↦ inl has | inr among ↦ inr ((exact name).0 among) ];
    extension_types = λ ty name there mentions. (each ty there).1 name mentions;
  }

  -- why a type of the schema is refused is a fault of it
  pub mention_fault : (fault : Fault) → (fault ≡ out_of_memory) ⊎ ((of : Ty) × IsTypeIn schema of × ((fault ≡ out_of_memory)
      ⊎ (((name : PlainName) × (fault ≡ undeclared_entity_types (name ∷ [])) × MentionsEntity of name
      × ¬ (HasEntityType schema name ⊎ Contains names name))
      ⊎ ((name : PlainName) × (fault ≡ unknown_extension_type name) × MentionsExtensionType of name
      × ¬ Contains (extension_types extensions) name))))
      → (fault ≡ out_of_memory) ⊎ IsSchemaFault extensions schema fault
  mention_fault fault why =
      let P : Fault → Type 0 = IsSchemaFault extensions schema in
      elim why [
        | inl wanting ↦ inl wanting
        | inr of ↦ elim of.2 [
          | inl wanting ↦ inl wanting
          | inr either ↦ inr (elim either [
            | inl it ↦ subst P (sym it.1)
                (one_unknown extensions schema it.0
                (inl (of.0, of.1, it.2, λ known. it.3 (elim known [ inl has ↦ inl has | inr action ↦ inr ((exact it.0).1 action) ]))))
            | inr it ↦ let here : IsSchemaFault extensions schema (unknown_extension_type it.0) = (of.0, of.1, it.2, it.3) in
                subst P (sym it.1) here
          ])
        ]
      ]
