-- What closes the same schema is the same schema.
use Rattle.std.proofs.Common.{List, sym, subst, ◌∙◌}
use Rattle.cedar_schema.specs.Words.{ActionKind, ClosesAction, ClosesSchema, ClosesType, HoldsPairwise, PlainName, PlainSchema, PlainUid, SameAction, SameActionKind, SameEntityType, SameSchema, SchemaAction, SchemaEntityType}
use Rattle.cedar_schema_laws.proofs.SameEntities.{same_entities}
use Rattle.cedar_schema_semantics.proofs.SameActions.{kind_itself}
use Rattle.cedar_schema_semantics.proofs.TurnLemmas.{turn_back}
use Rattle.cedar_validation.proofs.Pairwise.{pairwise_joined}

-- what holds between the items of two pairs of lists gives what holds between the last of both
pairwise_apart : {A B C : Type 0} (R : A → B → Type 0) (S : A → C → Type 0) (T : B → C → Type 0)
    → ((x : A) (y : B) (z : C) → R x y → S x z → T y z) → (xs : List A) (ys : List B) (zs : List C)
    → HoldsPairwise R xs ys → HoldsPairwise S xs zs → HoldsPairwise T ys zs
pairwise_apart R S T step xs ys zs first second =
    pairwise_joined (λ y x. R x y) S T (λ y x z. step x y z) ys xs zs
    (turn_back R (λ y x. R x y) (λ x y is. is) xs ys first) second

module _ (schema closed other : PlainSchema) (first : ClosesSchema schema closed) (second : ClosesSchema schema other) where
  -- the entity types are the same
  types_same : (it a b : PlainName × SchemaEntityType) → ClosesType schema it a → ClosesType schema it b → SameEntityType a b
  types_same it a b one two = record {
    key = sym one.key ∙ two.key;
    name = sym one.name ∙ two.name;
    kind = sym one.kind ∙ two.kind;
    descendants = λ lower. (
      λ among. (two.descendants lower).1 ((one.descendants lower).0 among),
      λ among. (one.descendants lower).1 ((two.descendants lower).0 among),
    );
  }

  -- the actions are the same
  actions_same : (it a b : PlainUid × SchemaAction) → ClosesAction schema it a → ClosesAction schema it b → SameAction a b
  actions_same it a b one two =
      let P : ActionKind → Type 0 = λ kind. SameActionKind a.1.kind kind in
      record {
        key = sym one.key ∙ two.key;
        uid = sym one.uid ∙ two.uid;
        kind = subst P (sym one.kind ∙ two.kind) (kind_itself a.1.kind);
        descendants = λ lower. (
          λ among. (two.descendants lower).1 ((one.descendants lower).0 among),
          λ among. (one.descendants lower).1 ((two.descendants lower).0 among),
        );
      }

  -- so are the schemas
  pub closed_same : SameSchema closed other
  closed_same =
      let actions = pairwise_apart (ClosesAction schema) (ClosesAction schema) SameAction actions_same schema.actions closed.actions
      other.actions first.actions second.actions in
      record {
        entity_types =
            pairwise_apart (ClosesType schema) (ClosesType schema) SameEntityType types_same schema.entity_types closed.entity_types
            other.entity_types first.entity_types second.entity_types;
        actions = actions;
        action_entities = same_entities closed other first.action_entities second.action_entities actions;
      }
