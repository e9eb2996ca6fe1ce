use Rattle.std.proofs.Common.{◌≡◌, ◌⊎◌, ◌++◌, [], ◌∷◌, None, Some, ap, codes, length, refl, inl, inr, subst, sym, ◌∙◌, arith, Contains}
use Rattle.std.proofs.lemmas.List.Sorted.{IsPermutation-refl}
use Rattle.cedar_ast.proofs.Basics.{Contains-single}
use Rattle.cedar_ast.proofs.Lists.{Contains-cons, Contains-cons_cases}
use Rattle.declaration_examples.proofs.converted_back.schemas_are_converted_back.Goals as goal
use Rattle.declaration_examples.specs.Words.{ClosedAttributes, ListsDescendant, PlainName, PlainUid, Reference, SchemaAction, SchemaEntityType, action_named, alias_name, defined_action, end, full_name, plain_kind, record_of, sample_bag, sample_fields, sample_namespace, sample_schema, standard_kind, type_entry, within_sample}

-- the entity types of the sample
group : PlainName × SchemaEntityType
group = type_entry (alias_name (codes "Group")) plain_kind (within_sample (codes "User") ∷ [])

user : PlainName × SchemaEntityType
user = type_entry (within_sample (codes "User")) (standard_kind sample_fields ClosedAttributes None) []

-- the only descendant that is listed
listed : (lower upper : PlainName) → ListsDescendant sample_schema lower upper
    → (within_sample (codes "User") ≡ lower) × (alias_name (codes "Group") ≡ upper)
unfolding group user
listed lower upper lists =
    let ListsLower : PlainName × SchemaEntityType → Type 0 = λ it. Contains it.1.descendants lower in
    elim (Contains-cons_cases group (user ∷ []) (upper, lists.0) lists.1) [
      | inl first ↦ (
        Contains-single (within_sample (codes "User")) lower (subst ListsLower (sym first) lists.2),
        ap (λ (it : PlainName × SchemaEntityType). it.0) first,
      )
      | inr later ↦
          let same = Contains-single user (upper, lists.0) later in
          let none = subst ListsLower (sym same) lists.2 in absurd (omega (arith, none.1))
    ]

-- two entity types and an action are declared: the group has no parents, the user has the group,
-- and the action has the user as its principal
pub returns : goal.returns
unfolding group user
returns c =
    let view : PlainUid × SchemaAction = (
      action_named (codes "view"),
      record {
        uid = action_named (codes "view");
        kind = defined_action (within_sample (codes "User") ∷ []) [] (record_of end ClosedAttributes);
        descendants = [];
      },
    ) in
    let parent : Reference = full_name (Some sample_namespace) (alias_name (codes "Group")) in
    let principal : Reference = full_name None (within_sample (codes "User")) in
    record {
      entity_types = Rattle.std.proofs.Common.take 2 sample_bag;
      actions = Rattle.std.proofs.Common.drop 2 sample_bag;
      each_entity_type = (
        record {
          name = refl;
          body = _;
          declares = refl;
          kind = (
            λ reference. (
              λ among. absurd (omega (arith, among.1)),
              λ of.
                  let same = (listed (alias_name (codes "Group")) of.0 of.1).0 in
                  let count : 4 ≡ 5 = ap (λ (name : PlainName). length name.base) same in absurd (omega (arith, count)),
            ),
            refl,
            tt,
          );
        },
        (
          record {
            name = refl;
            body = _;
            declares = refl;
            kind = (
              λ reference. (
                λ among. (
                  alias_name (codes "Group"),
                  (
                    group.1,
                    (0, omega arith, refl),
                    (0, omega arith, refl),
                  ),
                  Contains-single parent reference among,
                ),
                λ of. Contains-cons parent [] reference
                    (inl (ap (full_name (Some sample_namespace)) (listed (within_sample (codes "User")) of.0 of.1).1 ∙ of.2)),
              ),
              refl,
              tt,
            );
          },
          tt,
        ),
      );
      each_action = (
        record {
          uid = refl;
          parents = _;
          applies_to = _;
          declares = refl;
          above = λ reference. (
            λ among. absurd (omega (arith, among.1)),
            λ of.
                let none = subst (λ it. Contains it.1.descendants (action_named (codes "view"))) (sym (Contains-single view (of.0, of.1.0) of.1.1)) of.1.2 in absurd (omega (arith, none.1)),
          );
          kind = (
            λ reference. (
              λ among. (within_sample (codes "User"), (0, omega arith, refl), Contains-single principal reference among),
              λ of. Contains-cons principal [] reference
                  (inl (ap (full_name None) (Contains-single (within_sample (codes "User")) of.0 of.1) ∙ of.2)),
            ),
            λ reference. (λ among. absurd (omega (arith, among.1)), λ of. absurd (let no = of.1 in omega (arith, no.1))),
            refl,
          );
        },
        tt,
      );
      in_some_order = IsPermutation-refl sample_bag;
    }
