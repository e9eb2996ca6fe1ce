-- A bag and its text form declare and define the same names.
use Rattle.std.proofs.Common.{◌≡◌, List, [], ◌∷◌, ◌++◌, None, Option, Some, map, ap, subst, refl, inl, inr, Contains}
use Rattle.cedar_ast.proofs.Lists.{Contains-cons, Contains-preimage}
use Rattle.cedar_ast.specs.Words.{HoldsPairwise, PlainName}
use Rattle.cedar_ast.specs.declared.extension.Extensions.{Extensions}
use Rattle.cedar_schema_ast.specs.Words.{Body, Declaration, EntityBody, Expr, Requests, action, common_type, elsewhere, entity_type, enumerated, external, requests, standard}
use Rattle.cedar_schema_laws.proofs.MovedBags.{action_same, common_same, entity_same, names_same}
use Rattle.cedar_schema_laws.proofs.MovedLemmas.{BodiesAlike, DeclarationsAlike, EntitiesAlike, Likeness, RequestsAlike, TagsAlike}
use Rattle.cedar_schema_semantics.specs.Words.{Bag, action_uids, defined_names}
use Rattle.cedar_schema_text_meaning.specs.TextForm.{built_in_form, bag_form, body_form, declaration_form, entity_form, expr_form, first_by, requests_form}
use Rattle.cedar_schema_text_meaning.specs.WritableBag.{IsUnreserved}
use Rattle.cedar_schema_text_writer.specs.Names.{First, first_standing, names_of_bag}
use Rattle.std.specs.Option.{option_map}

-- items are pairwise the same as themselves
pub pairwise_itself : {A : Type 0} (xs : List A) → HoldsPairwise (λ (it other : A). it ≡ other) xs xs
pairwise_itself [] = tt
pairwise_itself (x ∷ rest) = (refl, pairwise_itself rest)

-- what holds of each item and its image holds pairwise
pub pairwise_image : {A B : Type 0} (R : A → B → Type 0) (f : A → B) (xs : List A) → ((x : A) → Contains xs x → R x (f x)) → HoldsPairwise R xs (map f xs)
pairwise_image R f [] each = tt
pairwise_image R f (x ∷ rest) each =
    (each x (Contains-cons x rest x (inl refl)), pairwise_image R f rest (λ y among. each y (Contains-cons x rest y (inr among))))

-- alike but for types
abbrev but_for_types : Likeness
but_for_types = record { reference = λ it other. it ≡ other; parent = λ it other. it ≡ other; expr = λ it other. Unit {0} }

module _ (first : First) (namespace : Option PlainName) where
  -- so is what is declared, and its form
  tags_alike : (tags : Option Expr) → TagsAlike but_for_types tags (option_map (expr_form (built_in_form first namespace namespace)) tags)
  tags_alike None = tt
  tags_alike (Some ty) = tt

  entities_alike : (it : EntityBody) → EntitiesAlike but_for_types it (entity_form (built_in_form first namespace namespace) it)
  entities_alike (standard parents shape tags) = (pairwise_itself parents, tt, tags_alike tags)
  entities_alike (enumerated choices) = refl
  entities_alike (external parents) = pairwise_itself parents

  requests_alike : (it : Requests) → RequestsAlike but_for_types it (requests_form (built_in_form first namespace namespace) it)
  requests_alike (requests principals resources context) = (pairwise_itself principals, pairwise_itself resources, tt)
  requests_alike elsewhere = tt

  bodies_alike : (it : Body) → BodiesAlike but_for_types it (body_form (built_in_form first namespace namespace) it)
  bodies_alike (common_type definition) = tt
  bodies_alike (entity_type body) = entities_alike body
  bodies_alike (action body) = (refl, pairwise_itself body.parents, requests_alike body.applies_to)

module _ (bag : Bag) where
  -- so is a bag
  form_alike : HoldsPairwise (DeclarationsAlike but_for_types) bag (bag_form bag)
  form_alike =
      let first = first_by bag in
      pairwise_image (DeclarationsAlike but_for_types) (declaration_form first) bag
      (λ it among. (refl, refl, bodies_alike first it.namespace it.body))

  -- the same names are declared
  pub declared_same : names_of_bag bag ≡ names_of_bag (bag_form bag)
  declared_same = λ i. record {
    common = common_same but_for_types bag (bag_form bag) form_alike i;
    entities = entity_same but_for_types bag (bag_form bag) form_alike i
        ++ map (λ uid. uid.ty) (action_same but_for_types bag (bag_form bag) form_alike i);
    actions = [];
  }

  -- so names would name the same
  pub first_same : first_by bag ≡ first_by (bag_form bag)
  first_same = ap first_standing declared_same

  -- the same actions
  pub actions_same : action_uids bag ≡ action_uids (bag_form bag)
  actions_same = action_same but_for_types bag (bag_form bag) form_alike

  -- and the same names are defined
  pub defined_same : (extensions : Extensions) → defined_names bag extensions ≡ defined_names (bag_form bag) extensions
  defined_same = names_same but_for_types bag (bag_form bag) form_alike

  -- in the same namespaces
  pub form_free : ((it : Declaration) → Contains bag it → IsUnreserved it.namespace) → (it : Declaration) → Contains (bag_form bag) it
      → IsUnreserved it.namespace
  form_free free it among =
      let found = Contains-preimage (declaration_form (first_by bag)) bag it among in
      subst IsUnreserved (ap (λ (each : Declaration). each.namespace) found.2) (free found.0 found.1)
