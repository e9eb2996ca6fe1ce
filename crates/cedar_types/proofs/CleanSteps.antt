-- Steps of the walk that tells whether the types of attributes are clean.
use Rattle.std.proofs.Common.{◌≡◌, ◌↔◌, ◌∙◌, false, List, ◌∷◌, sym, ap, subst, Global}
use Rattle.std.specs.Bool.{Decides}
use Rattle.std.specs.declared.string.String.{String}
use Rattle.cedar_ast.proofs.Inclusion.{rest_alone, part_fails}
use Rattle.cedar_types.proofs.EqualityLaws.{attribute_of-parts}
use Rattle.cedar_types.specs.Words.{AreClean, AttributeType, Attributes, IsClean, «Type», attribute_of, fields_from, fields_of, fields_of-pairs, out-AttributeType, pairs_of, plain_attributes, ty_of}

-- the types of the attributes that are left are clean exactly where all are
abbrev pub IsCleanLeft : Attributes → List (String Global × AttributeType) → Type 0
IsCleanLeft all rest = AreClean (fields_from (plain_attributes rest)) ↔ AreClean (fields_of all)

-- at first all are left
pub clean-first : (all : Attributes) (own : List (String Global × AttributeType)) → own ≡ pairs_of all → IsCleanLeft all own
clean-first all own is = rw (is, ← (fields_of-pairs all)) (λ clean. clean, λ clean. clean)

module _ (all : Attributes) (item : String Global × AttributeType) (rest : List (String Global × AttributeType))
    (left : IsCleanLeft all (item ∷ rest)) (of : «Type») (is_of : of ≡ (out-AttributeType item.1).attr_type.value) where
  -- the type of an attribute that stands for a clean one is clean, and the other way round
  clean_attribute : IsClean (attribute_of item.1).1 ↔ IsClean (ty_of of)
  clean_attribute =
      let same : (attribute_of item.1).1 ≡ ty_of of = ap (λ both. both.1) (attribute_of-parts item.1) ∙ ap ty_of (sym is_of) in
      (subst IsClean same, subst IsClean (sym same))

  -- one whose type isn't clean tells that not all are
  pub clean-fails : ¬ IsClean (ty_of of) → Decides false (AreClean (fields_of all))
  clean-fails fails = part_fails left (λ clean. fails (clean_attribute.0 clean))

  -- past one whose type is clean the rest tells
  pub clean-next : IsClean (ty_of of) → IsCleanLeft all rest
  clean-next clean = rest_alone left (clean_attribute.1 clean)
