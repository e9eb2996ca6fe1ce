use Rattle.std.proofs.Common.{false, codes, arith, inr, refl}
use Rattle.cedar_ast.proofs.Inclusion.{Included-none}
use Rattle.cedar_compare.proofs.UserLemmas.{nothing_above, users_keep, users_keep_uids}
use Rattle.cedar_compare.proofs.examples.optional_attributes_are_kept.Goals as goal
use Rattle.cedar_compare.specs.Words.{ClosedAttributes, Exists, Gives, PlainUid, end, field, field_names, long, map_value, record_of, users, with_age, without_attributes}
use Rattle.cedar_entities.proofs.KeptLemmas.{all_kept}
use Rattle.cedar_type_rules.proofs.ValueInclusion.{HasBy-included}

-- the uids that exist
abbrev Old : PlainUid → Type 0
Old = Exists (users without_attributes)

abbrev New : PlainUid → Type 0
New = Exists (users (with_age false))

pub returns : goal.returns
returns c extensions = users_keep extensions without_attributes (with_age false) (λ it real of. (
  HasBy-included (Gives extensions) (map_value it.attributes) (record_of end ClosedAttributes)
      (record_of (field (codes "age") false long end) ClosedAttributes) of.0
      (tt, Included-none (field_names (field (codes "age") false long end)), (inr (refl, (λ among. omega (arith, among.1)), refl), tt)),
  of.1,
  record {
    attributes = all_kept Old New (map_value it.attributes) (users_keep_uids without_attributes (with_age false) tt) real.1 of.2.attributes;
    tags = all_kept Old New (map_value it.tags) (users_keep_uids without_attributes (with_age false) tt) real.2 of.2.tags;
  },
  record {
    above = λ upper among. absurd (nothing_above without_attributes it.uid.ty upper (of.3.above upper among));
    not_itself = of.3.not_itself;
  },
))
