-- What is known of the attributes of a union of clean types: what the least clean bound of open
-- records has.
use Rattle.std.proofs.Common.{◌≡◌, Bool, true, false, IsTrue, List, [], ◌∷◌, Ok, map, refl, sym, ◌∙◌, inl, inr, Contains, arith}
use Rattle.std.proofs.lemmas.Bool.{false≢true}
use Rattle.std.specs.List.{AllByRecursion}
use Rattle.cedar_ast.proofs.Lists.{Contains-cons, Contains-cons_cases}
use Rattle.cedar_queries.proofs.JoinedLemmas.{known_formed, known_once}
use Rattle.cedar_queries.specs.Words.{AreCleanTypes, AreExactlyKnown, AreKnownOfAll, AttributesAreUnique, Below, Fields, FieldsBelow, HasField, IsBound, IsClean, IsCleanBound, IsCommonBound, IsLeast, IsSortedByName, KnownAttributesAreCommon, LargerUnionsKnowLess, OpenAttributes, Permissive, PlainName, SchemaEntityType, Text, Ty, declared_fields, end, field, open_record, record_of, union_of}
use Rattle.cedar_type_rules.proofs.AgreeLaws.{HasField-once}
use Rattle.cedar_type_rules.proofs.OwnBoundLemmas.{AreClean-of}
use Rattle.cedar_type_rules.proofs.ReduceLemmas.{reduce_least_clean}
use Rattle.cedar_type_rules.proofs.SubtypeLaws.{HasBelow-of, HasField-name, HasField-named}

-- what holds of all images of some items holds of each
each_of : {A B : Type 0} (f : A → B) (P : B → Type 0) (xs : List A) → AllByRecursion P (map f xs) → (x : A) → Contains xs x → P (f x)
each_of f P [] all x among = absurd (omega (arith, among.1))
each_of {A} f P (y ∷ ys) all x among = elim (Contains-cons_cases y ys x among) [
  | inl same ↦ rw same at all.0
  | inr later ↦ each_of f P ys all.1 x later
]

-- and what holds of each holds of all
of_each : {A B : Type 0} (f : A → B) (P : B → Type 0) (xs : List A) → ((x : A) → Contains xs x → P (f x)) → AllByRecursion P (map f xs)
of_each f P [] each = tt
of_each f P (y ∷ ys) each =
    (each y (Contains-cons y ys y (inl refl)), of_each f P ys (λ x among. each x (Contains-cons y ys x (inr among))))

module _ (types : List (PlainName × SchemaEntityType)) (members : List PlainName) (known : Fields)
    (clean : AreCleanTypes types members) (joined : AreKnownOfAll types members known) where
  -- the open record of what is known is the least clean bound of those of what is declared
  pub known_least : IsLeast Permissive (IsCleanBound Permissive (map (open_record types) members)) (record_of known OpenAttributes)
  known_least =
      reduce_least_clean Permissive (map (open_record types) members) (Ok (record_of known OpenAttributes))
      (of_each (open_record types) IsClean members (λ member among. (clean member among).0)) joined

  -- each member declares what is known, with a type below and a flag that fits
  pub member_below : (member : PlainName) → Contains members member → FieldsBelow Permissive (declared_fields types member) known
  member_below member among =
      (each_of (open_record types) (λ ty. Below Permissive ty (record_of known OpenAttributes)) members known_least.0.0 member among).2

  -- the type of what is known is a common bound
  known_common : (name : Text) (required : Bool) (ty : Ty) → HasField known name required ty → IsCommonBound types members name ty
  known_common name required ty has = (
    λ member among.
        let own = HasBelow-of Permissive (declared_fields types member) known name required ty (member_below member among) has in
        (own.0, own.1, own.2, own.4),
    AreClean-of known name required ty known_least.0.1 has,
  )

  -- the record of one attribute that each member declares below is above the one of what is known
  known_below : (name : Text) (required : Bool) (bound : Ty) → IsClean bound
      → ((member : PlainName) → Contains members member → (flag : Bool) × (own : Ty)
      × HasField (declared_fields types member) name flag own × (IsTrue required → IsTrue flag) × Below Permissive own bound)
      → (flag : Bool) × (own : Ty) × HasField known name flag own × (IsTrue required → IsTrue flag) × Below Permissive own bound
  known_below name required bound is_clean each =
      let one = record_of (field name required bound end) OpenAttributes in
      let above : IsBound Permissive (map (open_record types) members) one =
      of_each (open_record types) (λ ty. Below Permissive ty one) members (λ member among. (tt, tt, (each member among, tt))) in
      (known_least.1 one (above, (is_clean, tt))).2.0

  -- a common bound is above the type of what is then known
  common_known : (name : Text) (bound : Ty) → IsCommonBound types members name bound
      → (flag : Bool) × (own : Ty) × HasField known name flag own × Below Permissive own bound
  common_known name bound common =
      let found = known_below name false bound common.1
      (λ member among. let own = common.0 member among in (own.0, own.1, own.2, (λ wrong. absurd (false≢true wrong)), own.3)) in
      (found.0, found.1, found.2, found.4)

  -- what is known is in the order of its names
  known_ascends : IsSortedByName known
  known_ascends = (known_formed types members known joined).0

  -- what is known are exactly the common attributes
  pub known_exactly : AreExactlyKnown types members known
  known_exactly = record {
    names = λ name. (
      λ among. let has = HasField-named known name among in (has.1, known_common name has.0 has.1 has.2),
      λ some. let found = common_known name some.0 some.1 in HasField-name known name found.0 found.1 found.2,
    );
    least = λ name required ty has. (
      known_common name required ty has,
      λ bound common.
          let found = common_known name bound common in
          let same = HasField-once known name required found.0 ty found.1 known_ascends has found.2 in
          rw same.1 found.3,
    );
    required = λ name required ty has. (
      λ is member flag own among also.
          let below = HasBelow-of Permissive (declared_fields types member) known name required ty (member_below member among) has in
          let same = HasField-once (declared_fields types member) name below.0 flag below.1 own (clean member among).1 below.2 also in
          rw same.0 at (below.3 is),
      λ all.
          let common = known_common name required ty has in
          let found = known_below name true ty common.1
          (λ member among. let own = common.0 member among in
          (own.0, own.1, own.2, (λ _. all member own.0 own.1 among own.2), own.3)) in
          let same = HasField-once known name required found.0 ty found.1 known_ascends has found.2 in
          rw same.0 (found.3 refl),
    );
  }

-- what is known of a union of clean types are exactly the common attributes
pub known_is_common : KnownAttributesAreCommon
known_is_common types members known clean joined = known_exactly types members known clean joined

-- a type has just one list of attributes
pub attributes_once : AttributesAreUnique
attributes_once types (union_of members) known other first second = known_once types members known other first second
attributes_once types ty known other first second = first ∙ sym second

-- a larger union knows less
pub larger_knows_less : LargerUnionsKnowLess
larger_knows_less types part members less more within clean all some =
    let part_clean : AreCleanTypes types part = λ member among. clean member (within member among) in
    let least = known_least types part more part_clean some in
    let above : IsBound Permissive (map (open_record types) part) (record_of less OpenAttributes) =
    of_each (open_record types) (λ ty. Below Permissive ty (record_of less OpenAttributes)) part
    (λ member among. (tt, tt, member_below types members less clean all member (within member among))) in
    (least.1 (record_of less OpenAttributes) (above, (known_least types members less clean all).0.1)).2
