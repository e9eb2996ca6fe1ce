-- Open records that are folded by joins, in permissive mode: there always is a join, an open
-- record.
use Rattle.std.proofs.Common.{◌≡◌, ◌≢◌, List, [], ◌∷◌, Some, Ok, Err, map, ap, inl, inr, refl}
use Rattle.cedar_queries.specs.Words.{AreKnownOfAll, Below, ClosedAttributes, Fields, HaveOwnBound, IsReduceAnswer, IsWellFormed, JoinAnswer, OpenAttributes, Permissive, PlainName, SchemaEntityType, Ty, declared_fields, end, never, only_name, open_record, record_of}
use Rattle.cedar_type_rules.proofs.JoinLemmas.{upper_is_join}
use Rattle.cedar_type_rules.proofs.ReduceLemmas.{reduced_formed, reduced_once}

-- a type above an open record is an open record
above_open : (fields : Fields) (bound : Ty) → Below Permissive (record_of fields OpenAttributes) bound
    → (above : Fields) × (bound ≡ record_of above OpenAttributes)
above_open fields (record_of above OpenAttributes) below = (above, refl)
above_open fields (record_of above ClosedAttributes) below = absurd below.0
above_open fields _ below = absurd below

-- two open records have an own bound: the open record without attributes
open_bound : (fields others : Fields) → HaveOwnBound Permissive (record_of fields OpenAttributes) (record_of others OpenAttributes)
open_bound fields others = (record_of end OpenAttributes, (((tt, tt, tt), ((tt, tt, tt), tt)), tt))

module _ (types : List (PlainName × SchemaEntityType)) where
  -- open records that are joined to one give an open record
  joined_to : (fields : Fields) (members : List PlainName) (answer : JoinAnswer)
      → IsReduceAnswer Permissive (record_of fields OpenAttributes) (map (open_record types) members) answer
      → (known : Fields) × (answer ≡ Ok (record_of known OpenAttributes))
  joined_to fields [] answer is = (fields, is)
  joined_to fields (member ∷ rest) answer (inl (join, right, formed, more)) =
      let above = above_open fields join right.0.0.0 in
      joined_to above.0 rest answer (rw above.1 at more)
  joined_to fields (member ∷ rest) answer (inr (given, right, is)) = absurd (right.0 (open_bound fields (declared_fields types member)))

  -- the open records of what some entity types declare are joined to an open record
  pub joined_open : (members : List PlainName) → members ≢ [] → (answer : JoinAnswer)
      → IsReduceAnswer Permissive never (map (open_record types) members) answer
      → (known : Fields) × (answer ≡ Ok (record_of known OpenAttributes))
  joined_open [] some answer is = absurd (some refl)
  joined_open (member ∷ rest) some answer (inl (join, right, formed, more)) =
      let above = above_open (declared_fields types member) join right.0.0.1.0 in
      joined_to above.0 rest answer (rw above.1 at more)
  joined_open (member ∷ rest) some answer (inr (given, right, is)) =
      absurd (right.0 (open_record types member, (upper_is_join Permissive never (open_record types member) tt).0.0))

  -- what one entity type declares is known of it, where it is well formed
  pub known_alone : (name : PlainName) → IsWellFormed (open_record types name)
      → AreKnownOfAll types (name ∷ []) (declared_fields types name)
  known_alone name formed =
      inl (open_record types name, (upper_is_join Permissive never (open_record types name) tt).0, formed, refl)

  -- what is known of some entity types is well formed
  pub known_formed : (members : List PlainName) (known : Fields) → AreKnownOfAll types members known
      → IsWellFormed (record_of known OpenAttributes)
  known_formed members known joined =
      reduced_formed Permissive (map (open_record types) members) (Ok (record_of known OpenAttributes)) joined

  -- and is all that is
  pub known_once : (members : List PlainName) (known other : Fields) → AreKnownOfAll types members known
      → AreKnownOfAll types members other → known ≡ other
  known_once members known other first second =
      let same = reduced_once Permissive (map (open_record types) members) (record_of other OpenAttributes)
      (Ok (record_of known OpenAttributes)) second first in
      cc

-- where there is an only name, there is just it
pub only_is : (names : List PlainName) (name : PlainName) → Some name ≡ only_name names → names ≡ name ∷ []
only_is (first ∷ []) name is = cc
only_is _ name is = absurd cc

-- the attributes of a record type, none of any other
abbrev pub fields_in : Ty → Fields
fields_in (record_of fields openness) = fields
fields_in _ = end

-- the type in an answer
abbrev type_in : JoinAnswer → Ty
type_in (Ok ty) = ty
type_in (Err given) = never

-- what the open records of what some entity types declare are joined to is an open record
pub joined_type : (types : List (PlainName × SchemaEntityType)) (members : List PlainName) → members ≢ [] → (join : Ty)
    → IsReduceAnswer Permissive never (map (open_record types) members) (Ok join)
    → (known : Fields) × (join ≡ record_of known OpenAttributes)
joined_type types members some join reduced =
    let joined = joined_open types members some (Ok join) reduced in
    (joined.0, ap type_in joined.1)
