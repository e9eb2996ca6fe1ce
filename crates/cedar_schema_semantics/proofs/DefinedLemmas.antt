-- Where the same names are defined, references and expressions mean the same.
use Rattle.std.proofs.Common.{inl, inr, Contains}
use Rattle.cedar_ast.proofs.Basics.{Contains-image}
use Rattle.cedar_ast.proofs.Lists.{Contains-preimage}
use Rattle.cedar_schema_semantics.proofs.ResolutionLemmas.{IsFirst-like}
use Rattle.cedar_schema_semantics.specs.Words.{Defined, ElaboratesTo, Expr, Fields, IsDefined, IsNoRecord, IsUnresolved, Members, MembersElaborateTo, PlainName, Reference, ReferenceType, ResolvesTo, Ty, as_common, as_entity, as_extension, as_long, as_member, as_no_member, as_record, as_set, as_text, as_truth, names_of}

-- the same names are defined, with the same definitions
pub record SameDefined (defined other : Defined) : Type 0 where
  pub common : (it : PlainName × Expr) → Contains defined.common it → Contains other.common it
  pub common_back : (it : PlainName × Expr) → Contains other.common it → Contains defined.common it
  pub entities : (name : PlainName) → Contains defined.entities name → Contains other.entities name
  pub entities_back : (name : PlainName) → Contains other.entities name → Contains defined.entities name

-- the same the other way round
pub SameDefined-sym : (defined other : Defined) → SameDefined defined other → SameDefined other defined
SameDefined-sym defined other same = record {
  common = same.common_back;
  common_back = same.common;
  entities = same.entities_back;
  entities_back = same.entities;
}

-- the same is defined as itself
pub SameDefined-itself : (defined : Defined) → SameDefined defined defined
SameDefined-itself defined = record {
  common = λ it among. among;
  common_back = λ it among. among;
  entities = λ name among. among;
  entities_back = λ name among. among;
}

module _ (defined other : Defined) (same : SameDefined defined other) where
  -- the name of a common type of the one is one of the other
  common_there : (name : PlainName) → Contains (names_of defined).common name → Contains (names_of other).common name
  common_there name among =
      let key = λ (each : PlainName × Expr). each.0 in
      let it = Contains-preimage key defined.common name among in
      rw it.2 at (Contains-image key other.common it.0 (same.common it.0 it.1))

  -- and the other way round
  common_here : (name : PlainName) → Contains (names_of other).common name → Contains (names_of defined).common name
  common_here name among =
      let key = λ (each : PlainName × Expr). each.0 in
      let it = Contains-preimage key other.common name among in
      rw it.2 at (Contains-image key defined.common it.0 (same.common_back it.0 it.1))

  -- a name is defined in the one as in the other
  defined_there : (kind : ReferenceType) (name : PlainName) → IsDefined (names_of defined) kind name → IsDefined (names_of other) kind name
  defined_there kind name found =
      elim found [
        | inl common ↦ inl (common.0, common_there name common.1)
        | inr is_entity ↦ inr (is_entity.0, same.entities name is_entity.1)
      ]

  -- and the other way round
  defined_here : (kind : ReferenceType) (name : PlainName) → IsDefined (names_of other) kind name → IsDefined (names_of defined) kind name
  defined_here kind name found =
      elim found [
        | inl common ↦ inl (common.0, common_here name common.1)
        | inr is_entity ↦ inr (is_entity.0, same.entities_back name is_entity.1)
      ]

  -- a reference resolves alike
  pub resolves_there : (reference : Reference) (name : PlainName) → ResolvesTo (names_of defined) reference name → ResolvesTo (names_of other) reference name
  resolves_there reference name resolves =
      IsFirst-like (IsDefined (names_of defined) reference.kind) (IsDefined (names_of other) reference.kind) (defined_there reference.kind)
      (defined_here reference.kind) reference.possibilities name resolves

  -- a reference is unresolved alike
  pub unresolved_there : (reference : Reference) → IsUnresolved (names_of defined) reference → IsUnresolved (names_of other) reference
  unresolved_there reference unresolved name among found = unresolved name among (defined_here reference.kind name found)

  mutual
    -- an expression is elaborated alike
    pub elaborated_there : {expr : Expr} {ty : Ty} → ElaboratesTo defined expr ty → ElaboratesTo other expr ty
    elaborated_there as_text = as_text
    elaborated_there as_long = as_long
    elaborated_there as_truth = as_truth
    elaborated_there (as_set element) = as_set (elaborated_there element)
    elaborated_there (as_record members) = as_record (members_there members)
    elaborated_there (as_entity reference name resolves is_entity none) =
        as_entity reference name (resolves_there reference name resolves) (is_entity.0, same.entities name is_entity.1)
        (λ body common. none body (common.0, same.common_back (name, body) common.1))
    elaborated_there (as_common reference name body resolves is_common written) =
        as_common reference name body (resolves_there reference name resolves)
        (is_common.0, same.common (name, body) is_common.1) (elaborated_there written)
    elaborated_there (as_extension name) = as_extension name

    -- the same of the attributes of a record
    members_there : {members : Members} {fields : Fields} → MembersElaborateTo defined members fields
        → MembersElaborateTo other members fields
    members_there as_no_member = as_no_member
    members_there (as_member first rest) = as_member (elaborated_there first) (members_there rest)

  -- an expression is elaborated as no record type alike
  pub no_record_there : (expr : Expr) → IsNoRecord defined expr → IsNoRecord other expr
  no_record_there expr none = (none.0, elaborated_there none.1, none.2)
