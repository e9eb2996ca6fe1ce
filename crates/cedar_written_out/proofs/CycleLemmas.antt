-- Common types whose places lead back to themselves are elaborated as no type.
use Rattle.std.proofs.Common.{◌≡◌, ℕ, List, Vec, Some, sym, subst, inl, inr, Contains, arith}
use Rattle.std.specs.Prelude.{slice_get}
use Rattle.cedar_ast.proofs.Chains.{joined}
use Rattle.cedar_elaboration.proofs.IndexLemmas.{Contains-at}
use Rattle.cedar_elaboration.proofs.OrderLemmas.{AreTargets, item_at, targets_at}
use Rattle.cedar_elaboration.proofs.ScopeLemmas.{same_resolves}
use Rattle.cedar_schema_semantics.proofs.OccurrenceLemmas.{value_once}
use Rattle.cedar_schema_semantics.proofs.ResolutionLemmas.{IsFirst-same}
use Rattle.cedar_type_rules.specs.Ty.{Fields, Ty}
use Rattle.cedar_written_out.specs.Words.{AreIndices, Chain, Defined, DefinesJust, ElaboratesTo, Expr, IsCommon, IsDefined, LeadsTo, MayNameCommon, Members, MembersElaborateTo, MembersRefer, Names, PlainName, Reference, Refers, ResolvesTo, as_common, as_entity, as_extension, as_long, as_member, as_no_member, as_record, as_set, as_text, as_truth, item_names, more, names_of, one}

module _ {Z : Type 0} (defined : Defined) (names : Names) (items : List (PlainName × Expr)) (indices : List (PlainName × ℕ))
    (targets : List (Vec ℕ Z)) (defines : DefinesJust items names defined) (numbered : AreIndices (item_names items) indices)
    (turns : AreTargets names indices items targets) where
  -- the reference names the common type at the place
  pub record NamesPlace (reference : Reference) (place : ℕ) : Type 0 where
    pub item : PlainName × Expr
    pub may : MayNameCommon reference.kind
    pub resolves : ResolvesTo (names_of defined) reference item.0
    pub stands : slice_get items place ≡ Some item

  -- a place that a common type leads to is that of one that its definition refers to
  leads_refers : (from to : ℕ) (item : PlainName × Expr) → slice_get items from ≡ Some item → LeadsTo targets from to
      → (reference : Reference) × Refers item.1 reference × NamesPlace reference to
  leads_refers from to item is leads = elim ((targets_at names items indices targets numbered turns from item is).only to leads.0) [
    | inl none ↦ absurd (omega (arith, none.1))
    | inr it ↦
        let other = item_at items to it.2.1 (numbered.sound it.2.1 to it.2.3) in
        let Resolves : PlainName → Type 0 = ResolvesTo (names_of defined) it.0 in
        let named : NamesPlace it.0 to = record {
          item = other.0;
          may = it.2.0;
          resolves = subst Resolves (sym other.2) (same_resolves names (names_of defined) defines.names it.0 it.2.1 it.2.2);
          stands = other.1;
        } in
        (it.0, it.1, named)
  ]

  -- after a place on a cycle comes another on one
  next_on_cycle : (place : ℕ) → Chain (LeadsTo targets) place place
      → (next : ℕ) × LeadsTo targets place next × Chain (LeadsTo targets) next next
  next_on_cycle place (one step) = (place, step, one step)
  next_on_cycle place (more {b = next} step rest) = (next, step, joined rest (one step))

  -- the definition that a reference names is that of the common type at the place
  same_body : (reference : Reference) (name : PlainName) (body : Expr) (place : ℕ) → ResolvesTo (names_of defined) reference name
      → IsCommon defined reference.kind name body → (named : NamesPlace reference place) → body ≡ named.item.1
  same_body reference name body place resolves is_common named =
      let same : name ≡ named.item.0 = IsFirst-same (IsDefined (names_of defined) reference.kind) reference.possibilities name named.item.0
      resolves named.resolves in
      let Stands : PlainName → Type 0 = λ each. Contains items (each, body) in
      let Among : List (PlainName × Expr) → Type 0 = λ list. Contains list (name, body) in
      value_once items (λ key. defines.once key) named.item.0 body named.item.1
      (subst Stands same (subst Among defines.common is_common.1)) (Contains-at items place named.item named.stands)

  mutual
    -- an expression that refers to a common type on a cycle is elaborated as no type
    not_on_cycle : {expr : Expr} {ty : Ty} → ElaboratesTo defined expr ty → (reference : Reference) → Refers expr reference
        → (place : ℕ) → NamesPlace reference place → ¬ Chain (LeadsTo targets) place place
    not_on_cycle as_text reference refers place named chain = absurd refers
    not_on_cycle as_long reference refers place named chain = absurd refers
    not_on_cycle as_truth reference refers place named chain = absurd refers
    not_on_cycle (as_set written) reference refers place named chain = not_on_cycle written reference refers place named chain
    not_on_cycle (as_record written) reference refers place named chain = members_not_on_cycle written reference refers place named chain
    not_on_cycle (as_entity it name resolved is_entity no_common) reference refers place named chain =
        let NamesIt : Reference → Type 0 = λ each. NamesPlace each place in
        let here = subst NamesIt (sym refers) named in
        let same : name ≡ here.item.0 = IsFirst-same (IsDefined (names_of defined) it.kind) it.possibilities name here.item.0
        resolved here.resolves in
        let Stands : PlainName → Type 0 = λ each. Contains items (each, here.item.1) in
        let Among : List (PlainName × Expr) → Type 0 = λ list. Contains list (name, here.item.1) in
        no_common here.item.1 (
          here.may,
          subst Among (sym defines.common) (subst Stands (sym same) (Contains-at items place here.item here.stands)),
        )
    not_on_cycle (as_common it name body resolved is_common written) reference refers place named chain =
        let NamesIt : Reference → Type 0 = λ each. NamesPlace each place in
        let here = subst NamesIt (sym refers) named in
        let onwards = next_on_cycle place chain in
        let next = leads_refers place onwards.0 here.item here.stands onwards.1 in
        let RefersThere : Expr → Type 0 = λ each. Refers each next.0 in
        not_on_cycle written next.0 (subst RefersThere (sym (same_body it name body place resolved is_common here)) next.1) onwards.0
        next.2 onwards.2
    not_on_cycle (as_extension name) reference refers place named chain = absurd refers

    -- the same of attributes
    members_not_on_cycle : {members : Members} {fields : Fields} → MembersElaborateTo defined members fields → (reference : Reference)
        → MembersRefer members reference → (place : ℕ) → NamesPlace reference place → ¬ Chain (LeadsTo targets) place place
    members_not_on_cycle as_no_member reference refers place named chain = absurd refers
    members_not_on_cycle (as_member first later) reference refers place named chain = elim refers [
      | inl here ↦ not_on_cycle first reference here place named chain
      | inr there ↦ members_not_on_cycle later reference there place named chain
    ]

  -- the definition of a common type whose place leads back to itself is elaborated as no type
  pub no_type_on_cycle : (place : ℕ) (item : PlainName × Expr) → slice_get items place ≡ Some item
      → Chain (LeadsTo targets) place place → (ty : Ty) → ¬ ElaboratesTo defined item.1 ty
  no_type_on_cycle place item is chain ty elaborated =
      let onwards = next_on_cycle place chain in
      let next = leads_refers place onwards.0 item is onwards.1 in
      not_on_cycle elaborated next.0 next.1 onwards.0 next.2 onwards.2
