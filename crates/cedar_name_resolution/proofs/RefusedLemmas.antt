-- Refusals of references among some, which are refusals among more.
use Rattle.std.proofs.Common.{List, [], subst, inl, inr, Contains, arith}
use Rattle.cedar_ast.proofs.Lists.{Contains-cons_cases}
use Rattle.cedar_name_resolution.specs.Words.{ActionReference, Fault, IsRefused, IsRefusedAmong, IsUnresolvable, Names, QualifyError, Reference, action_not_defined, out_of_memory, qualify_fault, reserved_name, type_not_defined}
use Rattle.cedar_schema_ast.specs.declared.json_schema.qualify_error.QualifyError.TheVariants as error

module _ (names : Names) where
  -- references that are refused among some are refused among others that have all of those
  pub refused_wider : (P Q : Reference → Type 0) → ((reference : Reference) → P reference → Q reference) → (refused : QualifyError)
      → IsRefusedAmong names P refused → IsRefusedAmong names Q refused
  refused_wider P Q to (error.TypeNotDefined it) among =
      λ reference there. let found = among reference there in (to reference found.0, found.1)
  refused_wider P Q to (error.Memory memory) among = tt

  -- a reference that is refused alone is refused among some in which it stands
  pub refused_one : (P : Reference → Type 0) (reference : Reference) → P reference → (refused : QualifyError)
      → IsRefused names reference refused → IsRefusedAmong names P refused
  refused_one P reference holds (error.TypeNotDefined it) alone =
      λ other there.
      let Has : List Reference → Type 0 = λ each. Contains each other in
      elim (Contains-cons_cases reference [] other (subst Has alone.1 there)) [
        | inl same ↦ rw (← same) (holds, alone.0)
        | inr none ↦ absurd (omega (arith, none.1))
      ]
  refused_one P reference holds (error.Memory memory) alone = tt

  -- what can't be resolved among some can't be among more
  pub unresolvable_wider : (P P' : Reference → Type 0) (Q Q' : ActionReference → Type 0) (R R' : Reference → Type 0)
      → ((reference : Reference) → P reference → P' reference) → ((parent : ActionReference) → Q parent → Q' parent)
      → ((reference : Reference) → R reference → R' reference) → (fault : Fault) → IsUnresolvable names P Q R fault
      → IsUnresolvable names P' Q' R' fault
  unresolvable_wider P P' Q Q' R R' p q r (type_not_defined references) unresolvable =
      (unresolvable.0, λ reference among. let each = unresolvable.1 reference among in (p reference each.0, each.1))
  unresolvable_wider P P' Q Q' R R' p q r (action_not_defined actions) unresolvable =
      (unresolvable.0, λ carried among. let each = unresolvable.1 carried among in (each.0, q each.0 each.1, each.2, each.3))
  unresolvable_wider P P' Q Q' R R' p q r (reserved_name name) unresolvable = (unresolvable.0, r unresolvable.0 unresolvable.1, unresolvable.2, unresolvable.3)
  unresolvable_wider P P' Q Q' R R' p q r out_of_memory unresolvable = tt
  unresolvable_wider P P' Q Q' R R' p q r _ unresolvable = absurd unresolvable

  -- references that are refused among some can't be resolved
  pub refused_unresolvable : (P : Reference → Type 0) (Q : ActionReference → Type 0) (R : Reference → Type 0) (refused : QualifyError)
      → IsRefusedAmong names P refused → IsUnresolvable names P Q R (qualify_fault refused)
  refused_unresolvable P Q R (error.TypeNotDefined it) among = ((λ nothing. cc), among)
  refused_unresolvable P Q R (error.Memory memory) among = tt
