use Rattle.std.proofs.Common.{◌≡◌, ◌++◌, List, map, ap, sym, ◌∙◌, subst}
use Rattle.std.specs.List.{AllByRecursion}
use Rattle.cedar_diagnosis.proofs.TogetherLemmas.{together_both}
use Rattle.cedar_diagnosis.proofs.diagnosis.faults.Goals as goal
use Rattle.cedar_diagnosis.specs.Kinds.{IsDiagnosis, TellsTogether, declared_kinds, told_kinds, type_kinds}
use Rattle.cedar_diagnosis.specs.Lent.{declarations_of}
use Rattle.cedar_diagnosis.specs.declared.lent.Lent.{Lent}
use Rattle.cedar_name_resolution.specs.Words.{HoldsJust, held_names, names_given}
use Rattle.cedar_schema_semantics.specs.Words.{Bag, Fault, defined_names, fault_of}

-- no kind is told twice
kinds_apart : AllByRecursion (λ other'. AllByRecursion (λ kind. ¬ (kind ≡ other')) declared_kinds) type_kinds
kinds_apart = ((λ e. cc, (λ e. cc, (λ e. cc, (λ e. cc, (λ e. cc, (λ e. cc, (λ e. cc, (λ e. cc, tt)))))))), ((λ e. cc, (λ e. cc, (λ e. cc, (λ e. cc, (λ e. cc, (λ e. cc, (λ e. cc, (λ e. cc, tt)))))))), ((λ e. cc, (λ e. cc, (λ e. cc, (λ e. cc, (λ e. cc, (λ e. cc, (λ e. cc, (λ e. cc, tt)))))))), ((λ e. cc, (λ e. cc, (λ e. cc, (λ e. cc, (λ e. cc, (λ e. cc, (λ e. cc, (λ e. cc, tt)))))))), ((λ e. cc, (λ e. cc, (λ e. cc, (λ e. cc, (λ e. cc, (λ e. cc, (λ e. cc, (λ e. cc, tt)))))))), ((λ e. cc, (λ e. cc, (λ e. cc, (λ e. cc, (λ e. cc, (λ e. cc, (λ e. cc, (λ e. cc, tt)))))))), ((λ e. cc, (λ e. cc, (λ e. cc, (λ e. cc, (λ e. cc, (λ e. cc, (λ e. cc, (λ e. cc, tt)))))))), ((λ e. cc, (λ e. cc, (λ e. cc, (λ e. cc, (λ e. cc, (λ e. cc, (λ e. cc, (λ e. cc, tt)))))))), tt))))))))

pub tell_types-requires : goal.tell_types-requires
tell_types-requires c =
    let items = c.in_ok-bag.bag.items in
    let Holds : List Lent → Type 0 = λ each. HoldsJust (held_names c.in_ok-defs.defs) (defined_names (declarations_of each) c.args.extensions.now) in
    let Declares : List Lent → Type 0 = λ each. HoldsJust (held_names c.in_ok-declared.declared) (names_given (declarations_of each)) in
    subst Holds (sym c.deref-3.ensures.value)
    (c.in_ok-defs.ensures (declarations_of items) (subst Declares c.deref.ensures.value c.in_ok-declared.ensures))

pub returns : goal.returns
returns c =
    let items = c.in_ok-bag.bag.items in
    let bag = declarations_of items in
    let extensions = c.args.extensions.now in
    let t0 = map fault_of c.new-faults.result.items in
    let t1 = map fault_of c.tell_declared.new.faults.items in
    let t2 = map fault_of c.tell_types.new.faults.items in
    let First : List Lent → Type 0 = λ each. TellsTogether (declarations_of each) extensions declared_kinds t0 t1 in
    let Second : List Lent → Type 0 = λ each. TellsTogether (declarations_of each) extensions type_kinds t1 t2 in
    let both = together_both bag extensions declared_kinds type_kinds t0 t1 t2 kinds_apart
    (subst First c.deref-2.ensures.value (c.in_ok-tell_declared.ensures extensions c.requires))
    (subst Second c.deref-3.ensures.value c.in_ok-tell_types.ensures) in
    let told : t2 ≡ both.0 = both.1 ∙ ap (λ front. front ++ both.0) (ap (map fault_of) c.new-faults.ensures.items) in
    let Told : List Fault → Type 0 = λ each. IsDiagnosis bag extensions told_kinds each in
    let Of : Bag → Type 0 = λ each. IsDiagnosis each extensions told_kinds t2 in
    subst Of c.in_ok-bag.ensures (subst Told (sym told) both.2)
