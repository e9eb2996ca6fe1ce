use Rattle.std.proofs.Common.{◌≡◌, [], ◌∷◌, List, OnOk, map, sym, subst, ◌∙◌, Contains}
use Rattle.std.proofs.lemmas.Bool.{false≢true}
use Rattle.cedar_ast.proofs.Names.{entity_type_ord-Equal}
use Rattle.cedar_ast.specs.Words.{type_name}
use Rattle.cedar_ast.specs.contracts.entity_type.EntityTypeOrd.TheImpl as order
use Rattle.cedar_diagnosis.proofs.AddingLemmas.{adds_nothing}
use Rattle.cedar_diagnosis.proofs.EnumeratedLemmas.{found_below}
use Rattle.cedar_diagnosis.proofs.NameLemmas.{named_only}
use Rattle.cedar_diagnosis.proofs.enumerated.EnumeratedBelowFinds.find.Goals as goal
use Rattle.cedar_diagnosis.specs.Adding.{Adds, SomeGives}
use Rattle.cedar_diagnosis.specs.Finding.{FindsEnumeratedBelow, IsBelow}
use Rattle.cedar_diagnosis.specs.KeyTies.{below_told}
use Rattle.cedar_diagnosis.specs.Lent.{declaration_of}
use Rattle.cedar_diagnosis.specs.Mentioned.{reference_of}
use Rattle.cedar_diagnosis.specs.Names.{entity_names_in}
use Rattle.cedar_diagnosis.specs.declared.mentions.WrittenReference.{WrittenReference}
use Rattle.cedar_name_resolution.proofs.SetLemmas.{found-Decides}
use Rattle.cedar_name_resolution.specs.Words.{held_names}

-- what isn't enumerated isn't found
pub returns-then-not-contains : goal.returns-then-not-contains
returns-then-not-contains c =
    let it = declaration_of c.args.it.now in
    let types = c.args.self.now.enumerated.now.keys in
    let lower = type_name c.in-Some.lower in
    let one : lower ∷ [] ≡ entity_names_in it = rw c.in-Some.is at c.in_ok-lower.ensures in
    adds_nothing (FindsEnumeratedBelow (held_names c.args.self.now.defs.now) (map type_name types) it) (map below_told c.args.keys.now.keys)
    (λ fault found.
    let among : Contains (map type_name types) lower =
    subst (Contains (map type_name types)) (sym (named_only lower (entity_names_in it) one found.0 found.2)) found.3 in
    false≢true (sym c.if-not-contains.true ∙ (c.contains.ensures ∙ (found-Decides ((order.ghosts).cmp) type_name entity_type_ord-Equal types c.in-Some.lower).1 among)))

-- anything else is
pub returns : goal.returns
returns c =
    let it = declaration_of c.args.it.now in
    let types = c.args.self.now.enumerated.now.keys in
    let names = held_names c.args.self.now.defs.now in
    let lower = type_name c.in-Some.lower in
    let one : lower ∷ [] ≡ entity_names_in it = rw c.in-Some.is at c.in_ok-lower.ensures in
    let Of : List WrittenReference → Type 0 = λ references.
    OnOk c.add_all.result (Adds (SomeGives (IsBelow names lower) (map reference_of references)) (map below_told c.args.keys.now.keys) (map below_told c.add_all.new.keys.keys)) in
    found_below c.add_all.result names (map type_name types) it lower (map reference_of c.in_ok-positions.positions.items)
    (map below_told c.args.keys.now.keys) (map below_told c.add_all.new.keys.keys) (c.is_external.ensures.0 c.if-not-is_external.false) one
    ((found-Decides ((order.ghosts).cmp) type_name entity_type_ord-Equal types c.in-Some.lower).0 (sym c.contains.ensures ∙ c.if-not-contains.false))
    c.in_ok-positions.ensures (subst Of c.deref.ensures.value c.add_all.ensures)
