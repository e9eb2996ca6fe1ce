use Rattle.std.proofs.Common.{List, [], map, subst}
use Rattle.cedar_ast.specs.Words.{PlainName, Text, id_text, name_of}
use Rattle.cedar_ast.specs.declared.id.Id.{Id}
use Rattle.cedar_diagnosis.proofs.DefinedLemmas.{all_held}
use Rattle.cedar_diagnosis.proofs.defined.all_names.Goals as goal
use Rattle.cedar_diagnosis.specs.Adding.{Adds, SomeGives}
use Rattle.cedar_diagnosis.specs.BuiltIn.{IsBuiltInName}
use Rattle.cedar_name_resolution.specs.Words.{HasAlso, held_names, type_names}

pub returns : goal.returns
returns c =
    let declared = held_names c.args.declared in
    let middle = held_names c.in_ok-with_names.field-0 in
    let names = map name_of c.in_ok-names.names.items in
    let Also : List PlainName → Type 0 = λ each. HasAlso middle.common declared.common each in
    let From : List Text → Type 0 = λ words. Adds (SomeGives (IsBuiltInName (type_names declared)) words) [] names in
    let WithWords : List Id → Type 0 = λ words. From (map id_text words) in
    all_held c.with_action_types.result c.args.extensions.now declared middle names
    (rw c.deref-2.ensures.value at c.in_ok-with_names.ensures.common) c.in_ok-with_names.ensures.entities_stay c.in_ok-with_names.ensures.actions_stay
    (subst From c.in_ok-words.ensures (rw c.deref.ensures.value at c.in_ok-names.ensures))
    c.with_action_types.ensures.entities c.with_action_types.ensures.common_stay c.with_action_types.ensures.actions_stay
