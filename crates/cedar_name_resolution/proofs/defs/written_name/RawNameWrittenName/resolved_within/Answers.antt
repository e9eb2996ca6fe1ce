use Rattle.std.proofs.Common.{◌≡◌, List, [], ◌∷◌, IfOk, Some, refl, sym, subst, ◌∙◌}
use Rattle.std.proofs.lemmas.Bool.{false≢true}
use Rattle.cedar_name_resolution.proofs.WrittenNames.{IsFound, answer_alone, with_path_alone, without_path_twice}
use Rattle.cedar_name_resolution.proofs.defs.written_name.RawNameWrittenName.resolved_within.Goals as goal
use Rattle.cedar_name_resolution.specs.Words.{PlainName, held_names, id_text, name_of, name_within, namespace_name}
use Rattle.cedar_schema_ast.specs.Reference.{possible_names}
use Rattle.cedar_schema_ast.specs.Words.{raw_name}

pub returns-then-not-is_unqualified : goal.returns-then-not-is_unqualified
returns-then-not-is_unqualified c =
    let names = held_names c.args.all_defs.now in
    let answer = c.shared_name-then-not-is_unqualified in
    let name = name_of c.as_internal-name.result.now in
    let namespace = name_of c.in-Some.field-0.now in
    let alone : possible_names (Some namespace) name ≡ name ∷ [] =
    with_path_alone namespace name.base name.path (λ is. false≢true (c.if-not-is_unqualified.ensures.1 is)) in
    let possible : name ∷ [] ≡ possible_names (namespace_name c.args.namespace) (raw_name c.args.self.now) =
    sym alone ∙ (λ i. possible_names (namespace_name (sym c.in-Some.is i)) (c.as_internal-name.ensures.name i)) in
    let Found : List PlainName → Type 0 = λ each. IfOk answer.result (IsFound name_of names c.args.kind each) in
    subst Found possible (answer_alone name_of names c.args.kind name answer.result answer.ensures)

pub returns : goal.returns
returns c =
    let names = held_names c.args.all_defs.now in
    let name = name_of c.as_internal-name.result.now in
    let namespace = name_of c.in-Some.field-0.now in
    let base : id_text c.in_ok-base.base ≡ name.base = c.in_ok-base.ensures ∙ c.basename.ensures in
    let within : name_of c.in_ok-within.within ≡ name_within (Some namespace) name.base =
    c.in_ok-within.ensures.name ∙ (λ i. name_within (namespace_name (c.in-Some.is i)) (base i)) in
    let twice : possible_names (Some namespace) name ≡ name_within (Some namespace) name.base ∷ name ∷ [] =
    without_path_twice namespace name.base name.path (c.if-not-is_unqualified.ensures.0 refl) in
    let possible : name_of c.in_ok-within.within ∷ name ∷ [] ≡ possible_names (namespace_name c.args.namespace) (raw_name c.args.self.now) =
    (λ i. within i ∷ name ∷ []) ∙ (sym twice
    ∙ (λ i. possible_names (namespace_name (sym c.in-Some.is i)) (c.as_internal-name.ensures.name i))) in
    let Found : List PlainName → Type 0 = λ each. IfOk c.first_of.result (IsFound name_of names c.args.kind each) in
    subst Found possible c.first_of.ensures
