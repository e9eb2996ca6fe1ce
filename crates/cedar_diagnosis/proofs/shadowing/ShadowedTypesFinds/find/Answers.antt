use Rattle.std.proofs.Common.{◌≡◌, [], ◌∷◌, map, refl, sym, subst, ap, ◌∙◌, Contains}
use Rattle.std.proofs.lemmas.Bool.{false≢true}
use Rattle.cedar_ast.specs.Words.{IsReserved, IsUnqualified, PlainName, name_of}
use Rattle.cedar_diagnosis.proofs.AddingLemmas.{adds_found, adds_nothing}
use Rattle.cedar_diagnosis.proofs.NameLemmas.{named_one, named_only}
use Rattle.cedar_diagnosis.proofs.shadowing.ShadowedTypesFinds.find.Goals as goal
use Rattle.cedar_diagnosis.specs.Finding.{FindsShadowedType}
use Rattle.cedar_diagnosis.specs.Lent.{declaration_of}
use Rattle.cedar_diagnosis.specs.Names.{type_names_in}
use Rattle.cedar_name_resolution.specs.Words.{held_names, type_names}
use Rattle.cedar_schema_semantics.specs.Words.{alias_name, type_shadowing}

-- a type in the empty namespace isn't shadowed
pub returns-then-is_unqualified : goal.returns-then-is_unqualified
returns-then-is_unqualified c =
    let it = declaration_of c.args.it.now in
    let name = name_of c.in-Some.name in
    let types = type_names (held_names c.args.self.now.declared.now) in
    let one : name ∷ [] ≡ type_names_in it = rw c.in-Some.is at c.in_ok-name.ensures in
    adds_nothing (FindsShadowedType types it) (map (λ key. type_shadowing (alias_name (name_of key).base) (name_of key)) c.args.keys.now.keys)
    (λ fault found. found.3.1 (subst IsUnqualified (named_only name (type_names_in it) one found.0 found.1)
    (c.is_unqualified.ensures.0 c.if-is_unqualified.true)))

-- nor is one that is reserved
pub returns-then-is_reserved : goal.returns-then-is_reserved
returns-then-is_reserved c =
    let it = declaration_of c.args.it.now in
    let name = name_of c.in-Some.name in
    let types = type_names (held_names c.args.self.now.declared.now) in
    let one : name ∷ [] ≡ type_names_in it = rw c.in-Some.is at c.in_ok-name.ensures in
    adds_nothing (FindsShadowedType types it) (map (λ key. type_shadowing (alias_name (name_of key).base) (name_of key)) c.args.keys.now.keys)
    (λ fault found. found.3.2 (subst IsReserved (named_only name (type_names_in it) one found.0 found.1)
    (c.is_reserved.ensures.0 c.if-is_reserved.true)))

-- another is where the one of its base name there is declared
pub returns-then-is_type : goal.returns-then-is_type
returns-then-is_type c =
    let it = declaration_of c.args.it.now in
    let name = name_of c.in-Some.name in
    let types = type_names (held_names c.args.self.now.declared.now) in
    let one : name ∷ [] ≡ type_names_in it = rw c.in-Some.is at c.in_ok-name.ensures in
    adds_found c.add_key.result (FindsShadowedType types it)
    (map (λ key. type_shadowing (alias_name (name_of key).base) (name_of key)) c.args.keys.now.keys)
    (map (λ key. type_shadowing (alias_name (name_of key).base) (name_of key)) c.add_key.new.keys.keys)
    (type_shadowing (alias_name name.base) name) (
      name,
      named_one name (type_names_in it) one,
      subst (Contains types) c.in_ok-plain.ensures (c.is_type.ensures.0 c.if-is_type.true),
      (
        refl,
        λ plain. false≢true (sym c.if-is_unqualified.false ∙ c.is_unqualified.ensures.1 plain),
        λ reserved. false≢true (sym c.if-is_reserved.false ∙ c.is_reserved.ensures.1 reserved),
        refl,
      ),
      refl,
    )
    (λ fault found. ap (λ (each : PlainName). type_shadowing (alias_name each.base) each) (named_only name (type_names_in it) one found.0 found.1) ∙ found.4)
    c.add_key.ensures

pub returns : goal.returns
returns c =
    let it = declaration_of c.args.it.now in
    let name = name_of c.in-Some.name in
    let types = type_names (held_names c.args.self.now.declared.now) in
    let one : name ∷ [] ≡ type_names_in it = rw c.in-Some.is at c.in_ok-name.ensures in
    adds_nothing (FindsShadowedType types it) (map (λ key. type_shadowing (alias_name (name_of key).base) (name_of key)) c.args.keys.now.keys)
    (λ fault found.
    let There : PlainName → Type 0 = λ each. Contains types (alias_name each.base) in
    let there = subst There (sym (named_only name (type_names_in it) one found.0 found.1)) found.2 in
    false≢true (sym c.if-is_type.false ∙ c.is_type.ensures.1 (subst (Contains types) (sym c.in_ok-plain.ensures) there)))
