use Rattle.std.proofs.Common.{◌≡◌, List, [], ◌∷◌, ◌++◌, codes, map, ap, sym, ◌∙◌}
use Rattle.std.proofs.lemmas.List.{take_all}
use Rattle.std.proofs.lemmas.Simd.{map-map}
use Rattle.cedar_ast.specs.declared.id.Id.{Id}
use Rattle.cedar_name_resolution.proofs.built_in.built_in_types.Goals as goal
use Rattle.cedar_name_resolution.specs.Words.{Expr, Name, None, PlainName, Text, extension_expr, long_expr, named_types, plain_name, text_expr, truth_expr}
use Rattle.cedar_schema_ast.proofs.VariantLemmas.{variant-Boolean, variant-Long, variant-String}
use Rattle.cedar_schema_ast.specs.declared.json_schema.type_of.Type.{«Type»}

-- what an extension type stands for, under its base name
abbrev entry : PlainName → Text × Expr
entry name = (name.base, extension_expr name.base)

-- at first there are the primitive types
pub loop-name-init : goal.loop-name-init
loop-name-init g c =
    let N = g.row.N.Denot in
    let refer = g.N.WrittenName.refer None in
    let one : Id × «Type» N = (c.in_ok-identifier.field-0, c.plain.result) in
    let two : Id × «Type» N = (c.in_ok-identifier-2.field-0, c.plain-2.result) in
    let three : Id × «Type» N = (c.in_ok-identifier-3.field-0, c.plain-3.result) in
    let all : c.push-3.new.self.items ≡ one ∷ two ∷ three ∷ [] =
    c.in_ok-push-3.ensures.items
    ∙ (λ i. (c.in_ok-push-2.ensures.items
    ∙ (λ j. (c.in_ok-push.ensures.items ∙ (λ k. c.new-types.ensures.items k ++ one ∷ [])) j ++ two ∷ [])) i ++ three ∷ []) in
    ap (named_types N refer) all
    ∙ (λ i. (c.in_ok-identifier.ensures i, (c.plain.ensures ∙ variant-Boolean N refer) i)
    ∷ (c.in_ok-identifier-2.ensures i, (c.plain-2.ensures ∙ variant-Long N refer) i)
    ∷ (c.in_ok-identifier-3.ensures i, (c.plain-3.ensures ∙ variant-String N refer) i) ∷ [])

pub returns : goal.returns
returns g c =
    let items = c.ext_types-name-items.result.now in
    let primitives : List (Text × Expr) → List (Text × Expr) = λ rest.
    (codes "Bool", truth_expr) ∷ (codes "Long", long_expr) ∷ (codes "String", text_expr) ∷ rest in
    c.loop-name.invariant
    ∙ ap primitives
    (ap (map (λ (name : Name). entry (plain_name name))) (take_all c.loop-name.name-index items c.loop-name-test.false)
    ∙ (sym (map-map entry plain_name items) ∙ ap (map entry) c.ext_types-name-items.ensures))
