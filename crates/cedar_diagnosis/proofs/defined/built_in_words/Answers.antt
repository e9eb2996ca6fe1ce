use Rattle.std.proofs.Common.{◌≡◌, List, [], ◌∷◌, ◌++◌, codes, map, ap, sym, ◌∙◌}
use Rattle.std.proofs.lemmas.List.{take_all}
use Rattle.std.proofs.lemmas.Simd.{map-map}
use Rattle.cedar_ast.specs.Words.{PlainName, Text, extension_types, id_text, plain_name}
use Rattle.cedar_ast.specs.declared.name.Name.{Name}
use Rattle.cedar_diagnosis.proofs.defined.built_in_words.Goals as goal
use Rattle.cedar_schema_ast.specs.Words.{Expr, extension_expr}

-- at first there are the primitive types
pub loop-name-init : goal.loop-name-init
loop-name-init c =
    let one = c.in_ok-identifier.field-0 in
    let two = c.in_ok-identifier-2.field-0 in
    let three = c.in_ok-identifier-3.field-0 in
    let all : c.push-3.new.self.items ≡ one ∷ two ∷ three ∷ [] =
    c.in_ok-push-3.ensures.items
    ∙ (λ i. (c.in_ok-push-2.ensures.items
    ∙ (λ j. (c.in_ok-push.ensures.items ∙ (λ k. c.new-words.ensures.items k ++ one ∷ [])) j ++ two ∷ [])) i ++ three ∷ []) in
    ap (map id_text) all ∙ (λ i. c.in_ok-identifier.ensures i ∷ c.in_ok-identifier-2.ensures i ∷ c.in_ok-identifier-3.ensures i ∷ [])

pub returns : goal.returns
returns c =
    let items = c.ext_types-name-items.result.now in
    let primitives : List Text → List Text = λ rest. codes "Bool" ∷ codes "Long" ∷ codes "String" ∷ rest in
    let entry : PlainName → Text × Expr = λ name. (name.base, extension_expr name.base) in
    c.loop-name.invariant
    ∙ ap primitives
    (ap (map (λ (name : Name). (plain_name name).base)) (take_all c.loop-name.name-index items c.loop-name-test.false)
    ∙ (sym (map-map (λ (name : PlainName). name.base) plain_name items)
    ∙ (ap (map (λ (name : PlainName). name.base)) c.ext_types-name-items.ensures
    ∙ sym (map-map (λ (it : Text × Expr). it.0) entry (extension_types c.args.extensions.now)))))
