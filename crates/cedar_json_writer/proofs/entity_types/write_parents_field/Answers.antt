use Rattle.std.proofs.Common.{◌≡◌, ◌==◌, ℕ, ap, arith, sym, vec_len, ◌∙◌}
use Rattle.std.proofs.lemmas.Bool.{false≢true}
use Rattle.cedar_ast.proofs.Basics.{OnOk-map}
use Rattle.cedar_json_writer.proofs.WrittenEntities.{some_parents}
use Rattle.cedar_json_writer.proofs.entity_types.write_parents_field.Goals as goal

pub returns : goal.returns
returns c =
    let parents = c.args.parents.now.items in
    OnOk-map c.write_names_field.result c.write_names_field.ensures
    (some_parents c.args.out.now c.write_names_field.new.out parents
    (λ none. let empty : vec_len c.args.parents.now ≡ 0 = omega (arith, none, c.args.parents.now.ok.0) in
    false≢true (sym c.if-is_empty.false ∙ c.is_empty.ensures ∙ ap (λ (n : ℕ). n == 0) empty)))
