use Rattle.std.proofs.Common.{None, Some, map, sym, ◌≡◌, ◌∙◌}
use Rattle.std.proofs.lemmas.Result.{IfOk-weaker}
use Rattle.cedar_queries.proofs.DeclaredLemmas.{fields_found}
use Rattle.cedar_queries.proofs.known.declared_attributes.Goals as goal
use Rattle.cedar_queries.specs.Words.{declared_fields, fields_of, plain_entry, type_name}

pub returns-in-Some : goal.returns-in-Some
returns-in-Some c =
    let declared = declared_fields (map plain_entry c.args.types.now.entries) (type_name c.args.ty.now) in
    let found = fields_found c.args.types.now c.args.ty.now (Some c.in-Some.entity_type.now) (sym c.in-Some.ensures.value) in
    IfOk-weaker c.clone.result _ (λ attrs. fields_of attrs ≡ declared)
    (λ attrs same. same ∙ (c.attributes.ensures.fields ∙ sym found)) c.clone.ensures.attributes

pub returns-in-None : goal.returns-in-None
returns-in-None c =
    let declared = declared_fields (map plain_entry c.args.types.now.entries) (type_name c.args.ty.now) in
    let found = fields_found c.args.types.now c.args.ty.now None (sym c.in-None.ensures.value) in
    IfOk-weaker c.empty.result _ (λ attrs. fields_of attrs ≡ declared) (λ attrs none. none ∙ sym found) c.empty.ensures
