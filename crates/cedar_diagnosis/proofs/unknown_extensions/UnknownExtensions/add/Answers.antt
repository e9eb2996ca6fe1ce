use Rattle.std.proofs.Common.{map, sym, subst, ap, ◌∙◌, Contains}
use Rattle.std.proofs.lemmas.Bool.{false≢true}
use Rattle.cedar_ast.specs.Words.{extension_types, plain_name, unreserved_id_text}
use Rattle.cedar_diagnosis.proofs.AddingLemmas.{adds_found}
use Rattle.cedar_diagnosis.proofs.unknown_extensions.UnknownExtensions.add.Goals as goal
use Rattle.cedar_diagnosis.specs.Finding.{IsUnknownExtension}
use Rattle.cedar_schema_semantics.specs.Words.{unknown_extension_type}

-- any other is
pub returns : goal.returns
returns c =
    let extensions = c.args.self.now.extensions.now in
    let known = extension_types extensions in
    let word = unreserved_id_text c.args.id.now in
    let one = unknown_extension_type (plain_name c.in_ok-name.name) in
    adds_found c.add_key.result (IsUnknownExtension extensions word) (map (λ key. unknown_extension_type (plain_name key)) c.args.keys.now.keys)
    (map (λ key. unknown_extension_type (plain_name key)) c.add_key.new.keys.keys) one (
      λ among. false≢true (sym c.if-has_type.false ∙ c.has_type.ensures.1 (subst (Contains known) (sym c.in_ok-name.ensures) among)),
      ap unknown_extension_type (sym c.in_ok-name.ensures),
    )
    (λ fault found. ap unknown_extension_type c.in_ok-name.ensures ∙ found.1) c.add_key.ensures
