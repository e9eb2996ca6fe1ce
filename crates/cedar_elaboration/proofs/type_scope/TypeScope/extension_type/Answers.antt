use Rattle.std.proofs.Common.{map, ap, ◌∙◌, inr, sym}
use Rattle.std.proofs.lemmas.Bool.{false≢true}
use Rattle.cedar_elaboration.proofs.ScopeLemmas.{extension_name-same}
use Rattle.cedar_elaboration.proofs.type_scope.TypeScope.extension_type.Goals as goal
use Rattle.cedar_elaboration.specs.Words.{extension_of, id_text, name_of, unknown_extension_type, unreserved_id_text}

pub returns-then-has_type-clause-ty : goal.returns-then-has_type-clause-ty
returns-then-has_type-clause-ty c =
    c.extension.ensures ∙ ap extension_of (c.in-Some.ensures.name
    ∙ extension_name-same (name_of c.new-name.result) (unreserved_id_text c.args.name.now)
    (c.new-name.ensures.base ∙ (c.into_id.ensures.text ∙ c.in_ok-clone.ensures))
    (c.new-name.ensures.path ∙ ap (map id_text) c.new.ensures.items))

pub returns-then-has_type-clause-known : goal.returns-then-has_type-clause-known
returns-then-has_type-clause-known c =
    rw (
      c.in-Some.ensures.name,
      extension_name-same (name_of c.new-name.result) (unreserved_id_text c.args.name.now)
          (c.new-name.ensures.base ∙ (c.into_id.ensures.text ∙ c.in_ok-clone.ensures))
          (c.new-name.ensures.path ∙ ap (map id_text) c.new.ensures.items),
    ) at
    (c.has_type.ensures.0 c.if-has_type.true)

pub returns-else-has_type-clause-fault : goal.returns-else-has_type-clause-fault
returns-else-has_type-clause-fault c =
    let same = c.in-Some.ensures.name
    ∙ extension_name-same (name_of c.new-name.result) (unreserved_id_text c.args.name.now)
    (c.new-name.ensures.base ∙ (c.into_id.ensures.text ∙ c.in_ok-clone.ensures))
    (c.new-name.ensures.path ∙ ap (map id_text) c.new.ensures.items) in
    inr (
      ap unknown_extension_type same,
      rw (← same) (λ among. false≢true (sym c.if-has_type.false ∙ c.has_type.ensures.1 among)),
    )
