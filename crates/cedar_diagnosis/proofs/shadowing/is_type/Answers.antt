use Rattle.std.proofs.Common.{sym, ◌∙◌, inl, inr}
use Rattle.std.proofs.lemmas.Bool.{false≢true}
use Rattle.std.proofs.lemmas.List.Elements.{Contains-append_left, Contains-append_right, Contains-append_cases}
use Rattle.cedar_ast.specs.Words.{name_of}
use Rattle.cedar_diagnosis.proofs.shadowing.is_type.Goals as goal
use Rattle.cedar_name_resolution.specs.Words.{held_names}

pub returns-then-is_defined_as_common : goal.returns-then-is_defined_as_common
returns-then-is_defined_as_common c =
    let held = held_names c.args.declared.now in (
      λ e. Contains-append_left held.common held.entities (name_of c.args.name.now)
          (c.is_defined_as_common.ensures.0 c.if-is_defined_as_common.true),
      λ among. c.if-is_defined_as_common.true,
    )

pub returns-else-is_defined_as_common : goal.returns-else-is_defined_as_common
returns-else-is_defined_as_common c =
    let held = held_names c.args.declared.now in (
      λ e. Contains-append_right held.common held.entities (name_of c.args.name.now) (c.is_defined_as_entity.ensures.0 e),
      λ among. elim (Contains-append_cases held.common held.entities (name_of c.args.name.now) among) [
        | inl here ↦ absurd (false≢true (sym c.if-is_defined_as_common.false ∙ c.is_defined_as_common.ensures.1 here))
        | inr there ↦ c.is_defined_as_entity.ensures.1 there
      ],
    )
