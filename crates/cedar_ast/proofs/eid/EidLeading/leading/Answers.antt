use Rattle.std.proofs.Common.{ap, ◌+◌, ◌*◌, ◌∙◌}
use Rattle.cedar_ast.proofs.LeadingBytes.{leading_bytes-eighth}
use Rattle.cedar_ast.proofs.eid.EidLeading.leading.Goals as goal
use Rattle.cedar_ast.specs.Words.{leading_bytes}

pub returns : goal.returns
returns c =
    c.leading_number.ensures
    ∙ ap (λ last. leading_bytes 7 c.as_bytes-text.result.now * 256 + last) c.byte_at.ensures
    ∙ leading_bytes-eighth c.as_bytes-text.result.now
    ∙ ap (leading_bytes 8) (c.as_bytes-text.ensures.value ∙ c.as_str.ensures.value)
