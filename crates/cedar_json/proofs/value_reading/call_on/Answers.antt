use Rattle.std.proofs.Common.{ap, ◌∙◌}
use Rattle.cedar_ast.proofs.TreeLemmas.{tree_of-call}
use Rattle.cedar_json.proofs.value_reading.call_on.Goals as goal
use Rattle.cedar_json.specs.Words.{call_value, plain_name, trees_of}

pub returns : goal.returns
returns c =
    tree_of-call c.args.function c.in_ok-vec.field-0
    ∙ ap (λ arguments. call_value (plain_name c.args.function) (trees_of arguments)) c.in_ok-vec.ensures.items
