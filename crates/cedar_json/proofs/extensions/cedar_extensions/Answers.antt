use Rattle.std.proofs.Common.{ap, ◌∙◌, option_map}
use Rattle.std.specs.BTreeMap.{is_at}
use Rattle.std.specs.Map.{lookup}
use Rattle.cedar_json.proofs.ExtensionLemmas.{looked_up}
use Rattle.cedar_json.proofs.extensions.cedar_extensions.Goals as goal
use Rattle.cedar_json.specs.Words.{name_cmp, signature}

pub returns-clause-functions : goal.returns-clause-functions
returns-clause-functions c = λ name.
    ap (option_map signature) (c.new.ensures.functions name) ∙ looked_up name c.in_ok-functions.functions.entries
    ∙ ap (lookup (is_at (name_cmp name))) c.in_ok-functions.ensures
