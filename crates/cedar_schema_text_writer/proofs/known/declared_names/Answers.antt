use Rattle.std.proofs.lemmas.Result.{IfOk-weaker}
use Rattle.cedar_name_resolution.specs.Words.{held_names, listed_names}
use Rattle.cedar_schema_text_writer.proofs.NamesGiven.{all_listed}
use Rattle.cedar_schema_text_writer.proofs.known.declared_names.Goals as goal

pub returns : goal.returns
returns c =
    IfOk-weaker c.into_defs.result _ _ (λ defs held.
    all_listed (listed_names c.none-lists.result) (listed_names c.add_fragment.new.lists) (listed_names c.add_fragments.new.lists) (held_names defs)
    c.args.fragment.now c.args.beside.now c.none-lists.ensures.common c.none-lists.ensures.entities c.none-lists.ensures.actions
    c.in_ok-add_fragment.ensures c.in_ok-add_fragments.ensures held) c.into_defs.ensures
