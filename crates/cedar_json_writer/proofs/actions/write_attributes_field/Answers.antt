use Rattle.std.proofs.Common.{Global, OnOk, Option, String, codes, option_map, subst, sym}
use Rattle.std.specs.BTreeMap.{BTreeMap}
use Rattle.cedar_json_writer.proofs.actions.write_attributes_field.Goals as goal
use Rattle.cedar_json_writer.specs.Words.{AddsField, Value, pairs_document, written_pairs}

pub returns-clause-written : goal.returns-clause-written
returns-clause-written c =
    subst (λ (o : Option (BTreeMap (String Global) Value)). OnOk c.write_attribute_values.result (AddsField c.args.out.now
    c.write_attribute_values.new.out (codes "attributes") (option_map pairs_document (option_map written_pairs o)))) (sym c.in-Some.is)
    c.write_attribute_values.ensures.written
