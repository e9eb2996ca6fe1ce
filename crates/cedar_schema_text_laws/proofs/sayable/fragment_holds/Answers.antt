use Rattle.std.proofs.Common.{option_map}
use Rattle.std.specs.Option.{option_cmp}
use Rattle.cedar_ast.specs.Words.{name_cmp, plain_name}
use Rattle.cedar_json.proofs.NameLemmas.{namespace_order}
use Rattle.cedar_schema_text_laws.proofs.SayableParts.{shown_sorted}
use Rattle.cedar_schema_text_laws.proofs.sayable.fragment_holds.Goals as goal

pub returns : goal.returns
returns c = record {
  sorted = shown_sorted _ (option_cmp name_cmp) (option_map plain_name) namespace_order c.args.fragment.now.0.entries c.each_holds.ensures.ordered;
  each = c.each_holds.ensures.each;
}
