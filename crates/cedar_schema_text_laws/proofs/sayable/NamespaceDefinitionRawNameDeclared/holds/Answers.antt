use Rattle.std.proofs.Common.{refl, string_bytes}
use Rattle.cedar_ast.specs.Words.{text_cmp, unreserved_id_text}
use Rattle.cedar_schema_ast.specs.Words.{common_type_text}
use Rattle.cedar_schema_text_laws.proofs.SayableParts.{shown_sorted}
use Rattle.cedar_schema_text_laws.proofs.sayable.NamespaceDefinitionRawNameDeclared.holds.Goals as goal

pub returns : goal.returns
returns c =
    let it = c.args.self.now in
    record {
      commons = c.each_holds.ensures.each;
      entities = c.each_holds-2.ensures.each;
      actions = c.each_holds-3.ensures.each;
      commons_sorted = shown_sorted _ text_cmp common_type_text (λ a b. refl) it.common_types.entries c.each_holds.ensures.ordered;
      entities_sorted = shown_sorted _ text_cmp unreserved_id_text (λ a b. refl) it.entity_types.entries c.each_holds-2.ensures.ordered;
      actions_sorted = shown_sorted _ text_cmp string_bytes (λ a b. refl) it.actions.entries c.each_holds-3.ensures.ordered;
    }
