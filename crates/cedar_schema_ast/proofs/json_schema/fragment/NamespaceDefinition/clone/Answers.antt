use Rattle.std.proofs.Common.{refl, subst, string_bytes, string_cmp}
use Rattle.cedar_ast.proofs.Ids.{unreserved_id_ord-Equal}
use Rattle.cedar_ast.proofs.ShownLemmas.{copy_ties}
use Rattle.cedar_ast.proofs.Texts.{text_cmp-Equal}
use Rattle.cedar_ast.proofs.TurnLemmas.{turn_weaker}
use Rattle.cedar_ast.specs.contracts.unreserved_id.UnreservedIdOrd.TheImpl as unreserved_id_ord
use Rattle.cedar_schema_ast.proofs.json_schema.fragment.NamespaceDefinition.clone.Goals as goal
use Rattle.cedar_schema_ast.specs.Words.{IsActionTypeCopy, IsCommonIdCopy, IsCommonTypeCopy, IsEntityTypeCopy, IsIdCopy, IsTextCopy, common_type_text, unreserved_id_text}
use Rattle.cedar_schema_ast.specs.contracts.json_schema.common_type_id.CommonTypeIdOrd.TheImpl as common_type_id_ord

-- copies of ids of common types tie with them
pub copied_entries-requires-clause-ties : goal.copied_entries-requires-clause-ties
copied_entries-requires-clause-ties g c key answer ran =
    copy_ties (common_type_id_ord.ghosts).cmp common_type_text (λ a b. text_cmp-Equal (common_type_text a) (common_type_text b)) key
    ran.shown.now answer ran.shows ran.says.met

-- copies of ids of entity types tie with them
pub copied_entries-requires-2-clause-ties : goal.copied_entries-requires-2-clause-ties
copied_entries-requires-2-clause-ties g c key answer ran =
    copy_ties (unreserved_id_ord.ghosts).cmp unreserved_id_text unreserved_id_ord-Equal key ran.shown.now answer ran.shows ran.says.met

-- copies of ids of actions tie with them
pub copied_entries-requires-3-clause-ties : goal.copied_entries-requires-3-clause-ties
copied_entries-requires-3-clause-ties g c key answer ran =
    copy_ties string_cmp string_bytes (λ a b. text_cmp-Equal (string_bytes a) (string_bytes b)) key ran.shown.now answer ran.shows ran.says.met

-- each of the three maps is copied, entry by entry
pub returns : goal.returns
returns g c =
    let N = g.row.N.Denot in
    let alike = g.N.FragmentName.is_alike in
    record {
      common_types = turn_weaker _ (λ entry other. IsCommonIdCopy entry.0 other.0 × IsCommonTypeCopy N alike entry.1 other.1)
          (λ entry copy ran. (
            subst (λ it. IsCommonIdCopy it copy.0) ran.0.shows ran.0.says.met,
            subst (λ it. IsCommonTypeCopy N alike it copy.1) ran.1.shows ran.1.says.met,
          )) _ _ c.in_ok-copied_entries.ensures;
      entity_types = turn_weaker _ (λ entry other. IsIdCopy entry.0 other.0 × IsEntityTypeCopy N alike entry.1 other.1)
          (λ entry copy ran. (
            subst (λ it. IsIdCopy it copy.0) ran.0.shows ran.0.says.met,
            subst (λ it. IsEntityTypeCopy N alike it copy.1) ran.1.shows ran.1.says.met,
          )) _ _ c.in_ok-copied_entries-2.ensures;
      actions = turn_weaker _ (λ entry other. IsTextCopy entry.0 other.0 × IsActionTypeCopy N alike entry.1 other.1)
          (λ entry copy ran. (
            subst (λ it. IsTextCopy it copy.0) ran.0.shows ran.0.says.met,
            subst (λ it. IsActionTypeCopy N alike it copy.1) ran.1.shows ran.1.says.met,
          )) _ _ c.in_ok-copied_entries-3.ensures;
      loc = refl;
    }
