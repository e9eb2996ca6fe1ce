use Rattle.std.proofs.Common.{◌≡◌, ◌∙◌, ap}
use Rattle.cedar_fragments.proofs.DeclaredAsLemmas.{declared_as-within}
use Rattle.cedar_fragments.proofs.ListedFromEnd.{ListedFromEnd-more, ListedFromEnd-none, none_left, same_from_end}
use Rattle.cedar_fragments.proofs.namespace.common_types.CommonTypeDefs.taken_over.Goals as goal
use Rattle.cedar_fragments.specs.Words.{common_type, common_type_text, located_name, name_within, namespace_name, raw_reference, type_expr, RawName}

-- at first no common type is converted
pub loop-id-init : goal.loop-id-init
loop-id-init g c =
    let nothing = c.in_ok-defs.ensures.items in
    (ListedFromEnd-none _ _ _ _ _ nothing, ListedFromEnd-none _ _ _ _ _ nothing)

-- one more common type is converted
pub loop-id-preserved : goal.loop-id-preserved
loop-id-preserved g c =
    let namespace = namespace_name c.args.namespace in
    let text = c.into_id-in-Some.ensures.text ∙ c.into_id.ensures.text in
    let name = c.in_ok-name.ensures.name ∙ ap (name_within namespace) text in
    let located : located_name c.in_ok-name.name
    ≡ record { name = name_within namespace (common_type_text c.in-Some.id); loc = c.in-Some.common.loc } =
    λ i. record { name = name i; loc = c.in_ok-name.ensures.loc i } in (
      ListedFromEnd-more _ _ _ _ _ c.pop_last.new.self.entries _ _ (c.in-Some.id, c.in-Some.common) _ c.in-Some.ensures.removal
          c.in_ok-push.ensures.items
          (declared_as-within namespace (common_type_text c.in-Some.id) (common_type (type_expr RawName (raw_reference namespace) c.in-Some.common.ty)) _ _
          name (ap common_type c.in_ok-ty.ensures)) tt c.loop-id.invariant.0,
      ListedFromEnd-more _ _ _ _ _ c.pop_last.new.self.entries _ _ (c.in-Some.id, c.in-Some.common) _ c.in-Some.ensures.removal
          c.in_ok-push.ensures.items located tt c.loop-id.invariant.1,
    )

-- at the end all are converted
pub returns-clause-declarations : goal.returns-clause-declarations
returns-clause-declarations g c =
    same_from_end _ _ _ _ _ _ _ (none_left c.loop-id.written.entries c.in_default.ensures.variant.1) c.reverse.ensures.items c.loop-id.invariant.0

-- and named where they were written
pub returns-clause-located : goal.returns-clause-located
returns-clause-located g c =
    same_from_end _ _ _ _ _ _ _ (none_left c.loop-id.written.entries c.in_default.ensures.variant.1) c.reverse.ensures.items c.loop-id.invariant.1
