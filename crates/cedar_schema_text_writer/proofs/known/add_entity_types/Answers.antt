use Rattle.std.proofs.Common.{map, ap, sym, ◌∙◌}
use Rattle.cedar_ast.specs.Words.{name_of}
use Rattle.cedar_name_resolution.proofs.SetLemmas.{HasAlso-pushed, added_all, added_more, added_none}
use Rattle.cedar_name_resolution.specs.Words.{name_within, namespace_name}
use Rattle.cedar_schema_text_writer.proofs.NamesGiven.{entity_given}
use Rattle.cedar_schema_text_writer.proofs.known.add_entity_types.Goals as goal

pub loop-id-init : goal.loop-id-init
loop-id-init c = added_none _ _ _ _ (sym c.into_iter-id-iterator.ensures.into_iter_gives.0)

pub loop-id-preserved : goal.loop-id-preserved
loop-id-preserved c =
    added_more _ _ _ _ c.next.new.self _ _ (c.in-Some.id.now, c.in-Some._entity_type.now) _ c.in-Some.ensures.steps
    (c.in_ok-name_in.ensures.name ∙ ap (name_within (namespace_name c.args.namespace)) (c.in_ok-id.ensures ∙ c.as_id.ensures.text))
    (HasAlso-pushed name_of _ _ _ c.in_ok-push.ensures.items) c.loop-id.invariant

pub returns : goal.returns
returns c =
    added_all (entity_given (namespace_name c.args.namespace)) (map name_of c.args.names.now.items) c.args.all.now.entries c.loop-id.id-iterator _
    c.in-None.ensures.steps.0 c.loop-id.invariant
