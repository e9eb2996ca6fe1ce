use Rattle.std.proofs.lemmas.Bool.{false≢true}
use Rattle.cedar_ast.specs.Words.{name_of}
use Rattle.cedar_name_resolution.specs.Words.{held_names}
use Rattle.cedar_schema_text_writer.proofs.Held.{common_stands, entity_stands, undeclared_stands}
use Rattle.cedar_schema_text_writer.proofs.scope.standing_of.Goals as goal

pub returns-then-is_defined_as_common : goal.returns-then-is_defined_as_common
returns-then-is_defined_as_common c =
    common_stands (held_names c.args.known.now) (name_of c.args.name.now)
    (c.is_defined_as_common.ensures.0 c.if-is_defined_as_common.true)

pub returns-then-is_defined_as_entity : goal.returns-then-is_defined_as_entity
returns-then-is_defined_as_entity c =
    entity_stands (held_names c.args.known.now) (name_of c.args.name.now)
    (λ there. false≢true (cc (c.is_defined_as_common.ensures.1 there, c.if-is_defined_as_common.false)))
    (c.is_defined_as_entity.ensures.0 c.if-is_defined_as_entity.true)

pub returns-else-is_defined_as_entity : goal.returns-else-is_defined_as_entity
returns-else-is_defined_as_entity c =
    undeclared_stands (held_names c.args.known.now) (name_of c.args.name.now)
    (λ there. false≢true (cc (c.is_defined_as_common.ensures.1 there, c.if-is_defined_as_common.false)))
    (λ there. false≢true (cc (c.is_defined_as_entity.ensures.1 there, c.if-is_defined_as_entity.false)))
