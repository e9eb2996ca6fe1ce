use Rattle.std.proofs.Common.{map}
use Rattle.cedar_ast.specs.Words.{plain_name, unreserved_id_text}
use Rattle.cedar_diagnosis.proofs.AddingLemmas.{gives_all, gives_next, none_give}
use Rattle.cedar_diagnosis.proofs.unknown_extensions.UnknownExtensions.add_all.Goals as goal
use Rattle.cedar_diagnosis.specs.Finding.{IsUnknownExtension}
use Rattle.cedar_schema_semantics.specs.Words.{unknown_extension_type}

pub loop-id-init : goal.loop-id-init
loop-id-init c = none_give (IsUnknownExtension c.args.self.now.extensions.now) (map (λ key. unknown_extension_type (plain_name key)) c.args.keys.now.keys)

pub loop-id-preserved : goal.loop-id-preserved
loop-id-preserved c =
    gives_next (IsUnknownExtension c.args.self.now.extensions.now) (λ id. unreserved_id_text id.now) c.args.ids.now
    (map (λ key. unknown_extension_type (plain_name key)) c.args.keys.now.keys) c.loop-id.id-index c.id-item.result
    (map (λ key. unknown_extension_type (plain_name key)) c.loop-id.keys.keys) (map (λ key. unknown_extension_type (plain_name key)) c.add.new.keys.keys)
    c.loop-id-test.true c.id-item.is c.loop-id.invariant c.in_ok-add.ensures

pub returns : goal.returns
returns c =
    gives_all (IsUnknownExtension c.args.self.now.extensions.now) (λ id. unreserved_id_text id.now) c.args.ids.now
    (map (λ key. unknown_extension_type (plain_name key)) c.args.keys.now.keys) c.loop-id.id-index
    (map (λ key. unknown_extension_type (plain_name key)) c.loop-id.keys.keys) c.loop-id-test.false c.loop-id.invariant
