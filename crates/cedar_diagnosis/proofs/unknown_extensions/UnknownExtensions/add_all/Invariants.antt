use Rattle.std.proofs.Common.{map, take}
use Rattle.cedar_ast.specs.Words.{plain_name, unreserved_id_text}
use Rattle.cedar_diagnosis.proofs.unknown_extensions.UnknownExtensions.add_all.Given as goal
use Rattle.cedar_diagnosis.specs.Adding.{Adds, SomeGives}
use Rattle.cedar_diagnosis.specs.Finding.{IsUnknownExtension}
use Rattle.cedar_schema_semantics.specs.Words.{unknown_extension_type}

abbrev pub invariant-loop-id : goal.invariant-loop-id
invariant-loop-id l =
    Adds (SomeGives (IsUnknownExtension l.self.extensions.now) (map (λ id. unreserved_id_text id.now) (take l.id-index l.ids)))
    (map (λ key. unknown_extension_type (plain_name key)) l.fn.keys.keys) (map (λ key. unknown_extension_type (plain_name key)) l.keys.keys)
