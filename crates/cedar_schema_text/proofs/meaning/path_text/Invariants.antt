use Rattle.std.proofs.Common.{◌≡◌, ◌++◌, map, take, codes, string_bytes}
use Rattle.cedar_ast.specs.Joined.{each_after}
use Rattle.cedar_schema_text.proofs.meaning.path_text.Given as goal

abbrev pub invariant-loop-id : goal.invariant-loop-id
invariant-loop-id l =
    string_bytes l.text ≡ string_bytes l.initial.text ++ each_after (codes "::") (map string_bytes (take l.id-index l.others))
