use Rattle.std.proofs.Common.{◌≡◌, ◌≤◌, drop}
use Rattle.cedar_schema_tokens.specs.Lexical.{hex_from}
use Rattle.cedar_schema_tokens.proofs.escape.char_of.Given as goal

abbrev pub invariant-loop-byte : goal.invariant-loop-byte
invariant-loop-byte l = (hex_from 0 l.digits ≡ hex_from l.code (drop l.byte-index l.digits)) × (l.code ≤ 0x10_FFFF)
