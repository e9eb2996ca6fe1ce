use Rattle.std.proofs.Common.{arith}
use Rattle.cedar_ast.proofs.LeadingBytes.{leading_bytes-read}
use Rattle.cedar_ast.proofs.leading.leading_number.Goals as goal

pub returns : goal.returns
returns c = rw (leading_bytes-read c.args.text.now) (omega (
  arith,
  c.from_be_bytes.ensures,
  c.byte_at.ensures,
  c.byte_at-2.ensures,
  c.byte_at-3.ensures,
  c.byte_at-4.ensures,
  c.byte_at-5.ensures,
  c.byte_at-6.ensures,
  c.byte_at-7.ensures,
))
