use Rattle.std.proofs.Common.{sym, ◌∙◌}
use Rattle.cedar_ast.proofs.LeadingBytes.{by_number, leading_bytes-Less, string_bytes-AreBytes}
use Rattle.cedar_ast.proofs.Texts.{text_cmp-total}
use Rattle.cedar_ast.proofs.eid.EidLeading.order_by_leading.Goals as goal
use Rattle.cedar_ast.specs.Words.{eid_text}

-- unlike leading bytes order as the ids do
pub returns : goal.returns
returns c a b mine others =
    by_number text_cmp-total (eid_text a) (eid_text b) c.args.leading c.args.other
    (λ less. leading_bytes-Less 8 0 (eid_text a) (eid_text b) (string_bytes-AreBytes a.0) (string_bytes-AreBytes b.0) (rw (mine, others) less))
    (λ more. leading_bytes-Less 8 0 (eid_text b) (eid_text a) (string_bytes-AreBytes b.0) (string_bytes-AreBytes a.0) (rw (mine, others) more))
    c.if-leading-other.false
    ∙ sym c.cmp.ensures
