use Rattle.std.proofs.Common.{nat_eq, nat_lt, sym, ◌%◌, ◌∙◌}
use Rattle.std.proofs.lemmas.Bool.{and_parts, eqb-true, ltb-true}
use Rattle.cedar_ast.proofs.LeadingBytes.{by_number, name_leading-Equal, name_leading-Less, string_bytes-AreBytes}
use Rattle.cedar_ast.proofs.internal_name.NamePartsLeading.order_by_leading.Goals as goal
use Rattle.cedar_ast.specs.Words.{id_text}
use Rattle.cedar_ast.specs.contracts.internal_name.NamePartsOrd.TheImpl as name_parts_ord

-- what two names begin with orders as they do, where it differs
pub returns-then-leading-other : goal.returns-then-leading-other
returns-then-leading-other c a b mine others =
    by_number name_parts_ord.Laws.total-law a b c.args.leading c.args.other
    (λ less. name_leading-Less _ (id_text a.id) (id_text b.id) (string_bytes-AreBytes a.id.text) (string_bytes-AreBytes b.id.text)
    a.path.items b.path.items (rw (mine, others) less))
    (λ more. name_leading-Less _ (id_text b.id) (id_text a.id) (string_bytes-AreBytes b.id.text) (string_bytes-AreBytes a.id.text)
    b.path.items a.path.items (rw (mine, others) more))
    c.if-leading-other.true
    ∙ sym c.cmp.ensures

-- and where it is the same and tells all, they are the same
pub returns-then-tells_whole : goal.returns-then-tells_whole
returns-then-tells_whole c a b mine others =
    let whole = and_parts (nat_lt (c.args.leading % 256) 16) (nat_eq (c.args.leading % 2) 0) (sym c.tells_whole.ensures ∙ c.if-tells_whole.true) in
    name_leading-Equal _ (id_text a.id) (id_text b.id) (string_bytes-AreBytes a.id.text) (string_bytes-AreBytes b.id.text)
    a.path.items b.path.items (mine ∙ c.if-leading-other.false ∙ sym others) (rw mine (ltb-true _ _ whole.0)) (rw mine (eqb-true _ _ whole.1))
