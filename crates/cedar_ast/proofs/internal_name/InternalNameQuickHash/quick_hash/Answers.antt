use Rattle.std.proofs.Common.{ap, sym, ◌∙◌}
use Rattle.cedar_ast.proofs.Names.{internal_name_eq-same}
use Rattle.cedar_ast.proofs.QuickInputs.{name_leading-map, parts_fed, told_by_parts}
use Rattle.cedar_ast.proofs.internal_name.InternalNameQuickHash.quick_hash.Goals as goal
use Rattle.cedar_ast.specs.Words.{name_input, id_text, tells_whole}
use Rattle.cedar_ast.specs.contracts.internal_name.NamePartsHash.TheImpl as name_parts_hash

pub returns-then-not-tells_whole-clause-told : goal.returns-then-not-tells_whole-clause-told
returns-then-not-tells_whole-clause-told g c =
    let parts = c.args.self.now.parts.value in
    let number = c.leading-leading.ensures ∙ name_leading-map id_text (id_text parts.id) parts.path.items in
    told_by_parts g.H.Hasher.write _ _ _ _ _ _ _ _ c.write_u64.ensures c.hash.ensures number
    (ap (name_parts_hash.ghosts).hash_input c.value.ensures ∙ parts_fed parts)
    (ap tells_whole (sym number) ∙ sym c.tells_whole.ensures ∙ c.if-not-tells_whole.true)

pub returns-then-not-tells_whole-clause-alike : goal.returns-then-not-tells_whole-clause-alike
returns-then-not-tells_whole-clause-alike g c other same = ap name_input ((internal_name_eq-same c.args.self.now other).0 same)

pub returns-else-not-tells_whole-clause-alike : goal.returns-else-not-tells_whole-clause-alike
returns-else-not-tells_whole-clause-alike g c other same = ap name_input ((internal_name_eq-same c.args.self.now other).0 same)
