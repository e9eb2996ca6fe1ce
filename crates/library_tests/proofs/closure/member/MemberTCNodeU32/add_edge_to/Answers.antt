use Rattle.std.proofs.Common.{true, nat_eq, cond, sym, ◌∙◌}
use Rattle.std.specs.Cmp.{unsigned_tied}
use Rattle.std.specs.List.{list_any}
use Rattle.cedar_schema_elements.proofs.SetLemmas.{cond-first}
use Rattle.library_tests.proofs.closure.member.MemberTCNodeU32.add_edge_to.Goals as goal

pub returns-clause-added : goal.returns-clause-added
returns-clause-added c other =
    let old = c.args.self.now.owners.keys in
    let new = c.insert.new.self.keys in
    sym (λ i. list_any (λ key. unsigned_tied other key i) new) ∙ c.in_ok-insert.ensures.updates.0 other
    ∙ (λ i. cond (unsigned_tied c.args.key other i) true (list_any (λ key. unsigned_tied other key i) old))
    ∙ cond-first (nat_eq c.args.key other) (list_any (nat_eq other) old)
