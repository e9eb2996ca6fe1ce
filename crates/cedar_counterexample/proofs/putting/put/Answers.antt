use Rattle.std.proofs.Common.{ap, ◌∙◌}
use Rattle.cedar_ast.proofs.ValueCopies.{Pairs, entries_real, plain_pairs, real_entries, texts_sorted}
use Rattle.cedar_ast.specs.Tree.{entries_from, entry_at}
use Rattle.cedar_counterexample.proofs.PutLemmas.{found_put, real_put}
use Rattle.cedar_counterexample.proofs.putting.put.Goals as goal

pub returns-clause-put : goal.returns-clause-put
returns-clause-put c =
    let key = c.args.name in
    let value = c.args.value in
    let old = c.args.values.now.entries in
    let new = c.insert.new.self.entries in
    let is = c.in_ok-_old.ensures.entries in
    record {
      found = λ other. ap (λ (pairs : Pairs). entry_at other (entries_from (plain_pairs pairs))) is ∙ found_put key value other old;
      real = λ real one. entries_real new (texts_sorted new c.insert.ensures.ordered)
          (rw is (real_put key value old (real_entries old real) one));
    }
