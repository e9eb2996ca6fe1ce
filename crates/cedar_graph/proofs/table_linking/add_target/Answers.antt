use Rattle.std.proofs.Common.{◌≡◌, ◌++◌, ◌∷◌, ◌∙◌, [], ◌<◌, ap, arith, length, sym}
use Rattle.cedar_graph.proofs.Lists.{items_at-read}
use Rattle.cedar_graph.proofs.TableLinking.{target_added, target_cases, target_kept}
use Rattle.cedar_graph.proofs.table_linking.add_target.Goals as goal
use Rattle.cedar_graph.specs.Words.{items_at}

-- the number has a list
within : (c : goal.In_ok-push) → c.args.from < length c.args.targets.now.items
within c = omega (arith, c.requires, c.args.targets.now.ok.0)

-- which has one more
more : (c : goal.In_ok-push) → c.push.new.self.items ≡ items_at c.args.targets.now.items c.args.from ++ c.args.to ∷ []
more c =
    c.in_ok-push.ensures.items
    ∙ ap (λ items. items ++ c.args.to ∷ []) (ap (λ list. list.items) c.index_mut.ensures.value
    ∙ sym (items_at-read c.args.targets.now.items c.args.from c.index_mut.result.now (within c)))

pub returns-clause-added : goal.returns-clause-added
returns-clause-added c = target_added c.args.targets.now.items c.args.from c.args.to c.push.new.self (within c) (more c)

pub returns-clause-kept : goal.returns-clause-kept
returns-clause-kept c = target_kept c.args.targets.now.items c.args.from c.args.to c.push.new.self (within c) (more c)

pub returns-clause-only : goal.returns-clause-only
returns-clause-only c = target_cases c.args.targets.now.items c.args.from c.args.to c.push.new.self (within c) (more c)
