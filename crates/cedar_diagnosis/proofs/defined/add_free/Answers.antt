use Rattle.std.proofs.Common.{◌≡◌, false, map}
use Rattle.cedar_ast.specs.Words.{name_of}
use Rattle.cedar_diagnosis.proofs.AddingLemmas.{adds_like}
use Rattle.cedar_diagnosis.proofs.DefinedLemmas.{adds_pushed}
use Rattle.cedar_diagnosis.proofs.defined.add_free.Goals as goal

pub returns-in_ok-push : goal.returns-in_ok-push
returns-in_ok-push c =
    let name = name_of c.args.name in
    adds_like (λ each. name ≡ each) (λ each. (name ≡ each) × (c.args.is_taken ≡ false)) (map name_of c.args.names.now.items)
    (map name_of c.push.new.self.items) (λ each same. (same, c.if-not-is_taken.true)) (λ each both. both.0)
    (adds_pushed name_of c.args.names.now.items c.push.new.self.items c.args.name c.in_ok-push.ensures.items)
