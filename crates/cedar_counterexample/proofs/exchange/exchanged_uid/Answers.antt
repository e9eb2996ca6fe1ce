use Rattle.std.proofs.Common.{inl, inr, refl}
use Rattle.std.proofs.lemmas.Result.{IfOk-weaker}
use Rattle.cedar_ast.proofs.ValueCopies.{uid_real}
use Rattle.cedar_counterexample.proofs.exchange.exchanged_uid.Goals as goal
use Rattle.cedar_counterexample.specs.Words.{StandsFor, uid_of}

-- a uid of the same type stands for another
pub returns-in-Some : goal.returns-in-Some
returns-in-Some g c =
    let it = rw c.in-Some.is at c.in_ok-uid.ensures.some in
    record {
      holds = it.holds;
      real = uid_real c.in-Some.uid;
      same_type = λ _. it.same_type;
      apart = inl it.same_type;
      itself = it.itself;
    }

-- one of another type where none exists
pub returns-in-None : goal.returns-in-None
returns-in-None g c =
    let none = c.in_ok-uid.ensures.none c.in-None.is in
    IfOk-weaker c.other_uid.result _
    (λ it. StandsFor (g.S.Scope.ExistsInOld c.args.exchange.now.scope.now) c.args.exchange.now.longest (uid_of c.args.uid.now) (uid_of it))
    (λ it both. record {
      holds = both.0;
      real = uid_real it;
      same_type = λ has. absurd (none has);
      apart = inr both.1;
      itself = λ is. absurd (none (uid_of c.args.uid.now, refl, uid_real c.args.uid.now, is));
    })
    c.other_uid.ensures
