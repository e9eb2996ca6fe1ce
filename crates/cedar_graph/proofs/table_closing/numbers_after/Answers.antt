use Rattle.std.proofs.Common.{◌≡◌, ◌++◌, Contains, subst}
use Rattle.std.proofs.lemmas.Bool.Decides.{Decides-eqb}
use Rattle.std.proofs.lemmas.List.Elements.{Contains-append_cases}
use Rattle.std.proofs.lemmas.Option.{MatchOption-at_some}
use Rattle.std.proofs.lemmas.Slice.Eq.{strip_prefix_is}
use Rattle.cedar_graph.proofs.table_closing.numbers_after.Goals as goal

pub returns-in-Some-clause-all : goal.returns-in-Some-clause-all
returns-in-Some-clause-all c = λ number among.
    let parts : c.args.list.now ≡ c.args.known.now ++ c.in-Some.rest.now =
    MatchOption-at_some _ (λ rest. c.args.list.now ≡ c.args.known.now ++ rest.now) c.in-Some.rest c.in-Some.is
    (strip_prefix_is Decides-eqb c.args.list.now c.args.known.now c.strip_prefix.result c.strip_prefix.ensures.cases) in
    Contains-append_cases c.args.known.now c.in-Some.rest.now number (subst (λ xs. Contains xs number) parts among)
