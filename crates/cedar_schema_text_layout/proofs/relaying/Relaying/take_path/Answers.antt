use Rattle.std.proofs.Common.{◌≢◌, [], subst, sym, arith}
use Rattle.std.specs.List.{AllByRecursion}
use Rattle.cedar_schema_text_layout.specs.Relaid.{IsOfPath}
use Rattle.cedar_schema_text_layout.proofs.Before.{path_tokens, takes_between}
use Rattle.cedar_schema_text_layout.proofs.relaying.Relaying.take_path.Goals as goal

pub push_in_brackets-requires-clause-some : goal.push_in_brackets-requires-clause-some
push_in_brackets-requires-clause-some c =
    let path = c.path_end-end.ensures.path in
    subst (λ xs. xs ≢ []) (sym (path_tokens c.args.pieces.now c.args.at c.path_end-end.result path (omega (arith, c.path_end-end.ensures.behind)))) path.2

pub push_in_brackets-requires-clause-is : goal.push_in_brackets-requires-clause-is
push_in_brackets-requires-clause-is c =
    let path = c.path_end-end.ensures.path in
    subst (AllByRecursion IsOfPath)
    (sym (path_tokens c.args.pieces.now c.args.at c.path_end-end.result path (omega (arith, c.path_end-end.ensures.behind)))) path.3

pub returns : goal.returns
returns c =
    takes_between c.args.pieces.now c.args.at c.path_end-end.result c.args.self.now.edited c.push_in_brackets.new.self c.path_end-end.ensures.behind
    c.path_end-end.ensures.within c.requires.so_far c.in_ok-push_in_brackets.ensures
