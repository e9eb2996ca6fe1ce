use Rattle.std.proofs.Common.{◌≡◌, ◌+◌, ◌∙◌, IsTrue, ap, subst, sym, arith}
use Rattle.std.proofs.lemmas.Option.{get_or_from_slice_get}
use Rattle.cedar_schema_text_layout.specs.Relaid.{Takes}
use Rattle.cedar_schema_text_layout.proofs.Before.{list_ends, takes_between}
use Rattle.cedar_schema_text_layout.proofs.relaying.Relaying.take_comma.Goals as goal

pub push_without_comma-requires : goal.push_without_comma-requires
push_without_comma-requires c =
    let pieces = c.args.pieces.now in
    let comma = ap (λ it. it.kind) (get_or_from_slice_get pieces c.args.at c.requires.is.0 c.requires.is.0 c.requires.is.1) ∙ c.requires.is.2 in
    let closes : IsTrue c.closes_list.result = c.if-not-closes_list.false in
    record {
      is =
          list_ends pieces c.args.at c.next_token-next.result c.requires.is.0 _ (omega (arith, c.next_token-next.ensures.behind)) c.if-next-pieces.false comma
          (c.closes_list.ensures.0 closes) c.next_token-next.ensures.comments;
    }

pub returns : goal.returns
returns c =
    let pieces = c.args.pieces.now in
    let end = c.next_token-next.result + 1 in
    let same : c.pass-2.new.self.edited ≡ c.push_without_comma.new.self = c.pass-2.ensures ∙ c.pass.ensures in
    subst (Takes pieces c.args.at end) (sym same)
    (takes_between pieces c.args.at end c.args.self.now.edited c.push_without_comma.new.self (omega (arith, c.next_token-next.ensures.behind))
    (omega (arith, c.if-next-pieces.false)) c.requires.so_far c.in_ok-push_without_comma.ensures)
