use Rattle.std.proofs.Common.{map, ap, refl}
use Rattle.cedar_diagnosis.proofs.CountedLemmas.{mentioned}
use Rattle.cedar_diagnosis.proofs.mentions.mentions_of.Goals as goal
use Rattle.cedar_diagnosis.specs.Lent.{declaration_of}
use Rattle.cedar_diagnosis.specs.Mentioned.{reference_of}
use Rattle.cedar_ast.specs.Words.{unreserved_id_text}

pub returns : goal.returns
returns c =
    mentioned (declaration_of c.args.it.now).body _ c.add_counted.new.mentions (ap (map reference_of) c.new.ensures.items)
    (ap (map (λ id. unreserved_id_text id.now)) c.new-2.ensures.items) refl c.in_ok-add_counted.ensures
