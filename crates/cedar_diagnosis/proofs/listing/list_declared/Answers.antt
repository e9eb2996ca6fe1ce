use Rattle.std.proofs.Common.{[], ◌∷◌, ◌++◌, ap, ◌∙◌}
use Rattle.std.proofs.lemmas.List.{map-append}
use Rattle.cedar_diagnosis.proofs.ListedSoFar.{listed_more}
use Rattle.cedar_diagnosis.proofs.listing.list_declared.Goals as goal
use Rattle.cedar_diagnosis.specs.Lent.{declaration_of, declarations_of, namespace_of}

-- one more declaration is listed
pub loop-id-preserved : goal.loop-id-preserved
loop-id-preserved g c =
    let is = g.T.Declared in
    let namespace = namespace_of c.args.namespace.now in
    let before = c.loop-id.listed.items in
    listed_more (λ entry. record { namespace = namespace; id = is.id_text entry.0; body = is.said namespace entry.1 } ∷ [])
    (declarations_of c.args.listed.now.items) c.args.declared.now.entries c.loop-id.id-iterator c.next.new.self (declarations_of before) _
    (c.in-Some.id.now, c.in-Some.it.now) c.in-Some.ensures.steps
    (ap declarations_of c.in_ok-push.ensures.items
    ∙ (map-append declaration_of before (record { namespace = c.args.namespace; body = c.lend-body.result } ∷ [])
    ∙ (λ i. declarations_of before ++ record { namespace = namespace; id = c.lend-body.ensures.id i; body = c.lend-body.ensures.body namespace i } ∷ [])))
    c.loop-id.invariant
