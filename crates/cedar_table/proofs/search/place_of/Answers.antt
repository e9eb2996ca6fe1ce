use Rattle.cedar_table.proofs.search.place_of.Goals as goal

pub returns-in-None-clause-lacking : goal.returns-in-None-clause-lacking
returns-in-None-clause-lacking g c = c.in-None.ensures.lacking c.if-hints.true
