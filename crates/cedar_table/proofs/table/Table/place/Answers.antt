use Rattle.cedar_table.proofs.ColumnLemmas.{no_entry, place_of_entry}
use Rattle.cedar_table.proofs.table.Table.place.Goals as goal

pub returns-clause-found : goal.returns-clause-found
returns-clause-found g c =
    place_of_entry c.self.inside.keys c.self.inside.values.items c.self.invariant g.K.Ord.cmp c.args.key.now
    c.args.self.now c.self.view_is c.place.result c.place.ensures.found

pub returns-clause-lacking : goal.returns-clause-lacking
returns-clause-lacking g c =
    no_entry c.self.inside.keys c.self.inside.values.items c.self.invariant g.K.Ord.cmp c.args.key.now
    c.args.self.now c.self.view_is c.place.result c.place.ensures.lacking
